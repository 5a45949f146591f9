-- Whether bytes are a plan: what is carried, read and compiled again. Assumes nothing.
use Prim.Native.Nat.{ℕ, ◌+◌, ◌-◌, ◌≤◌, ◌<◌}
use mathlib.Core.Path.{◌≡◌, refl, sym, ap, ◌∙◌}
use mathlib.Core.Bool.{Bool, true, false}
use mathlib.Core.List.{List, ◌++◌}
use native.Mathlib.Omega.{arith}
use lib.Dec.{eqb}
use lib.ListN.{length, take, drop, length-append, length-take, length-drop, drop_of_length-le}
use lib.Seq.{take_at, take_all, length-take-le}
use Rattle.std.specs.Cmp.Lexicographic.{pointwise}
use Rattle.buffers.specs.Words.{over}
use Rattle.buffers.proofs.Laws.{over-start, over-next}
use Rattle.definitions.specs.Rule.{Rule, size}
use Rattle.definitions.specs.Grammar.{Got, got, refused, read_of, rule_of, longest}
use Rattle.definitions.specs.Columns.{flow_of}
use Rattle.definitions.specs.Plan.{plan_of, same, bodies_at, carried, planned}
use Rattle.definitions.specs.declared.Refusal.{Refusal}
use Rattle.definitions.proofs.Tests.{clash}
use Rattle.pages.proofs.Reading.{absurd_got}
use Rattle.readers.proofs.Accepted.{rule-in}
use Rattle.rules.proofs.FileLaws.{read-got, read-refused}
use Rattle.rules.proofs.Uncycled.{rule-parsed}
use Rattle.plans.specs.Laid.{IsRule, OrderFor, size_for}
use Rattle.plans.specs.Taken.{taken_of, Extracted, Taking}
use Rattle.plans.proofs.Fields.{plan-length}
use Rattle.plans.proofs.Accepted.{Plan, is-plan, same_refl, same-is, same-pointwise}
use Rattle.readers.proofs.Places.{rule_end}
use Rattle.plans.proofs.Ruling.{rule_has_block, plan-sized}
use Rattle.std.specs.Prelude.{Ok, Err}
use Rattle.std.specs.Prelude.{Option, Some, None}

-- a plan that was compiled into a longer buffer, compared at its own size
pub compared : (s : List ℕ) (r : Rule) (m : ℕ) → rule_of s ≡ got r m → (order : List ℕ) → OrderFor s order → (p : List ℕ) (size : ℕ) → size ≡ size_for s order
    → (old new : List ℕ) → new ≡ over old 0 (plan_of r s) → {b : Bool} → b ≡ pointwise eqb (take size new) p → b ≡ same (plan_of r s) p
compared s r m e order o p size es old new w q =
    let long : length (plan_of r s) ≡ size = plan-sized s r m e order o ∙ sym es in
    let part : take size new ≡ plan_of r s = rw (w, over-start old (plan_of r s)) (take_at (plan_of r s) _ size long) in
    q ∙ sym (same-pointwise (take size new) p) ∙ ap (λ l. same l p) part

same_refl' : {x y : List ℕ} → x ≡ y → same x y ≡ true
same_refl' {y} e = rw e (same_refl y)

-- ---- bytes that are no plan
module _ (p : List ℕ) where
  not-plan : ((r : Rule) (n : ℕ) → Plan p r n → ⊥) → taken_of (planned p) ≡ None
  unfolding taken_of
  not-plan h = go (planned p) refl
    where
      go : (g : Got Rule) → planned p ≡ g → taken_of g ≡ None
      go (got r n) e = absurd (h r n ((is-plan p r n).0 e))
      go (refused k at) e = refl

  pub none : taken_of (planned p) ≡ None → (buffer : List ℕ) → Extracted p None buffer
  none e buffer = record {
    not = λ _. e;
    short = λ n d. not-rule n d;
    size = λ n d. not-rule n d;
    bytes = λ n d. not-rule n d;
  }
    where
      not-rule : {C : Type 0} (n : ℕ) → None ≡ Some n → C
      not-rule n d = let z : ◌≡◌ {A = ℕ} 0 1 = cc in absurd (omega arith)

  -- a plan has a block's entry and more
  pub cut_entry : length p < 8 → taken_of (planned p) ≡ None
  cut_entry h = not-plan (λ r n a.
      let l = rule_has_block (carried p) r n a.rule in
      omega (arith, ap length a.bytes, plan-length (flow_of r) r (carried p) (omega arith), (rule-in (carried p) r n (rule-parsed (carried p) r n a.rule)).blocks_from))

  -- where there are no bodies, what is carried is at most a header
  pub cut_bodies : length p < bodies_at p → taken_of (planned p) ≡ None
  cut_bodies h = not-plan (λ r n a. let l = rule_has_block (carried p) r n a.rule in omega (arith, short))
    where
      short : length (carried p) ≤ 4
      short = rw (drop_of_length-le p {i = bodies_at p} (omega arith)) (simp (length-append, length-take) (omega arith))

  -- what stands from the offset on
  pub rest : {at : ℕ} {bodies : List ℕ} → at ≡ bodies_at p → bodies ≡ take (length p - at) (drop at p) → bodies ≡ drop (bodies_at p) p
  rest {at} e b = rw (b, take_all (length p - at) (drop at p) (omega (arith, length-drop at p)), e)

  module _ (h : 4 ≤ length p) {bodies : List ℕ} (are : bodies ≡ drop (bodies_at p) p) where
    carried-length : length (carried p) ≡ 4 + length bodies
    carried-length = rw are (simp (length-append, length-take-le 4 p h))

    pub too_long : longest - 4 < length bodies → taken_of (planned p) ≡ None
    too_long l = not-plan (λ r n a. omega (arith, a.short, rule_end (carried p) r n (rule-parsed (carried p) r n a.rule), carried-length))

    pub all_there : 4 + length bodies ≤ longest → (old : List ℕ) {d₁ d₂ : List ℕ} → longest ≤ length old
        → d₁ ≡ over old 0 (take 4 p) → d₂ ≡ over d₁ 4 bodies → Extracted p (Some (4 + length bodies)) d₂
    all_there short old {d₂ = d₂} room e₁ e₂ =
        let four : length (take 4 p) ≡ 4 = length-take-le 4 p h in
        let all : d₂ ≡ carried p ++ drop (length (carried p)) old =
        rw (e₂, e₁, ← are) (over-next old 0 (take 4 p) 4 bodies (omega arith) (omega arith) ∙ over-start old (take 4 p ++ bodies)) in
        record {
          not = λ d. let z : ◌≡◌ {A = ℕ} 0 1 = cc in absurd (omega arith);
          short = λ n d. let q : 4 + length bodies ≡ n = cc in omega arith;
          size = λ n d. let q : 4 + length bodies ≡ n = cc in sym q ∙ sym carried-length;
          bytes = λ n d. let q : 4 + length bodies ≡ n = cc in rw (all) (take_at (carried p) _ n (carried-length ∙ q));
        }

-- ---- what was carried, read
nothing : {p : List ℕ} {buffer : List ℕ} → taken_of (planned p) ≡ None → Taking p None buffer
nothing e = record { answer = sym e; bytes = λ n f. let z : ◌≡◌ {A = ℕ} 0 1 = cc in absurd (omega arith) }

module _ {p : List ℕ} {t : Option ℕ} {buffer : List ℕ} (c : Extracted p t buffer) where
  module _ (n : ℕ) (carries : t ≡ Some n) where
    pub taken-length : length (take n buffer) ≡ n
    taken-length = ap length (c.bytes n carries) ∙ sym (c.size n carries)

    -- the reader refuses it
    pub taking-refused : (w : Refusal) → read_of (rule_of (take n buffer)) ≡ Err w → Taking p None buffer
    taking-refused w e =
        nothing (not-plan p (λ r k a. let q = a.rule in let u = read-refused (rule_of (take n buffer)) w e in let b = c.bytes n carries in absurd_got (sym u ∙ ap rule_of b ∙ q)))

    module _ (m : ℕ) (e : read_of (rule_of (take n buffer)) ≡ Ok m) where
      is : (r : Rule) × (rule_of (take n buffer) ≡ got r m)
      is = read-got (rule_of (take n buffer)) m e

      pub taken-ruled : IsRule (take n buffer)
      taken-ruled = record { rule = is.0; end = m; is = is.1; short = omega (arith, taken-length, c.short n carries) }

      module _ {b : Bool} (compiles : (r : Rule) (k : ℕ) → rule_of (take n buffer) ≡ got r k → b ≡ same (plan_of r (take n buffer)) p) where
        pub taking-all : b ≡ true → Taking p (Some n) buffer
        unfolding taken_of
        taking-all y =
            let s : plan_of is.0 (take n buffer) ≡ p = same-is _ p (sym (compiles is.0 m is.1) ∙ y) in
            let b = c.bytes n carries in
            let whole : m ≡ n = rule_end (take n buffer) is.0 m (rule-parsed (take n buffer) is.0 m is.1) ∙ taken-length in
            let a : planned p ≡ got is.0 m = (is-plan p is.0 m).1 (record { rule = ap rule_of (sym b) ∙ is.1; short = omega (arith, c.short n carries); bytes = ap (plan_of is.0) (sym b) ∙ s }) in
            record { answer = rw a (ap Some (sym whole)); bytes = λ k f. let q : n ≡ k = cc in rw (← q) b }

        pub taking-not : b ≡ false → Taking p None buffer
        taking-not y =
            let z = c.bytes n carries in
            nothing (not-plan p (λ r k a. let i = ap rule_of z ∙ a.rule in clash (same_refl' (ap (plan_of r) z ∙ a.bytes)) (sym (compiles r k i) ∙ y)))
