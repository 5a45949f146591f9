-- Plans before and after K3: those of rules without dead blocks keep their bytes, one that the new sets change is 15, and a dead block has masks 0 and 0 and
-- is not in J. Assumes nothing.
use Prim.Native.Nat.{ℕ, zero, suc, ◌≤◌, ◌<◌}
use mathlib.Core.Path.{◌≡◌, refl, sym, ap, ap₂, subst, ◌∙◌}
use mathlib.Core.Bool.{Bool, true, false, cond, ◌&&◌, ◌||◌}
use mathlib.Core.List.{List, ◌++◌}
use native.Mathlib.Omega.{arith}
use lib.Dec.{eqb, leb}
use lib.ListN.{length, take}
use Rattle.definitions.specs.Rule.{Rule, size, block_of}
use Rattle.definitions.specs.Grammar.{got, refused, rule_of, longest}
use Rattle.definitions.specs.Columns.{LedTo, led_to, Flow, flow_over, jumps_to}
use Rattle.definitions.specs.Plan.{mask_of, entry_of, entries_to, plan_by, plan_of, carried, as_plan, planned, same}
use Rattle.definitions.specs.Pages.{unpacked}
use Rattle.definitions.specs.Calls.{to_compile, bytes_in, columns_reply, Wrote}
use Rattle.definitions.proofs.Tests.{and_parts, not_so, some_same}
use Rattle.definitions.proofs.Agreeing.{Agree, same_inputs, same-outputs, mask-same}
use Rattle.definitions.proofs.Led.{led-exactly, dead-inputs, dead-outputs, dead-joins}
use Rattle.readers.proofs.Accepted.{rule-in}
use Rattle.readers.proofs.Places.{rule-header}
use Rattle.rules.proofs.Uncycled.{rule-parsed}
use Rattle.rules.proofs.Promises.{done-bytes}
use Rattle.plans.specs.Promised.{rule_in_file}
use Rattle.plans.specs.Older.{older_plan, NoneDead, NoColumns}
use Rattle.plans.specs.Accepted.{tree_of, rule_in, Accepted}
use Rattle.plans.proofs.Fields.{plan-carries}
use Rattle.plans.proofs.Accepted.{same-is}
use Rattle.plans.proofs.Promises.{compiled-accepted, compiled}
use Rattle.plans.proofs.Carried.{at-inputs, at-outputs, at-joins}
use Rattle.std.specs.Prelude.{Ok}
use Rattle.definitions.specs.declared.Reason.TheVariants.{NotPlan}
use Rattle.definitions.specs.Refusals.{refusal}

-- ---- only which blocks below n count matters

module _ (r : Rule) (c d : ℕ → Bool) (e : (b : ℕ) → b < size r → c b ≡ d b) where
  abbrev one : Flow
  one = flow_over c r

  abbrev other : Flow
  other = flow_over d r

  counting : Agree one other
  counting = record {
    blocks = refl;
    FV = λ b k h. rw (e b h);
    named = λ b t h. rw (e b h);
    unset = λ b t k h. rw (e b h);
    joins = λ t _. ap (λ (x : Bool). eqb t 0 || x) (some_same (size r) _ _ (λ b h. ap (λ (x : Bool). x && jumps_to (block_of r b).ending t) (e b h)));
  }

  module _ (s : List ℕ) where
    entry-same : (b : ℕ) → b < size r → entry_of one r s b ≡ entry_of other r s b
    unfolding entry_of
    entry-same b h =
        rw (mask-same r.variables _ _ (λ k l. same_inputs counting k b h), mask-same r.variables _ _ (λ k l. same-outputs counting k b h), counting.joins b h)

    entries-same : (k : ℕ) → k ≤ size r → entries_to one r s k ≡ entries_to other r s k
    unfolding entries_to
    entries-same zero h = refl
    entries-same (suc k) h = ap₂ (λ (x y : List ℕ). x ++ y) (entries-same k (omega arith)) (entry-same k h)

    pub plan-same : 0 < size r → plan_by one r s ≡ plan_by other r s
    unfolding plan_by
    plan-same h = rw (mask-same r.variables _ _ (λ k l. same_inputs counting k 0 h), entries-same (size r) (omega arith))

-- ---- the two plans

-- plans of rules without dead blocks keep their bytes
pub kept-bytes : (r : Rule) (s : List ℕ) → 0 < size r → NoneDead r → plan_of r s ≡ older_plan r s
kept-bytes r s h none = plan-same r (led_to r) (λ _. true) (λ b l. (led-exactly r b l).1 (none b l)) s h

-- .. and so what `compile` writes of a file whose rule has none
pub compiled_as_before : (file old : List ℕ) (n : ℕ) (new : List ℕ) → Wrote (to_compile file) old (Ok n) new
    → (s : List ℕ) (m : ℕ) → unpacked file ≡ got s m → (r : Rule) (k : ℕ) → rule_of s ≡ got r k → NoneDead r → take n new ≡ older_plan r s
unfolding to_compile bytes_in
compiled_as_before file old n new w s m f r k e none =
    done-bytes (to_compile file) old n new w ∙ rw (f, e) (kept-bytes r s (rule-in s r k (rule-parsed s r k e)).blocks_from none)

-- a plan that the new sets change is no plan
pub changed_refused : (s : List ℕ) (r : Rule) (n : ℕ) → rule_of s ≡ got r n → (plan_of r s ≡ older_plan r s → ⊥) → planned (older_plan r s) ≡ refused NotPlan 0
unfolding planned
changed_refused s r n e differs =
    let p = older_plan r s in
    let c : carried p ≡ s = plan-carries (flow_over (λ _. true) r) r s (rule-header s r n (rule-parsed s r n e)) (rule-in s r n (rule-parsed s r n e)).blocks_from in
    let no-match : (leb n longest && same (plan_of r (carried p)) p) ≡ true → ⊥ = λ h. differs (ap (plan_of r) (sym c) ∙ same-is (plan_of r (carried p)) p (and_parts (leb n longest) (same (plan_of r (carried p)) p) h).1) in
    ap (as_plan p) (ap rule_of c ∙ e) ∙ ap (λ (x : Bool). cond x (got r n) (refused NotPlan 0)) (not_so (leb n longest && same (plan_of r (carried p)) p) no-match)

-- .. and one that they leave as it is goes on as it did
pub unchanged_accepted : (s : List ℕ) (r : Rule) (n : ℕ) → rule_of s ≡ got r n → length s ≤ longest → plan_of r s ≡ older_plan r s → planned (older_plan r s) ≡ got r n
unchanged_accepted s r n e short is = ap planned (sym is) ∙ compiled-accepted s r n e short

-- so does the call that counts columns say
pub older_columns : (s : List ℕ) (r : Rule) (n : ℕ) → rule_of s ≡ got r n → (plan_of r s ≡ older_plan r s → ⊥) → columns_reply (planned (older_plan r s)) ≡ refusal NotPlan 0
unfolding columns_reply
older_columns s r n e differs = ap columns_reply (changed_refused s r n e differs)

-- ---- a dead block in a plan's bytes

mask_empty : (v : ℕ) (f : ℕ → Bool) → ((k : ℕ) → k < v → f k ≡ false) → mask_of v f ≡ 0
unfolding mask_of
mask_empty zero f h = refl
mask_empty (suc v) f h = rw (mask_empty v f (λ k l. h k (omega arith)), h v (omega arith))

dead_here : (p : List ℕ) (a : Accepted p) (b : ℕ) → b < size (rule_in p) → (LedTo (rule_in p) b → ⊥) → NoColumns p b
dead_here p a b h unled =
    let r = rule_in p in
    let d : led_to r b ≡ false = not_so _ (λ q. unled ((led-exactly r b h).0 q)) in
    record {
      input_none = at-inputs p a b h ∙ mask_empty r.variables _ (λ k l. dead-inputs r b h d k l);
      output-none = at-outputs p a b h ∙ mask_empty r.variables _ (λ k l. dead-outputs r b h d k);
      joins-none = at-joins p a b h ∙ ap (λ (x : Bool). cond x 1 0) (dead-joins r b h d);
    }

pub dead_entry : (plan : List ℕ) (r : Rule) (n : ℕ) → planned plan ≡ got r n → (b : ℕ) → b < size r → (LedTo r b → ⊥) → NoColumns plan b
unfolding tree_of
dead_entry plan r n e =
    let same : rule_in plan ≡ r = ap tree_of e in
    let a : Accepted plan = record { next = n; is = e ∙ ap (λ (x : Rule). got x n) (sym same) } in
    subst (λ (x : Rule). (b : ℕ) → b < size x → (LedTo x b → ⊥) → NoColumns plan b) same (dead_here plan a)

-- .. and so in what `compile` writes
pub compiled_dead : (file old : List ℕ) (n : ℕ) (new : List ℕ) → Wrote (to_compile file) old (Ok n) new → (r : Rule) (m : ℕ) → rule_in_file file ≡ got r m
    → (b : ℕ) → b < size r → (LedTo r b → ⊥) → NoColumns (take n new) b
compiled_dead file old n new w r m e =
    let p = compiled file old n new w in
    let was : got p.rule p.end ≡ got r m = sym p.is ∙ e in
    dead_entry (take n new) r m (p.accepted ∙ was)
