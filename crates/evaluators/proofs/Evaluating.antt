-- Each step of the evaluators: what stands after a tag, and what is answered there.
use Prim.Native.Nat.{ℕ, zero, suc, ◌+◌, ◌-◌, ◌<◌, ◌≤◌}
use native.Mathlib.Numerals.{sub-one}
use native.Mathlib.Omega.{arith}
use native.Mathlib.Decide.{dec_lt}
use borrow.Author.Tests.{lt-ltb}
use mathlib.Core.Path.{◌≡◌, refl, sym, subst, ◌∙◌}
use mathlib.Core.Bool.{Bool, true, false, not}
use mathlib.Core.List.{List}
use lib.IntN.{ℤ, pos}
use lib.ListN.{length, get_or}
use Rattle.std.specs.Prelude.{Result, Ok, Err}
use Rattle.definitions.specs.Values.{Word, value, negation}
use Rattle.definitions.specs.declared.Joint.{Joint}
use Rattle.definitions.specs.Rule.{Expr, Cond, Const, Var, Op, Case, Compare, Not, Join}
use Rattle.definitions.specs.Grammar.{Got, got, refused, then, one, two, constant_in, constant_at, variable_at, expr_at, cond_at, expr_body, cond_body}
use Rattle.definitions.specs.Grammar.{expr_tag, cond_tag}
use Rattle.definitions.specs.Meaning.{at_byte, applied, compared, decided, handed_up, operated, related, eval, holds}
use Rattle.definitions.specs.Spelling.{expr_size, cond_size}
use Rattle.definitions.specs.declared.Flaw.{Flaw}
use Rattle.definitions.proofs.Values.{value-at}
use Rattle.values.specs.Tags.{operator_of, relation_of, joint_of}
use Rattle.values.proofs.Tags.{operator_tag, relation_tag, joint_tag}
use Rattle.evaluators.specs.Skip.{past}
use Rattle.evaluators.specs.Answer.{Sized, Readable, value_at, answer, holding, pair_of, pairs, answers, picked, case_from}
use Rattle.evaluators.proofs.Reading.{no_got, one-got, byte-got, constant-got, variable_got}
use Rattle.evaluators.proofs.Skipping.{expr_past, cond-past, past_one}
use Rattle.evaluators.proofs.Sizes.{expr_size_lem, cond-size}
use Rattle.evaluators.proofs.Tags.{expr_bad, cond-bad}
use Rattle.evaluators.proofs.Answers.{got-is, is-got, value-is, fault-is, holds-is, held_fault_is, values_are, both_fault_is}
use Rattle.definitions.specs.declared.Reason.TheVariants.{BadTag, TooDeep}

-- ---- what stands in parts
pub then-first : {A B : Type 0} (p : Got A) (f : A → ℕ → Got B) → Readable (then p f) → Readable p
unfolding Readable
then-first (got a n) f st = tt
then-first (refused k q) f st = st

then_next : {A B : Type 0} (p : Got A) (f : A → ℕ → Got B) (a : A) (n : ℕ) → p ≡ got a n → Readable (then p f) → Readable (f a n)
then_next p f a n e st = rw e at st

-- the second of two, where the first ends at m
two-second : {A B : Type 0} (f : A → A → B) (E : ℕ → Got A) (at : ℕ) (a : A) (m : ℕ) → E at ≡ got a m → Readable (two f E at) → (b : A) × (n : ℕ) × (E m ≡ got b n)
two-second f E at a m e st = got-is (E m) (then-first _ _ (then_next (E at) (λ a n. then (E n) (λ b m. got (f a b) m)) a m e st))

-- what is made of two readings is made of the pair
two-map : {B : Type 0} (f : Expr → Expr → B) (E : ℕ → Got Expr) (at : ℕ) → two f E at ≡ then (pairs E at) (λ q n. got (f q.0 q.1) n)
two-map f E at = go (E at)
  where
    last : (a : Expr) (q : Got Expr) → then q (λ b m. got (f a b) m) ≡ then (then q (λ b m. got (pair_of a b) m)) (λ q n. got (f q.0 q.1) n)
    last a (got b m) = refl
    last a (refused k p) = refl

    go : (p : Got Expr) → then p (λ a n. then (E n) (λ b m. got (f a b) m)) ≡ then (then p (λ a n. then (E n) (λ b m. got (pair_of a b) m))) (λ q n. got (f q.0 q.1) n)
    go (got a n) = last a (E n)
    go (refused k q) = refl

two-pairs : {B : Type 0} (f : Expr → Expr → B) (E : ℕ → Got Expr) (at : ℕ) → Readable (two f E at) → Readable (pairs E at)
two-pairs f E at st = then-first (pairs E at) _ (rw (two-map f E at) at st)

-- ---- two expressions
module _ (left v : ℕ) (s : List ℕ) (at : ℕ) (env : List Word) (st : Readable (pairs (expr_at left v s) at)) where
  pub two-next : (x : ℤ) (n : ℕ) → answer (expr_at left v s at) at env ≡ Ok (x, n) → Readable (expr_at left v s n)
  two-next x n h =
      let g₁ = value-is env at (expr_at left v s at) x n h in
      let u = two-second pair_of (expr_at left v s) at g₁.0 n g₁.1 st in
      is-got (expr_at left v s n) u.0 u.1 u.2

  pub two-values : (x : ℤ) (n : ℕ) (y : ℤ) (m : ℕ) → answer (expr_at left v s at) at env ≡ Ok (x, n) → answer (expr_at left v s n) n env ≡ Ok (y, m) → Ok (x, y, m) ≡ answers (pairs (expr_at left v s) at) at env
  unfolding answers
  two-values x n y m h g =
      let g₁ = value-is env at (expr_at left v s at) x n h in
      let u = value-is env n (expr_at left v s n) y m g in
      rw (g₁.1, u.1, sym (expr_size_lem left v s at g₁.0 n g₁.1), g₁.2, u.2)

  pub two-fault : (k : Flaw) → answer (expr_at left v s at) at env ≡ Err k → Err k ≡ answers (pairs (expr_at left v s) at) at env
  unfolding answers
  two-fault k h =
      let g₁ = fault-is env at (expr_at left v s at) k (then-first _ _ st) h in
      let u = two-second pair_of (expr_at left v s) at g₁.0 g₁.1 g₁.2 st in
      rw (g₁.2, u.2, g₁.3)

  pub two_fault_2 : (x : ℤ) (n : ℕ) (k : Flaw) → answer (expr_at left v s at) at env ≡ Ok (x, n) → answer (expr_at left v s n) n env ≡ Err k → Err k ≡ answers (pairs (expr_at left v s) at) at env
  unfolding answers
  two_fault_2 x n k h g =
      let g₁ = value-is env at (expr_at left v s at) x n h in
      let u = fault-is env n (expr_at left v s n) k (two-next x n h) g in
      rw (g₁.1, u.2, sym (expr_size_lem left v s at g₁.0 n g₁.1), g₁.2, u.3)

  -- one of them, the other passed over
  pub arm_second : Readable (expr_at left v s (past 1 s at))
  arm_second =
      let g₁ = got-is (expr_at left v s at) (then-first _ _ st) in
      let u = two-second pair_of (expr_at left v s) at g₁.0 g₁.1 g₁.2 st in
      rw (past_one s (expr_at left v s) (expr_past left v s) at g₁.0 g₁.1 g₁.2) (is-got (expr_at left v s g₁.1) u.0 u.1 u.2)

  pub arm_fault : (k : Flaw) → answer (expr_at left v s at) at env ≡ Err k → Err k ≡ picked true (pairs (expr_at left v s) at) at env
  unfolding picked
  arm_fault k h =
      let g₁ = fault-is env at (expr_at left v s at) k (then-first _ _ st) h in
      let u = two-second pair_of (expr_at left v s) at g₁.0 g₁.1 g₁.2 st in
      rw (g₁.2, u.2, g₁.3)

  pub arm_true : (x : ℤ) (n : ℕ) → answer (expr_at left v s at) at env ≡ Ok (x, n) → Ok (x, past 1 s n) ≡ picked true (pairs (expr_at left v s) at) at env
  unfolding picked
  arm_true x n h =
      let g₁ = value-is env at (expr_at left v s at) x n h in
      let u = two-second pair_of (expr_at left v s) at g₁.0 n g₁.1 st in
      rw (g₁.1, u.2, g₁.2, past_one s (expr_at left v s) (expr_past left v s) n u.0 u.1 u.2)

  pub arm_false : (r : Result (ℤ × ℕ) Flaw) → r ≡ answer (expr_at left v s (past 1 s at)) (past 1 s at) env → r ≡ picked false (pairs (expr_at left v s) at) at env
  unfolding answer picked
  arm_false r e =
      let g₁ = got-is (expr_at left v s at) (then-first _ _ st) in
      let u = two-second pair_of (expr_at left v s) at g₁.0 g₁.1 g₁.2 st in
      rw (g₁.2, u.2, sym (expr_size_lem left v s at g₁.0 g₁.1 g₁.2)) (rw (past_one s (expr_at left v s) (expr_past left v s) at g₁.0 g₁.1 g₁.2, u.2) at e)

-- ---- a case
module _ (left v : ℕ) (s : List ℕ) (at : ℕ) (env : List Word) (st : Readable (case_from (expr_at left v s) (cond_at left v s) at)) where
  pub case_next : (h : Bool) (n : ℕ) → holding (cond_at left v s at) at env ≡ Ok (h, n) → Readable (pairs (expr_at left v s) n)
  case_next h n e =
      let g₁ = holds-is env at (cond_at left v s at) h n e in
      two-pairs (Case g₁.0) (expr_at left v s) n (then_next (cond_at left v s at) (λ c n. two (Case c) (expr_at left v s) n) g₁.0 n g₁.1 st)

  pub case_fault : (k : Flaw) (p : ℕ) → at ≡ p + 1 → holding (cond_at left v s at) at env ≡ Err k → Err k ≡ answer (case_from (expr_at left v s) (cond_at left v s) at) p env
  unfolding answer eval
  case_fault k p i e =
      let g₁ = held_fault_is env at (cond_at left v s at) k (then-first _ _ st) e in
      let u = got-is (pairs (expr_at left v s) g₁.1) (two-pairs (Case g₁.0) (expr_at left v s) g₁.1 (then_next (cond_at left v s at) (λ c n. two (Case c) (expr_at left v s) n) g₁.0 g₁.1 g₁.2 st)) in
      rw (g₁.2, two-map (Case g₁.0) (expr_at left v s) g₁.1, u.2, sym i, g₁.3)

  pub case_value : (h : Bool) (n : ℕ) (r : Result (ℤ × ℕ) Flaw) (p : ℕ) → at ≡ p + 1 → holding (cond_at left v s at) at env ≡ Ok (h, n) → r ≡ picked h (pairs (expr_at left v s) n) n env → r ≡ answer (case_from (expr_at left v s) (cond_at left v s) at) p env
  unfolding answer eval picked
  case_value h n r p i e g =
      let g₁ = holds-is env at (cond_at left v s at) h n e in
      let u = got-is (pairs (expr_at left v s) n) (case_next h n e) in
      let m = cond-size left v s at g₁.0 n g₁.1 in
      let first : p + (1 + cond_size g₁.0) ≡ n = omega arith in
      let second : p + (1 + cond_size g₁.0 + expr_size u.0.0) ≡ n + expr_size u.0.0 = omega arith in
      rw (g₁.1, two-map (Case g₁.0) (expr_at left v s) n, u.2, sym i, first, second, g₁.2) (rw u.2 at g)

-- ---- two conditions
module _ (left v : ℕ) (s : List ℕ) (at : ℕ) (env : List Word) (j : Joint) (st : Readable (two (Join j) (cond_at left v s) at)) where
  pub join_next : (h : Bool) (n : ℕ) → holding (cond_at left v s at) at env ≡ Ok (h, n) → Readable (cond_at left v s n)
  join_next h n e =
      let g₁ = holds-is env at (cond_at left v s at) h n e in
      let u = two-second (Join j) (cond_at left v s) at g₁.0 n g₁.1 st in
      is-got (cond_at left v s n) u.0 u.1 u.2

  pub join_fault : (k : Flaw) (p : ℕ) → at ≡ p + 1 → holding (cond_at left v s at) at env ≡ Err k → Err k ≡ holding (two (Join j) (cond_at left v s) at) p env
  unfolding holding holds
  join_fault k p i e =
      let g₁ = held_fault_is env at (cond_at left v s at) k (then-first _ _ st) e in
      let u = two-second (Join j) (cond_at left v s) at g₁.0 g₁.1 g₁.2 st in
      rw (g₁.2, u.2, sym i, g₁.3)

  -- the left side decides, or not
  pub join_left : (h : Bool) (n p : ℕ) → at ≡ p + 1 → holding (cond_at left v s at) at env ≡ Ok (h, n) → decided j h ≡ true → Ok (h, past 1 s n) ≡ holding (two (Join j) (cond_at left v s) at) p env
  unfolding holding holds
  join_left h n p i e d =
      let g₁ = holds-is env at (cond_at left v s at) h n e in
      let u = two-second (Join j) (cond_at left v s) at g₁.0 n g₁.1 st in
      rw (g₁.1, u.2, sym i, g₁.2, d, past_one s (cond_at left v s) (cond-past left v s) n u.0 u.1 u.2)

  pub join_right : (h : Bool) (n : ℕ) (r : Result (Bool × ℕ) Flaw) (p : ℕ) → at ≡ p + 1 → holding (cond_at left v s at) at env ≡ Ok (h, n) → decided j h ≡ false → r ≡ holding (cond_at left v s n) n env → r ≡ holding (two (Join j) (cond_at left v s) at) p env
  unfolding holding holds
  join_right h n r p i e d g =
      let g₁ = holds-is env at (cond_at left v s at) h n e in
      let u = two-second (Join j) (cond_at left v s) at g₁.0 n g₁.1 st in
      let m = cond-size left v s at g₁.0 n g₁.1 in
      let second : p + (1 + cond_size g₁.0) ≡ n = omega arith in
      rw (g₁.1, u.2, sym i, second, g₁.2, d) (rw u.2 at g)

-- ---- one level of an expression
module _ (left v : ℕ) (s : List ℕ) (at : ℕ) (st : Readable (expr_at left v s at)) where
  -- a tag stands there, and a level is left
  pub expr_there : (at < length s) × (1 ≤ left)
  unfolding expr_at
  expr_there = go left (got-is (expr_at left v s at) st).2
    where
      go : (d : ℕ) {e : Expr} {n : ℕ} → expr_at d v s at ≡ got e n → (at < length s) × (1 ≤ d)
      go zero {e} {n} q = absurd (no_got TooDeep at e n (byte-got s at (λ t _. refused TooDeep at) e n q).1)
      go (suc d) {e} {n} q = ((byte-got s at (λ t _. expr_body (expr_tag t) v s (λ n. expr_at d v s n) (λ n. cond_at d v s n) at) e n q).0, omega arith)

  -- what follows the tag
  pub expr_is : expr_at left v s at ≡ expr_body (expr_tag (get_or s at 0)) v s (λ n. expr_at (left - 1) v s n) (λ n. cond_at (left - 1) v s n) at
  unfolding expr_at
  expr_is = go left expr_there.1
    where
      go : (d : ℕ) → 1 ≤ d → expr_at d v s at ≡ expr_body (expr_tag (get_or s at 0)) v s (λ n. expr_at (d - 1) v s n) (λ n. cond_at (d - 1) v s n) at
      go zero h = absurd (omega arith)
      go (suc d) h = simp (lt-ltb at (length s) expr_there.0, sub-one)

  expr_as : (tag : ℕ) → get_or s at 0 ≡ tag → expr_at left v s at ≡ expr_body (expr_tag tag) v s (λ n. expr_at (left - 1) v s n) (λ n. cond_at (left - 1) v s n) at
  expr_as tag e = rw (← e) expr_is

  -- a constant
  expr_const : get_or s at 0 ≡ 0x01 → (n : ℕ) × (expr_at left v s at ≡ got (Const (constant_in s (at + 1))) n) × (n ≡ at + 1 + 4) × (at + 1 + 4 ≤ length s)
  expr_const e =
      let g = got-is (expr_at left v s at) st in
      let w = one-got Const (constant_at s) (at + 1) g.0 g.1 (sym (expr_as 0x01 e) ∙ g.2) in
      let c = constant-got s (at + 1) w.0 g.1 w.1 in
      (g.1, g.2 ∙ rw (w.2, c.1), c.2, c.0)

  pub const_there : get_or s at 0 ≡ 0x01 → at + 1 + 4 ≤ length s
  const_there e = (expr_const e).3

  pub const_answer : (env : List Word) (r : Result (ℤ × ℕ) Flaw) → get_or s at 0 ≡ 0x01 → r ≡ Ok (constant_in s (at + 1), at + 1 + 4) → r ≡ answer (expr_at left v s at) at env
  unfolding answer eval
  const_answer env r e q = let w = expr_const e in rw (w.1, w.2) q

  -- a variable
  expr_var : get_or s at 0 ≡ 0x02 → (n : ℕ) × (expr_at left v s at ≡ got (Var (get_or s (at + 1) 0)) n) × (n ≡ at + 1 + 1) × (at + 1 < length s) × (get_or s (at + 1) 0 < v)
  expr_var e =
      let g = got-is (expr_at left v s at) st in
      let w = one-got Var (variable_at v s) (at + 1) g.0 g.1 (sym (expr_as 0x02 e) ∙ g.2) in
      let c = variable_got s (at + 1) v w.0 g.1 w.1 in
      (g.1, g.2 ∙ rw (w.2, c.2), c.3, c.0, c.1)

  pub var_there : Sized v s → get_or s at 0 ≡ 0x02 → (at + 1 < 4064) × (get_or s (at + 1) 0 < 16)
  var_there h e = let w = expr_var e in (omega (arith, w.3), omega (arith, w.4))

  pub var_answer : (env : List Word) (r : Result (ℤ × ℕ) Flaw) → get_or s at 0 ≡ 0x02 → r ≡ Ok (get_or env (get_or s (at + 1) 0) (pos 0), at + 1 + 1) → r ≡ answer (expr_at left v s at) at env
  unfolding answer eval
  var_answer env r e q = let w = expr_var e in rw (w.1, w.2, value-at env (get_or s (at + 1) 0)) q

  -- a negation
  pub neg_stands : get_or s at 0 ≡ 0x03 → Readable (expr_at (left - 1) v s (at + 1))
  neg_stands e = then-first (expr_at (left - 1) v s (at + 1)) _ (subst (λ (g : Got Expr). Readable g) (expr_as 0x03 e) st)

  pub neg_value : (env : List Word) (x : ℤ) (n : ℕ) (r : Result (ℤ × ℕ) Flaw) → get_or s at 0 ≡ 0x03 → answer (expr_at (left - 1) v s (at + 1)) (at + 1) env ≡ Ok (x, n) → r ≡ value_at (handed_up (at_byte at) (negation x)) n → r ≡ answer (expr_at left v s at) at env
  unfolding answer eval
  neg_value env x n r e h q = let w = value-is env (at + 1) (expr_at (left - 1) v s (at + 1)) x n h in rw (expr_as 0x03 e, w.1, w.2) q

  pub neg_fault : (env : List Word) (k : Flaw) → get_or s at 0 ≡ 0x03 → answer (expr_at (left - 1) v s (at + 1)) (at + 1) env ≡ Err k → Err k ≡ answer (expr_at left v s at) at env
  unfolding answer eval
  neg_fault env k e h = let w = fault-is env (at + 1) (expr_at (left - 1) v s (at + 1)) k (neg_stands e) h in rw (expr_as 0x03 e, w.2, w.3)

  -- a case
  pub case_stands : get_or s at 0 ≡ 0x09 → Readable (case_from (expr_at (left - 1) v s) (cond_at (left - 1) v s) (at + 1))
  case_stands e = subst (λ (g : Got Expr). Readable g) (expr_as 0x09 e) st

  pub case_answer : (env : List Word) (r : Result (ℤ × ℕ) Flaw) → get_or s at 0 ≡ 0x09 → r ≡ answer (case_from (expr_at (left - 1) v s) (cond_at (left - 1) v s) (at + 1)) at env → r ≡ answer (expr_at left v s at) at env
  case_answer env r e q = rw (expr_as 0x09 e) q

  -- an operator: no other tag is left
  pub op_range : (get_or s at 0 ≡ 0x01 → ⊥) → (get_or s at 0 ≡ 0x02 → ⊥) → (get_or s at 0 ≡ 0x03 → ⊥) → (get_or s at 0 ≡ 0x09 → ⊥) → (4 ≤ get_or s at 0) × (get_or s at 0 ≤ 8)
  op_range a b c d = go (dec_lt (get_or s at 0) 1) (dec_lt 9 (get_or s at 0))
    where
      bad : (1 ≤ get_or s at 0 → get_or s at 0 ≤ 9 → ⊥) → ⊥
      bad out =
          let g = got-is (expr_at left v s at) st in
          let q : expr_at left v s at ≡ refused BadTag at = expr_is ∙ rw (expr_bad (get_or s at 0) out) in
          no_got BadTag at g.0 g.1 (sym q ∙ g.2)

      go : Dec (get_or s at 0 < 1) → Dec (9 < get_or s at 0) → (4 ≤ get_or s at 0) × (get_or s at 0 ≤ 8)
      go (yes l) h = absurd (bad (λ x y. omega arith))
      go (no l) (yes h) = absurd (bad (λ x y. omega arith))
      go (no l) (no h) = omega arith

  module _ (low : 4 ≤ get_or s at 0) (high : get_or s at 0 ≤ 8) where
    expr-op : expr_at left v s at ≡ two (Op (operator_of (get_or s at 0))) (λ n. expr_at (left - 1) v s n) (at + 1)
    expr-op = expr_is ∙ rw (operator_tag (get_or s at 0) low high)

    pub op-stands : Readable (pairs (expr_at (left - 1) v s) (at + 1))
    op-stands = two-pairs (Op (operator_of (get_or s at 0))) (expr_at (left - 1) v s) (at + 1) (subst (λ (g : Got Expr). Readable g) expr-op st)

    pub op-values : (env : List Word) (x y : ℤ) (n : ℕ) (r : Result (ℤ × ℕ) Flaw) → answers (pairs (expr_at (left - 1) v s) (at + 1)) (at + 1) env ≡ Ok (x, y, n) → r ≡ value_at (handed_up (at_byte at) (applied (operator_of (get_or s at 0)) x y)) n → r ≡ answer (expr_at left v s at) at env
    unfolding answer eval
    op-values env x y n r h e =
        let g₁ = values_are env (at + 1) (pairs (expr_at (left - 1) v s) (at + 1)) x y n h in
        let along : at + (1 + expr_size g₁.0.0) ≡ at + 1 + expr_size g₁.0.0 = omega arith in
        rw (expr-op, two-map (Op (operator_of (get_or s at 0))) (expr_at (left - 1) v s) (at + 1), g₁.1, along, g₁.2, g₁.3) e

    pub op-fault : (env : List Word) (k : Flaw) → answers (pairs (expr_at (left - 1) v s) (at + 1)) (at + 1) env ≡ Err k → Err k ≡ answer (expr_at left v s at) at env
    unfolding answer eval
    op-fault env k h =
        let g₁ = both_fault_is env (at + 1) (operated (at_byte at) (operator_of (get_or s at 0))) (pairs (expr_at (left - 1) v s) (at + 1)) k op-stands h in
        let along : at + (1 + expr_size g₁.0.0) ≡ at + 1 + expr_size g₁.0.0 = omega arith in
        rw (expr-op, two-map (Op (operator_of (get_or s at 0))) (expr_at (left - 1) v s) (at + 1), g₁.2, along, g₁.3)

-- ---- one level of a condition
module _ (left v : ℕ) (s : List ℕ) (at : ℕ) (st : Readable (cond_at left v s at)) where
  pub cond-there : (at < length s) × (1 ≤ left)
  unfolding cond_at
  cond-there = go left (got-is (cond_at left v s at) st).2
    where
      go : (d : ℕ) {e : Cond} {n : ℕ} → cond_at d v s at ≡ got e n → (at < length s) × (1 ≤ d)
      go zero {e} {n} q = absurd (no_got TooDeep at e n (byte-got s at (λ t _. refused TooDeep at) e n q).1)
      go (suc d) {e} {n} q = ((byte-got s at (λ t _. cond_body (cond_tag t) (λ n. expr_at d v s n) (λ n. cond_at d v s n) at) e n q).0, omega arith)

  cond-is : cond_at left v s at ≡ cond_body (cond_tag (get_or s at 0)) (λ n. expr_at (left - 1) v s n) (λ n. cond_at (left - 1) v s n) at
  unfolding cond_at
  cond-is = go left cond-there.1
    where
      go : (d : ℕ) → 1 ≤ d → cond_at d v s at ≡ cond_body (cond_tag (get_or s at 0)) (λ n. expr_at (d - 1) v s n) (λ n. cond_at (d - 1) v s n) at
      go zero h = absurd (omega arith)
      go (suc d) h = simp (lt-ltb at (length s) cond-there.0, sub-one)

  -- a comparison
  module _ (low : 16 ≤ get_or s at 0) (high : get_or s at 0 ≤ 17) where
    cond-compare : cond_at left v s at ≡ two (Compare (relation_of (get_or s at 0))) (λ n. expr_at (left - 1) v s n) (at + 1)
    cond-compare = cond-is ∙ rw (relation_tag (get_or s at 0) low high)

    pub compare-stands : Readable (pairs (expr_at (left - 1) v s) (at + 1))
    compare-stands = two-pairs (Compare (relation_of (get_or s at 0))) (expr_at (left - 1) v s) (at + 1) (subst (λ (g : Got Cond). Readable g) cond-compare st)

    pub compare-values : (env : List Word) (x y : ℤ) (n : ℕ) (h : Bool) → answers (pairs (expr_at (left - 1) v s) (at + 1)) (at + 1) env ≡ Ok (x, y, n) → h ≡ compared (relation_of (get_or s at 0)) x y → Ok (h, n) ≡ holding (cond_at left v s at) at env
    unfolding holding holds
    compare-values env x y n h e q =
        let g₁ = values_are env (at + 1) (pairs (expr_at (left - 1) v s) (at + 1)) x y n e in
        let along : at + (1 + expr_size g₁.0.0) ≡ at + 1 + expr_size g₁.0.0 = omega arith in
        rw (q, cond-compare, two-map (Compare (relation_of (get_or s at 0))) (expr_at (left - 1) v s) (at + 1), g₁.1, along, g₁.2, g₁.3)

    pub compare-fault : (env : List Word) (k : Flaw) → answers (pairs (expr_at (left - 1) v s) (at + 1)) (at + 1) env ≡ Err k → Err k ≡ holding (cond_at left v s at) at env
    unfolding holding holds
    compare-fault env k h =
        let g₁ = both_fault_is env (at + 1) (λ x y. value (related (relation_of (get_or s at 0)) x y)) (pairs (expr_at (left - 1) v s) (at + 1)) k compare-stands h in
        let along : at + (1 + expr_size g₁.0.0) ≡ at + 1 + expr_size g₁.0.0 = omega arith in
        rw (cond-compare, two-map (Compare (relation_of (get_or s at 0))) (expr_at (left - 1) v s) (at + 1), g₁.2, along, g₁.3)

  -- a not
  cond-not : get_or s at 0 ≡ 0x12 → cond_at left v s at ≡ one Not (λ n. cond_at (left - 1) v s n) (at + 1)
  cond-not e = cond-is ∙ rw e

  pub not-stands : get_or s at 0 ≡ 0x12 → Readable (cond_at (left - 1) v s (at + 1))
  not-stands e = then-first (cond_at (left - 1) v s (at + 1)) _ (subst (λ (g : Got Cond). Readable g) (cond-not e) st)

  pub not-holds : (env : List Word) (h : Bool) (n : ℕ) → get_or s at 0 ≡ 0x12 → holding (cond_at (left - 1) v s (at + 1)) (at + 1) env ≡ Ok (h, n) → Ok (not h, n) ≡ holding (cond_at left v s at) at env
  unfolding holding holds
  not-holds env h n e q = let w = holds-is env (at + 1) (cond_at (left - 1) v s (at + 1)) h n q in rw (cond-not e, w.1, w.2)

  pub not-fault : (env : List Word) (k : Flaw) → get_or s at 0 ≡ 0x12 → holding (cond_at (left - 1) v s (at + 1)) (at + 1) env ≡ Err k → Err k ≡ holding (cond_at left v s at) at env
  unfolding holding holds
  not-fault env k e q = let w = held_fault_is env (at + 1) (cond_at (left - 1) v s (at + 1)) k (not-stands e) q in rw (cond-not e, w.2, w.3)

  -- an and, an or: no other tag is left
  pub join_range : (16 ≤ get_or s at 0 → get_or s at 0 ≤ 17 → ⊥) → (get_or s at 0 ≡ 0x12 → ⊥) → (19 ≤ get_or s at 0) × (get_or s at 0 ≤ 20)
  join_range a b = go (dec_lt (get_or s at 0) 16) (dec_lt 20 (get_or s at 0)) (dec_lt (get_or s at 0) 18)
    where
      bad : (0x10 ≤ get_or s at 0 → get_or s at 0 ≤ 0x14 → ⊥) → ⊥
      bad out =
          let g = got-is (cond_at left v s at) st in
          let q : cond_at left v s at ≡ refused BadTag at = cond-is ∙ rw (cond-bad (get_or s at 0) out) in
          no_got BadTag at g.0 g.1 (sym q ∙ g.2)

      go : Dec (get_or s at 0 < 16) → Dec (20 < get_or s at 0) → Dec (get_or s at 0 < 18) → (19 ≤ get_or s at 0) × (get_or s at 0 ≤ 20)
      go (yes l) h m = absurd (bad (λ x y. omega arith))
      go (no l) (yes h) m = absurd (bad (λ x y. omega arith))
      go (no l) (no h) (yes m) = absurd (a (omega arith) (omega arith))
      go (no l) (no h) (no m) = omega arith

  module _ (low : 19 ≤ get_or s at 0) (high : get_or s at 0 ≤ 20) where
    pub cond-join : cond_at left v s at ≡ two (Join (joint_of (get_or s at 0))) (cond_at (left - 1) v s) (at + 1)
    cond-join = cond-is ∙ rw (joint_tag (get_or s at 0) low high)

    pub join_stands : Readable (two (Join (joint_of (get_or s at 0))) (cond_at (left - 1) v s) (at + 1))
    join_stands = subst (λ (g : Got Cond). Readable g) cond-join st
