-- What an evaluator's answer says of what stands at its place.
use Prim.Native.Nat.{ℕ, ◌+◌, ◌<◌}
use native.Mathlib.Omega.{arith}
use mir.Syntax.{w32}
use mir.Val.{to_z, of_z}
use mir.Facts.{to_z-of_z}
use lib.IntN.{ℤ}
use lib.Signed.{mag}
use mathlib.Core.Path.{◌≡◌, refl, sym, ap, ◌∙◌}
use mathlib.Core.Bool.{Bool}
use mathlib.Core.List.{List}
use Rattle.std.specs.Prelude.{Result, Ok, Err}
use Rattle.std.specs.Result.{IsErrAnd}
use Rattle.std.proofs.lemmas.Result.{err_from_is_err_and}
use Rattle.definitions.specs.Values.{Word, Val, number, values_in, Out, value, fault, also, outcome_of}
use Rattle.definitions.specs.Rule.{Expr, Cond}
use Rattle.definitions.specs.Grammar.{Got, got, refused}
use Rattle.definitions.specs.Meaning.{at_byte, handed_up, eval, holds}
use Rattle.definitions.specs.Spelling.{expr_size}
use Rattle.definitions.specs.declared.Kind.{Kind}
use Rattle.definitions.specs.declared.Flaw.{Flaw}
use Rattle.evaluators.specs.Answer.{Readable, placed, value_at, verdict_at, both_at, answer, holding, answers}

-- what a call's result is said to be, and what the arm of a `match` on it is told
pub told : {A : Type 0} {x y z : A} → x ≡ y → x ≡ z → y ≡ z
told p q = sym p ∙ q

-- what a `?` hands up is the error that it met
pub passed : {A E : Type 0} (r : Result A E) (k : E) → IsErrAnd r (λ y. y ≡ k) → r ≡ Err k
passed r k h =
    let p = err_from_is_err_and r h in
    p.1 ∙ ap Err p.2

-- two answers that are the same hold the same
held : {A : Type 0} (x y : A) → ◌≡◌ {A = Result A Flaw} (Ok x) (Ok y) → x ≡ y
held x y e = cc

held_two : {A : Type 0} (a c : A) (b d : ℕ) → ◌≡◌ {A = Result (A × ℕ) Flaw} (Ok (a, b)) (Ok (c, d)) → (a ≡ c) × (b ≡ d)
held_two {A} a c b d e =
    let p = held (a, b) (c, d) e in
    (ap (λ (q : A × ℕ). q.0) p, ap (λ (q : A × ℕ). q.1) p)

held_three : (a c b d : ℤ) (n m : ℕ) → ◌≡◌ {A = Result (ℤ × ℤ × ℕ) Flaw} (Ok (a, b, n)) (Ok (c, d, m)) → (a ≡ c) × (b ≡ d) × (n ≡ m)
held_three a c b d n m e =
    let p = held (a, b, n) (c, d, m) e in
    (ap (λ (q : ℤ × ℤ × ℕ). q.0) p, ap (λ (q : ℤ × ℤ × ℕ). q.1) p, ap (λ (q : ℤ × ℤ × ℕ). q.2) p)

-- a value that a pattern binds is read back from its bits
pub bound : (z : ℤ) → mag z < 2147483648 → to_z w32 (of_z w32 z) ≡ z
bound z h = to_z-of_z {w = w32} (record { sfits = h })

pub got-is : {A : Type 0} (p : Got A) → Readable p → (a : A) × (n : ℕ) × (p ≡ got a n)
unfolding Readable
got-is (got a n) st = (a, n, refl)
got-is (refused k q) st = absurd st

pub is-got : {A : Type 0} (p : Got A) (a : A) (n : ℕ) → p ≡ got a n → Readable p
unfolding Readable
is-got p a n e = rw e tt

pub placed-value : (z : Out Kind ℤ) (o : Result ℤ Kind) (at n : ℕ) → o ≡ outcome_of z → placed o at n ≡ value_at (handed_up (at_byte at) z) n
unfolding placed
placed-value (value x) o at n e = rw e
placed-value (fault k) o at n e = rw e

module _ (env : List Word) (at : ℕ) where
  pub value-is : (p : Got Expr) (x : ℤ) (n : ℕ) → answer p at env ≡ Ok (x, n) → (a : Expr) × (p ≡ got a n) × (eval a (at_byte at) (values_in env) ≡ value (number x))
  unfolding answer
  value-is (got a m) x n e = go (eval a (at_byte at) (values_in env)) refl e
    where
      go : (o : Out Flaw Val) → eval a (at_byte at) (values_in env) ≡ o → value_at o m ≡ Ok (x, n) → (b : Expr) × (got a m ≡ got b n) × (eval b (at_byte at) (values_in env) ≡ value (number x))
      go (value (number y)) q e = let w = held_two y x m n e in (a, cc, cc)
      go (fault k) q e = let z : ◌≡◌ {A = ℕ} 0 1 = cc in absurd (omega arith)
  value-is (refused k q) x n e = let z : ◌≡◌ {A = ℕ} 0 1 = cc in absurd (omega arith)

  pub fault-is : (p : Got Expr) (k : Flaw) → Readable p → answer p at env ≡ Err k → (a : Expr) × (n : ℕ) × (p ≡ got a n) × (eval a (at_byte at) (values_in env) ≡ fault k)
  unfolding answer Readable
  fault-is (got a m) k st e = (a, m, refl, go (eval a (at_byte at) (values_in env)) e)
    where
      go : (o : Out Flaw Val) → value_at o m ≡ Err k → o ≡ fault k
      go (value y) e = let z : ◌≡◌ {A = ℕ} 0 1 = cc in absurd (omega arith)
      go (fault l) e = cc
  fault-is (refused l q) k st e = absurd st

  pub holds-is : (p : Got Cond) (h : Bool) (n : ℕ) → holding p at env ≡ Ok (h, n) → (a : Cond) × (p ≡ got a n) × (holds a (at_byte at) (values_in env) ≡ value h)
  unfolding holding
  holds-is (got a m) h n e = go (holds a (at_byte at) (values_in env)) refl e
    where
      go : (o : Out Flaw Bool) → holds a (at_byte at) (values_in env) ≡ o → verdict_at o m ≡ Ok (h, n) → (b : Cond) × (got a m ≡ got b n) × (holds b (at_byte at) (values_in env) ≡ value h)
      go (value y) q e = let w = held_two y h m n e in (a, cc, cc)
      go (fault k) q e = let z : ◌≡◌ {A = ℕ} 0 1 = cc in absurd (omega arith)
  holds-is (refused k q) h n e = let z : ◌≡◌ {A = ℕ} 0 1 = cc in absurd (omega arith)

  pub held_fault_is : (p : Got Cond) (k : Flaw) → Readable p → holding p at env ≡ Err k → (a : Cond) × (n : ℕ) × (p ≡ got a n) × (holds a (at_byte at) (values_in env) ≡ fault k)
  unfolding holding Readable
  held_fault_is (got a m) k st e = (a, m, refl, go (holds a (at_byte at) (values_in env)) e)
    where
      go : (o : Out Flaw Bool) → verdict_at o m ≡ Err k → o ≡ fault k
      go (value y) e = let z : ◌≡◌ {A = ℕ} 0 1 = cc in absurd (omega arith)
      go (fault l) e = cc
  held_fault_is (refused l q) k st e = absurd st

  pub values_are : (p : Got (Expr × Expr)) (x y : ℤ) (n : ℕ) → answers p at env ≡ Ok (x, y, n) → (q : Expr × Expr) × (p ≡ got q n) × (eval q.0 (at_byte at) (values_in env) ≡ value (number x)) × (eval q.1 (at_byte (at + expr_size q.0)) (values_in env) ≡ value (number y))
  unfolding answers
  values_are (got q m) x y n e = go (eval q.0 (at_byte at) (values_in env)) (eval q.1 (at_byte (at + expr_size q.0)) (values_in env)) refl refl e
    where
      go : (o u : Out Flaw Val) → eval q.0 (at_byte at) (values_in env) ≡ o → eval q.1 (at_byte (at + expr_size q.0)) (values_in env) ≡ u → both_at (also o (λ x. also u (λ y. value (x, y)))) m ≡ Ok (x, y, n) → (q' : Expr × Expr) × (got q m ≡ got q' n) × (eval q'.0 (at_byte at) (values_in env) ≡ value (number x)) × (eval q'.1 (at_byte (at + expr_size q'.0)) (values_in env) ≡ value (number y))
      go (value (number a)) (value (number b)) qa qb e = let w = held_three a x b y m n e in (q, cc, cc, cc)
      go (value a) (fault k) qa qb e = let z : ◌≡◌ {A = ℕ} 0 1 = cc in absurd (omega arith)
      go (fault k) u qa qb e = let z : ◌≡◌ {A = ℕ} 0 1 = cc in absurd (omega arith)
  values_are (refused k q) x y n e = let z : ◌≡◌ {A = ℕ} 0 1 = cc in absurd (omega arith)

  -- a fault of two is the fault of whatever is made of both
  pub both_fault_is : {C : Type 0} (f : Val → Val → Out Flaw C) (p : Got (Expr × Expr)) (k : Flaw) → Readable p → answers p at env ≡ Err k → (q : Expr × Expr) × (n : ℕ) × (p ≡ got q n) × (also (eval q.0 (at_byte at) (values_in env)) (λ x. also (eval q.1 (at_byte (at + expr_size q.0)) (values_in env)) (λ y. f x y)) ≡ fault k)
  unfolding answers Readable
  both_fault_is {C = C} f (got q m) k st e = (q, m, refl, go (eval q.0 (at_byte at) (values_in env)) (eval q.1 (at_byte (at + expr_size q.0)) (values_in env)) e)
    where
      go : (o u : Out Flaw Val) → both_at (also o (λ x. also u (λ y. value (x, y)))) m ≡ Err k → also {C = C} o (λ x. also u (λ y. f x y)) ≡ fault k
      go (value a) (value b) e = let z : ◌≡◌ {A = ℕ} 0 1 = cc in absurd (omega arith)
      go (value a) (fault l) e = cc
      go (fault l) u e = cc
  both_fault_is f (refused l q) k st e = absurd st
