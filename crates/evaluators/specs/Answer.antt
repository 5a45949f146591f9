-- The evaluators' answers, as the definitions have them.
use Rattle.std.specs.Prelude.{ℕ, ◌+◌, ◌≤◌, ◌≡◌, length, Bool, cond, List, Result, Ok, Err, ℤ}
use Rattle.definitions.specs.Values.{Word, Val, as_word, values_in, Out, value, fault, also}
use Rattle.definitions.specs.Rule.{Expr, Cond, Case}
use Rattle.definitions.specs.Grammar.{Got, got, refused, then, two, longest}
use Rattle.definitions.specs.Meaning.{at_byte, flaw, eval, holds}
use Rattle.definitions.specs.Spelling.{expr_size}
use Rattle.definitions.specs.declared.Kind.{Kind}
use Rattle.definitions.specs.declared.Kind.TheVariants.{OutOfRange}
use Rattle.definitions.specs.declared.Flaw.{Flaw}

-- the bytes of a rule lie in an array of the longest rule's length, and a variable's number is below 16
abbrev pub Sized : ℕ → List ℕ → Type 0
Sized v s = (v ≤ 16) × (length s ≡ longest)

-- the grammar accepts what stands there
unfoldable pub Readable : {A : Type 0} → Got A → Type 0
Readable (got a n) = Unit {0}
Readable (refused k p) = ⊥

-- what the answer of the operator at a place is, with the place after all of it: its fault is handed up
unfoldable pub placed : Result ℤ Kind → ℕ → ℕ → Result (ℤ × ℕ) Flaw
placed (Ok x) at n = Ok (x, n)
placed (Err k) at n = Err (flaw (at_byte at) k)

-- the answer of the code for each case, with the place after what was worked out
abbrev pub value_at : Out Flaw Val → ℕ → Result (ℤ × ℕ) Flaw
value_at (value x) n = Ok (as_word x, n)
value_at (fault k) n = Err k

abbrev pub verdict_at : Out Flaw Bool → ℕ → Result (Bool × ℕ) Flaw
verdict_at (value h) n = Ok (h, n)
verdict_at (fault k) n = Err k

abbrev pub both_at : Out Flaw (Val × Val) → ℕ → Result (ℤ × ℤ × ℕ) Flaw
both_at (value p) n = Ok (as_word p.0, as_word p.1, n)
both_at (fault k) n = Err k

-- what stands at a place, with the words of the variables: an expression's value, and whether a condition holds; where none stands nothing is asked
unfoldable pub answer : Got Expr → ℕ → List Word → Result (ℤ × ℕ) Flaw
answer (got e n) at vars = value_at (eval e (at_byte at) (values_in vars)) n
answer (refused k p) at vars = Err (flaw (at_byte at) OutOfRange)

unfoldable pub holding : Got Cond → ℕ → List Word → Result (Bool × ℕ) Flaw
holding (got c n) at vars = verdict_at (holds c (at_byte at) (values_in vars)) n
holding (refused k p) at vars = Err (flaw (at_byte at) OutOfRange)

-- two expressions, one after the other
abbrev pub pair_of : Expr → Expr → Expr × Expr
pair_of a b = (a, b)

abbrev pub pairs : (ℕ → Got Expr) → ℕ → Got (Expr × Expr)
pairs E at = two pair_of E at

unfoldable pub answers : Got (Expr × Expr) → ℕ → List Word → Result (ℤ × ℤ × ℕ) Flaw
answers (got p n) at vars = both_at (also (eval p.0 (at_byte at) (values_in vars)) (λ x. also (eval p.1 (at_byte (at + expr_size p.0)) (values_in vars)) (λ y. value (x, y)))) n
answers (refused k p) at vars = Err (flaw (at_byte at) OutOfRange)

-- one of them
unfoldable pub picked : Bool → Got (Expr × Expr) → ℕ → List Word → Result (ℤ × ℕ) Flaw
picked h (got p n) at vars = value_at (cond h (eval p.0 (at_byte at) (values_in vars)) (eval p.1 (at_byte (at + expr_size p.0)) (values_in vars))) n
picked h (refused k p) at vars = Err (flaw (at_byte at) OutOfRange)

-- what follows a case's tag
abbrev pub case_from : (ℕ → Got Expr) → (ℕ → Got Cond) → ℕ → Got Expr
case_from E C at = then (C at) (λ c n. two (Case c) E n)
