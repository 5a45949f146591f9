-- 02, K4: what a record says of a fault: the operator that stands at its place is the one at fault.
use Rattle.std.specs.Prelude.{ℕ, ◌+◌, ◌≡◌, List, ◌++◌, ℤ, length}
use Rattle.definitions.specs.Values.{Val, number, value, fault, negation, kind_number}
use Rattle.definitions.specs.declared.Operator.{Operator}
use Rattle.definitions.specs.Rule.{Expr, Neg, Op}
use Rattle.definitions.specs.Spelling.{expr_bytes}
use Rattle.definitions.specs.Meaning.{Where, applied, eval}
use Rattle.definitions.specs.declared.Kind.{Kind}
use Rattle.definitions.specs.Direct.{status_number, fault_place}
use Rattle.definitions.specs.declared.Flaw.{Flaw}
use Rattle.definitions.specs.declared.Finish.{Finish}

-- an operator's own fault: what it holds has values, at the variables' values, and there it has none
pub data OwnFault (env : List Val) (k : Kind) : Expr → Type 0 where
  negating : {a : Expr} (w : Where) (x : ℤ) → eval a w env ≡ value (number x) → negation x ≡ fault k → OwnFault env k (Neg a)
  operating : {o : Operator} {a b : Expr} (w w' : Where) (x y : ℤ) → eval a w env ≡ value (number x) → eval b w' env ≡ value (number y) → applied o x y ≡ fault k → OwnFault env k (Op o a b)

-- among bytes that lie at p, an operator stands at the flaw's place whose own fault, at some values, is of the flaw's kind. Its first byte is its tag
pub record Among (p : ℕ) (bytes : List ℕ) (f : Flaw) : Type 0 where
  pub front : List ℕ
  pub operator : Expr
  pub back : List ℕ
  pub env : List Val
  pub bytes_are : bytes ≡ front ++ (expr_bytes operator ++ back)
  pub place_is : f.place ≡ p + length front
  pub own : OwnFault env f.kind operator

-- a row's status and place: 2 or 3 with the place of an operator that P holds of, or any other status with place 0
pub data Tells (P : Flaw → Type 0) : ℕ → ℕ → Type 0 where
  no_fault : (n : ℕ) → (n ≡ 2 → ⊥) → (n ≡ 3 → ⊥) → Tells P n 0
  at_fault : (f : Flaw) → P f → Tells P (kind_number f.kind) f.place

abbrev pub Telling : (Flaw → Type 0) → Finish → Type 0
Telling P how = Tells P (status_number how) (fault_place how)
