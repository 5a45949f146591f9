-- 01, Meaning, and K4 of 02: what an expression and a condition come to, at the variables' values, and where a fault lies.
use Rattle.std.specs.Prelude.{ℕ, ◌+◌, Bool, cond, not, List, ℤ, get_or}
use Rattle.definitions.specs.Values.{Val, number, unset, Out, value, fault, also, negation, sum, difference, product, quotient, remainder, is_less, is_equal}
use Rattle.definitions.specs.declared.Operator.{Operator}
use Rattle.definitions.specs.declared.Operator.TheVariants.{Add, Subtract, Multiply, Divide, Remainder}
use Rattle.definitions.specs.declared.Relation.{Relation}
use Rattle.definitions.specs.declared.Relation.TheVariants.{Less, Equal}
use Rattle.definitions.specs.declared.Joint.{Joint}
use Rattle.definitions.specs.declared.Joint.TheVariants.{And, Or}
use Rattle.definitions.specs.Rule.{Expr, Cond, Const, Var, Neg, Op, Case, Compare, Not, Join}
use Rattle.definitions.specs.Spelling.{expr_size, cond_size}
use Rattle.definitions.specs.declared.Kind.{Kind}
use Rattle.definitions.specs.declared.Flaw.{Flaw}

-- ---- what the tags name, over the integers

abbrev pub applied : Operator → ℤ → ℤ → Out Kind ℤ
applied Add x y = sum x y
applied Subtract x y = difference x y
applied Multiply x y = product x y
applied Divide x y = quotient x y
applied Remainder x y = remainder x y

abbrev pub compared : Relation → ℤ → ℤ → Bool
compared Less x y = is_less x y
compared Equal x y = is_equal x y

-- whether the left side alone decides: an and that does not hold there, an or that does. It then gives what its left side gives
abbrev pub decided : Joint → Bool → Bool
decided And h = not h
decided Or h = h

-- ---- 02, K4: where things stand

-- where something stands in a rule's bytes; nowhere, where places are not told
pub data Where : Type 0 where
  at_byte : ℕ → Where
  nowhere : Where

-- so many bytes further on
abbrev pub further : Where → ℕ → Where
further (at_byte p) n = at_byte (p + n)
further nowhere n = nowhere

abbrev pub told : Where → ℕ
told (at_byte p) = p
told nowhere = 0

-- ---- on values

-- a fault, as it is handed up: why, and where its operator's tag stands
abbrev pub flaw : Where → Kind → Flaw
flaw w k = record { kind = k; place = told w }

-- what the operator there gives, handed up: its result as a value, or its fault
abbrev pub handed_up : Where → Out Kind ℤ → Out Flaw Val
handed_up w (value z) = value (number z)
handed_up w (fault k) = fault (flaw w k)

abbrev pub negated : Where → Val → Out Flaw Val
negated w (number x) = handed_up w (negation x)

abbrev pub operated : Where → Operator → Val → Val → Out Flaw Val
operated w o (number x) (number y) = handed_up w (applied o x y)

abbrev pub related : Relation → Val → Val → Bool
related r (number x) (number y) = compared r x y

-- ---- expressions and conditions, whose tags stand at a place: what a tag holds stands one byte further on, one after the other

-- left to right; a case works out only the arm it takes; and, or look right only where the left does not decide
unfoldable mutual
  pub eval : Expr → Where → List Val → Out Flaw Val
  eval (Const z) w env = value (number z)
  eval (Var k) w env = value (get_or env k unset)
  eval (Neg a) w env = also (eval a (further w 1) env) (λ x. negated w x)
  eval (Op o a b) w env = also (eval a (further w 1) env) (λ x. also (eval b (further w (1 + expr_size a)) env) (λ y. operated w o x y))
  eval (Case c a b) w env = also (holds c (further w 1) env) (λ h. cond h (eval a (further w (1 + cond_size c)) env) (eval b (further w (1 + cond_size c + expr_size a)) env))

  pub holds : Cond → Where → List Val → Out Flaw Bool
  holds (Compare r a b) w env = also (eval a (further w 1) env) (λ x. also (eval b (further w (1 + expr_size a)) env) (λ y. value (related r x y)))
  holds (Not c) w env = also (holds c (further w 1) env) (λ h. value (not h))
  holds (Join j c d) w env = also (holds c (further w 1) env) (λ h. cond (decided j h) (value h) (holds d (further w (1 + cond_size c)) env))
