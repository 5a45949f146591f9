-- Values stay in the range: what a rule's constants have to keep to for that, and what it says of a row's state.
use Rattle.std.specs.Prelude.{ℕ, get_or}
use mathlib.Core.List.{List, Memᴰ}
use Rattle.definitions.specs.Values.{Val, as_word, unset}
use Rattle.definitions.specs.Rule.{Expr, Const, Var, Neg, Op, Case, Stmt, Set, Emit, Rule, block_of}
use Rattle.definitions.specs.Direct.{State}
use Rattle.definitions.specs.Limits.{InRange}

abbrev pub AllInRange : List Val → Type 0
AllInRange xs = (k : ℕ) → InRange (as_word (get_or xs k unset))

-- each constant that may come out as the expression's value: operators test their results
unfoldable pub Bounded : Expr → Type 0
Bounded (Const z) = InRange z
Bounded (Var k) = Unit {0}
Bounded (Neg a) = Unit {0}
Bounded (Op o a b) = Unit {0}
Bounded (Case c a b) = Bounded a × Bounded b

abbrev pub worked : Stmt → Expr
worked (Set x a) = a
worked (Emit a) = a

abbrev pub Constants : Rule → Type 0
Constants r = (b : ℕ) (x : Stmt) → Memᴰ x (block_of r b).body → Bounded (worked x)

pub record Ranged (s : State) : Type 0 where
  pub vars-in : AllInRange s.vars
  pub labels_in : AllInRange s.labels
