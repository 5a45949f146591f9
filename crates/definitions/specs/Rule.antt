-- 01, The rule, byte by byte: what a rule is, as a tree. Operators of a kind share a constructor. The tree holds no places.
use Rattle.std.specs.Prelude.{ℕ, List, [], ℤ, length, get_or}
use Rattle.definitions.specs.declared.Operator.{Operator}
use Rattle.definitions.specs.declared.Relation.{Relation}
use Rattle.definitions.specs.declared.Joint.{Joint}

-- tags 01 to 09, and 10 to 14: expressions hold conditions and conditions hold expressions
mutual
  pub data Expr : Type 0 where
    Const : ℤ → Expr
    Var : ℕ → Expr
    Neg : Expr → Expr
    Op : Operator → Expr → Expr → Expr
    Case : Cond → Expr → Expr → Expr

  pub data Cond : Type 0 where
    Compare : Relation → Expr → Expr → Cond
    Not : Cond → Cond
    Join : Joint → Cond → Cond → Cond

-- tags 20 and 21
pub data Stmt : Type 0 where
  Set : ℕ → Expr → Stmt
  Emit : Expr → Stmt

-- tags 30 to 33
pub data End : Type 0 where
  Goto : ℕ → End
  Jump : ℕ → End
  Stop : End
  If : Cond → End → End → End

-- a block: any number of statements, then one ending
pub record Block : Type 0 where
  pub body : List Stmt
  pub ending : End

-- a rule: its form, how many variables, how many of them arguments, and the blocks, of which the first is the entry
pub record Rule : Type 0 where
  pub form : ℕ
  pub variables : ℕ
  pub arguments : ℕ
  pub blocks : List Block

-- how many blocks there are
abbrev pub size : Rule → ℕ
size r = length r.blocks

-- block b; a number with no block stands for one that only stops, and no accepted rule names such a number
abbrev pub block_of : Rule → ℕ → Block
block_of r b = get_or r.blocks b (record { body = []; ending = Stop })
