-- 01, The rule, byte by byte, from the tree's side: the limits that a rule's tree keeps to. How long its bytes may be is asked by the calls.
use Rattle.std.specs.Prelude.{ℕ, ◌+◌, ◌≤◌, ◌<◌, max, ◌≡◌, List, [], ◌∷◌, ℤ}
use Rattle.definitions.specs.Values.{value, settled}
use Rattle.definitions.specs.Rule.{Expr, Cond, Const, Var, Neg, Op, Case, Compare, Not, Join, Stmt, Set, Emit, End, Goto, Jump, Stop, If, Block, Rule, size}
use Rattle.definitions.specs.Grammar.{depth, levels, most_variables, most_blocks}
use Rattle.definitions.specs.Paths.{goto_in, NoCycle}

-- ---- depth: how many tags stand inside one another, at most

unfoldable mutual
  pub expr_depth : Expr → ℕ
  expr_depth (Const z) = 1
  expr_depth (Var k) = 1
  expr_depth (Neg a) = 1 + expr_depth a
  expr_depth (Op o a b) = 1 + max (expr_depth a) (expr_depth b)
  expr_depth (Case c a b) = 1 + max (cond_depth c) (max (expr_depth a) (expr_depth b))

  pub cond_depth : Cond → ℕ
  cond_depth (Compare r a b) = 1 + max (expr_depth a) (expr_depth b)
  cond_depth (Not c) = 1 + cond_depth c
  cond_depth (Join j c d) = 1 + max (cond_depth c) (cond_depth d)

-- of an ending's own tags: its conditions are measured by themselves
unfoldable pub end_depth : End → ℕ
end_depth (Goto t) = 1
end_depth (Jump t) = 1
end_depth Stop = 1
end_depth (If c x y) = 1 + max (end_depth x) (end_depth y)

-- ---- constants lie in the range of values, and variables are among the v of the rule

-- the test of the range gives it back
abbrev pub InRange : ℤ → Type 0
InRange z = settled z ≡ value z

unfoldable mutual
  pub ExprKeeps : ℕ → Expr → Type 0
  ExprKeeps v (Const z) = InRange z
  ExprKeeps v (Var k) = k < v
  ExprKeeps v (Neg a) = ExprKeeps v a
  ExprKeeps v (Op o a b) = ExprKeeps v a × ExprKeeps v b
  ExprKeeps v (Case c a b) = CondKeeps v c × ExprKeeps v a × ExprKeeps v b

  pub CondKeeps : ℕ → Cond → Type 0
  CondKeeps v (Compare r a b) = ExprKeeps v a × ExprKeeps v b
  CondKeeps v (Not c) = CondKeeps v c
  CondKeeps v (Join j c d) = CondKeeps v c × CondKeeps v d

-- ---- statements, endings, blocks: the expression of a statement and the condition of an if are each measured by themselves

unfoldable pub StmtKeeps : ℕ → Stmt → Type 0
StmtKeeps v (Set x a) = (x < v) × (expr_depth a ≤ depth) × ExprKeeps v a
StmtKeeps v (Emit a) = (expr_depth a ≤ depth) × ExprKeeps v a

-- of n blocks: a target is one of them
unfoldable pub EndKeeps : ℕ → ℕ → End → Type 0
EndKeeps n v (Goto t) = t < n
EndKeeps n v (Jump t) = t < n
EndKeeps n v Stop = Unit {0}
EndKeeps n v (If c x y) = (cond_depth c ≤ depth) × CondKeeps v c × EndKeeps n v x × EndKeeps n v y

-- every one of a list
unfoldable pub Every : {A : Type 0} → (A → Type 0) → List A → Type 0
Every P [] = Unit {0}
Every P (x ∷ xs) = P x × Every P xs

pub record BlockKeeps (n v : ℕ) (b : Block) : Type 0 where
  pub body-keeps : Every (StmtKeeps v) b.body
  pub ending-keeps : EndKeeps n v b.ending
  pub ending-deep : end_depth b.ending ≤ levels

-- ---- a rule

pub record Limits (r : Rule) : Type 0 where
  pub form-is : r.form ≡ 1
  pub variables-from : 1 ≤ r.variables
  pub variables-to : r.variables ≤ most_variables
  pub arguments-to : r.arguments ≤ r.variables
  pub blocks_from : 1 ≤ size r
  pub blocks_to : size r ≤ most_blocks
  pub blocks_keep : Every (BlockKeeps (size r) r.variables) r.blocks
  pub no_cycle : NoCycle (size r) (goto_in r)
