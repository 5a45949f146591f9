-- The bytes of a tree that keeps to the limits are bytes: each is below 256. Assumes nothing.
use Prim.Native.Nat.{ℕ, zero, suc, ◌≤◌, ◌<◌}
use native.Mathlib.Omega.{arith}
use mathlib.Core.List.{List, [], ◌∷◌, ◌++◌}
use lib.IntN.{ℤ}
use Rattle.definitions.specs.declared.Operator.{Operator}
use Rattle.definitions.specs.declared.Operator.TheVariants.{Add, Subtract, Multiply, Divide, Remainder}
use Rattle.definitions.specs.declared.Relation.{Relation}
use Rattle.definitions.specs.declared.Relation.TheVariants.{Less, Equal}
use Rattle.definitions.specs.declared.Joint.{Joint}
use Rattle.definitions.specs.declared.Joint.TheVariants.{And, Or}
use Rattle.definitions.specs.Rule.{Expr, Cond, Const, Var, Neg, Op, Case, Compare, Not, Join, Stmt, Set, Emit, End, Goto, Jump, Stop, If, Block, Rule, size}
use Rattle.definitions.specs.Spelling.{constant_bytes, operator_byte, relation_byte, joint_byte, expr_bytes, cond_bytes, stmt_bytes, end_bytes, in_turn, block_bytes, bytes_of}
use Rattle.definitions.specs.Limits.{InRange, ExprKeeps, CondKeeps, StmtKeeps, EndKeeps, Every, BlockKeeps, Limits}
use Rattle.pages.proofs.Trip.{Bytes}
use Rattle.readers.proofs.Spelt.{every_append, reached}

abbrev Small : List ℕ → Type 0
Small xs = Every (λ x. x < 256) xs

both : (xs ys : List ℕ) → Small xs → Small ys → Small (xs ++ ys)
both = every_append (λ x. x < 256)

small_bytes : (xs : List ℕ) → Small xs → Bytes xs
unfolding Every
small_bytes [] h i = omega arith
small_bytes (x ∷ xs) h zero = h.0
small_bytes (x ∷ xs) h (suc i) = small_bytes xs h.1 i

operator-small : (o : Operator) → operator_byte o < 256
operator-small Add = omega arith
operator-small Subtract = omega arith
operator-small Multiply = omega arith
operator-small Divide = omega arith
operator-small Remainder = omega arith

relation_small : (r : Relation) → relation_byte r < 256
relation_small Less = omega arith
relation_small Equal = omega arith

joint_small : (j : Joint) → joint_byte j < 256
joint_small And = omega arith
joint_small Or = omega arith

constant-small : (z : ℤ) → InRange z → Small (constant_bytes z)
unfolding Every
constant-small z h = let l = (reached z h).0 in (omega arith, (omega arith, (omega arith, (omega arith, tt))))

in_turn-small : {A : Type 0} (bytes : A → List ℕ) (P : A → Type 0) → ((x : A) → P x → Small (bytes x)) → (xs : List A) → Every P xs → Small (in_turn bytes xs)
unfolding in_turn Every
in_turn-small bytes P f [] h = tt
in_turn-small bytes P f (x ∷ xs) h = both (bytes x) (in_turn bytes xs) (f x h.0) (in_turn-small bytes P f xs h.1)

-- of at most 256 variables and blocks
module _ (v : ℕ) (few : v ≤ 256) where
  mutual
    unfolding expr_bytes cond_bytes ExprKeeps CondKeeps Every

    expr-small : (a : Expr) → ExprKeeps v a → Small (expr_bytes a)
    expr-small (Const z) k = (omega arith, constant-small z k)
    expr-small (Var x) k = (omega arith, (omega arith, tt))
    expr-small (Neg a) k = (omega arith, expr-small a k)
    expr-small (Op o a b) k = (operator-small o, both (expr_bytes a) (expr_bytes b) (expr-small a k.0) (expr-small b k.1))
    expr-small (Case c a b) k =
        (omega arith, both (cond_bytes c) (expr_bytes a ++ expr_bytes b) (cond_small c k.0) (both (expr_bytes a) (expr_bytes b) (expr-small a k.1) (expr-small b k.2)))

    cond_small : (c : Cond) → CondKeeps v c → Small (cond_bytes c)
    cond_small (Compare r a b) k = (relation_small r, both (expr_bytes a) (expr_bytes b) (expr-small a k.0) (expr-small b k.1))
    cond_small (Not c) k = (omega arith, cond_small c k)
    cond_small (Join j c d) k = (joint_small j, both (cond_bytes c) (cond_bytes d) (cond_small c k.0) (cond_small d k.1))

  stmt_small : (x : Stmt) → StmtKeeps v x → Small (stmt_bytes x)
  unfolding stmt_bytes StmtKeeps Every
  stmt_small (Set x a) k = (omega arith, (omega (arith, k.0), expr-small a k.2))
  stmt_small (Emit a) k = (omega arith, expr-small a k.1)

  module _ (n : ℕ) (some : n ≤ 256) where
    end-small : (e : End) → EndKeeps n v e → Small (end_bytes e)
    unfolding end_bytes EndKeeps Every
    end-small (Goto t) k = (omega arith, (omega arith, tt))
    end-small (Jump t) k = (omega arith, (omega arith, tt))
    end-small Stop k = (omega arith, tt)
    end-small (If c x y) k = (omega arith, both (cond_bytes c) (end_bytes x ++ end_bytes y) (cond_small c k.1) (both (end_bytes x) (end_bytes y) (end-small x k.2) (end-small y k.3)))

    block-small : (b : Block) → BlockKeeps n v b → Small (block_bytes b)
    unfolding block_bytes
    block-small b k = both (in_turn stmt_bytes b.body) (end_bytes b.ending) (in_turn-small stmt_bytes (StmtKeeps v) stmt_small b.body k.body-keeps) (end-small b.ending k.ending-keeps)

pub rule-small : (r : Rule) → Limits r → Bytes (bytes_of r)
unfolding bytes_of Every
rule-small r lim =
    let few = lim.variables-to in
    let some = lim.blocks_to in
    small_bytes (bytes_of r) (
      omega (arith, lim.form-is),
      (
        omega arith,
        (
          omega (arith, lim.arguments-to),
          (
            omega arith,
            in_turn-small block_bytes (BlockKeeps (size r) r.variables) (block-small r.variables (omega arith) (size r) (omega arith)) r.blocks lim.blocks_keep,
          ),
        ),
      ),
    )
