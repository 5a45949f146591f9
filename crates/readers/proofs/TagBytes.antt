-- Which byte is which tag, both ways. Assumes nothing.
use Prim.Native.Nat.{ℕ}
use mathlib.Core.Path.{◌≡◌, refl}
use mathlib.Core.Bool.{Bool, true, false, cond}
use lib.Dec.{eqb}
use borrow.Author.Tests.{eqb-true}
use Rattle.definitions.specs.declared.Operator.{Operator}
use Rattle.definitions.specs.declared.Operator.TheVariants.{Add, Subtract, Multiply, Divide, Remainder}
use Rattle.definitions.specs.declared.Relation.{Relation}
use Rattle.definitions.specs.declared.Relation.TheVariants.{Less, Equal}
use Rattle.definitions.specs.declared.Joint.{Joint}
use Rattle.definitions.specs.declared.Joint.TheVariants.{And, Or}
use Rattle.definitions.specs.Grammar.{ExprTag, const_tag, var_tag, neg_tag, case_tag, bad_expr, op_tag, expr_tag, CondTag, not_tag, bad_cond, compare_tag, join_tag, cond_tag}
use Rattle.definitions.specs.Grammar.{StmtTag, set_tag, emit_tag, no_stmt, stmt_tag, EndTag, goto_tag, jump_tag, stop_tag, if_tag, bad_end, end_tag}
use Rattle.definitions.specs.Spelling.{operator_byte, relation_byte, joint_byte}

-- ---- from the byte that is written to the tag
pub operator_tag : (o : Operator) → expr_tag (operator_byte o) ≡ op_tag o
operator_tag Add = refl
operator_tag Subtract = refl
operator_tag Multiply = refl
operator_tag Divide = refl
operator_tag Remainder = refl

pub relation_tag : (r : Relation) → cond_tag (relation_byte r) ≡ compare_tag r
relation_tag Less = refl
relation_tag Equal = refl

pub joint_tag : (j : Joint) → cond_tag (joint_byte j) ≡ join_tag j
joint_tag And = refl
joint_tag Or = refl

-- ---- from the tag to the byte that was read
picked : {T : Type 0} (P : T → Type 0) (t k : ℕ) (x y : T) → (t ≡ k → P x) → P y → P (cond (eqb t k) x y)
picked P t k x y f g = go (eqb t k) refl
  where
    go : (b : Bool) → eqb t k ≡ b → P (cond b x y)
    go true e = f (eqb-true t k e)
    go false e = g

abbrev pub ExprByte : ℕ → ExprTag → Type 0
ExprByte t const_tag = t ≡ 0x01
ExprByte t var_tag = t ≡ 0x02
ExprByte t neg_tag = t ≡ 0x03
ExprByte t case_tag = t ≡ 0x09
ExprByte t bad_expr = Unit {0}
ExprByte t (op_tag o) = t ≡ operator_byte o

pub expr_byte : (t : ℕ) → ExprByte t (expr_tag t)
expr_byte t =
    picked (ExprByte t) t 0x01 _ _ (λ e. e)
    (picked (ExprByte t) t 0x02 _ _ (λ e. e)
    (picked (ExprByte t) t 0x03 _ _ (λ e. e)
    (picked (ExprByte t) t 0x04 _ _ (λ e. e)
    (picked (ExprByte t) t 0x05 _ _ (λ e. e)
    (picked (ExprByte t) t 0x06 _ _ (λ e. e)
    (picked (ExprByte t) t 0x07 _ _ (λ e. e)
    (picked (ExprByte t) t 0x08 _ _ (λ e. e)
    (picked (ExprByte t) t 0x09 _ _ (λ e. e) tt))))))))

abbrev pub CondByte : ℕ → CondTag → Type 0
CondByte t not_tag = t ≡ 0x12
CondByte t bad_cond = Unit {0}
CondByte t (compare_tag r) = t ≡ relation_byte r
CondByte t (join_tag j) = t ≡ joint_byte j

pub cond_byte : (t : ℕ) → CondByte t (cond_tag t)
cond_byte t =
    picked (CondByte t) t 0x10 _ _ (λ e. e)
    (picked (CondByte t) t 0x11 _ _ (λ e. e)
    (picked (CondByte t) t 0x12 _ _ (λ e. e)
    (picked (CondByte t) t 0x13 _ _ (λ e. e)
    (picked (CondByte t) t 0x14 _ _ (λ e. e) tt))))

abbrev pub StmtByte : ℕ → StmtTag → Type 0
StmtByte t set_tag = t ≡ 0x20
StmtByte t emit_tag = t ≡ 0x21
StmtByte t no_stmt = Unit {0}

pub stmt_byte : (t : ℕ) → StmtByte t (stmt_tag t)
stmt_byte t = picked (StmtByte t) t 0x20 _ _ (λ e. e) (picked (StmtByte t) t 0x21 _ _ (λ e. e) tt)

abbrev pub EndByte : ℕ → EndTag → Type 0
EndByte t goto_tag = t ≡ 0x30
EndByte t jump_tag = t ≡ 0x31
EndByte t stop_tag = t ≡ 0x32
EndByte t if_tag = t ≡ 0x33
EndByte t bad_end = Unit {0}

pub end-byte : (t : ℕ) → EndByte t (end_tag t)
end-byte t =
    picked (EndByte t) t 0x30 _ _ (λ e. e)
    (picked (EndByte t) t 0x31 _ _ (λ e. e)
    (picked (EndByte t) t 0x32 _ _ (λ e. e)
    (picked (EndByte t) t 0x33 _ _ (λ e. e) tt)))
