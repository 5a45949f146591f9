-- 01, The rule, byte by byte, from the tree's side: how each construct is written. Its size is the length of its bytes.
use Rattle.std.specs.Prelude.{ℕ, ◌+◌, ◌-◌, ◌/◌, ◌%◌, List, [], ◌∷◌, ◌++◌, ℤ, pos, negsuc, length, take}
use Rattle.definitions.specs.declared.Operator.{Operator}
use Rattle.definitions.specs.declared.Operator.TheVariants.{Add, Subtract, Multiply, Divide, Remainder}
use Rattle.definitions.specs.declared.Relation.{Relation}
use Rattle.definitions.specs.declared.Relation.TheVariants.{Less, Equal}
use Rattle.definitions.specs.declared.Joint.{Joint}
use Rattle.definitions.specs.declared.Joint.TheVariants.{And, Or}
use Rattle.definitions.specs.Rule.{Expr, Cond, Const, Var, Neg, Op, Case, Compare, Not, Join, Stmt, Set, Emit, End, Goto, Jump, Stop, If, Block, Rule, size}

-- ---- constants

-- two's complement of 32 bits: a number below 0 is counted down from 2 to the 32
abbrev pub unsigned : ℤ → ℕ
unsigned (pos n) = n
unsigned (negsuc n) = 4294967296 - (n + 1)

-- thirty-two bits as four bytes, the lowest first
abbrev pub le32 : ℕ → List ℕ
le32 n = n % 256 ∷ n / 256 % 256 ∷ n / 65536 % 256 ∷ n / 16777216 ∷ []

abbrev pub constant_bytes : ℤ → List ℕ
constant_bytes z = le32 (unsigned z)

-- ---- the tags of operators, relations and joints

abbrev pub operator_byte : Operator → ℕ
operator_byte Add = 0x04
operator_byte Subtract = 0x05
operator_byte Multiply = 0x06
operator_byte Divide = 0x07
operator_byte Remainder = 0x08

abbrev pub relation_byte : Relation → ℕ
relation_byte Less = 0x10
relation_byte Equal = 0x11

abbrev pub joint_byte : Joint → ℕ
joint_byte And = 0x13
joint_byte Or = 0x14

-- ---- each construct: its tag, then what the table puts after it

unfoldable mutual
  pub expr_bytes : Expr → List ℕ
  expr_bytes (Const z) = 0x01 ∷ constant_bytes z
  expr_bytes (Var k) = 0x02 ∷ k ∷ []
  expr_bytes (Neg a) = 0x03 ∷ expr_bytes a
  expr_bytes (Op o a b) = operator_byte o ∷ (expr_bytes a ++ expr_bytes b)
  expr_bytes (Case c a b) = 0x09 ∷ (cond_bytes c ++ (expr_bytes a ++ expr_bytes b))

  pub cond_bytes : Cond → List ℕ
  cond_bytes (Compare r a b) = relation_byte r ∷ (expr_bytes a ++ expr_bytes b)
  cond_bytes (Not c) = 0x12 ∷ cond_bytes c
  cond_bytes (Join j c d) = joint_byte j ∷ (cond_bytes c ++ cond_bytes d)

unfoldable pub stmt_bytes : Stmt → List ℕ
stmt_bytes (Set x a) = 0x20 ∷ x ∷ expr_bytes a
stmt_bytes (Emit a) = 0x21 ∷ expr_bytes a

unfoldable pub end_bytes : End → List ℕ
end_bytes (Goto t) = 0x30 ∷ t ∷ []
end_bytes (Jump t) = 0x31 ∷ t ∷ []
end_bytes Stop = 0x32 ∷ []
end_bytes (If c x y) = 0x33 ∷ (cond_bytes c ++ (end_bytes x ++ end_bytes y))

-- ---- a rule

-- one after the other
unfoldable pub in_turn : {A : Type 0} → (A → List ℕ) → List A → List ℕ
in_turn bytes [] = []
in_turn bytes (x ∷ xs) = bytes x ++ in_turn bytes xs

-- a block: its statements, then its ending
unfoldable pub block_bytes : Block → List ℕ
block_bytes b = in_turn stmt_bytes b.body ++ end_bytes b.ending

-- the header (form, v, a, n), then the blocks
unfoldable pub bytes_of : Rule → List ℕ
bytes_of r = r.form ∷ r.variables ∷ r.arguments ∷ size r ∷ in_turn block_bytes r.blocks

-- ---- sizes, and where a block stands: after the header and the blocks before it

abbrev pub expr_size : Expr → ℕ
expr_size e = length (expr_bytes e)

abbrev pub cond_size : Cond → ℕ
cond_size c = length (cond_bytes c)

abbrev pub stmt_size : Stmt → ℕ
stmt_size x = length (stmt_bytes x)

abbrev pub end_size : End → ℕ
end_size e = length (end_bytes e)

abbrev pub body_size : Block → ℕ
body_size b = length (in_turn stmt_bytes b.body)

abbrev pub block_place : Rule → ℕ → ℕ
block_place r b = 4 + length (in_turn block_bytes (take b r.blocks))
