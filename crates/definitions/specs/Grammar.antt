-- 01, The rule, byte by byte, Reply numbers 4 to 10, and K5 of 02: which bytes are which rule, and how all others are refused. Reading goes from the
-- left, so the refusal that is met first is the one that is given.
use Rattle.std.specs.Prelude.{ℕ, zero, suc, ◌+◌, ◌*◌, Bool, cond, not, ◌&&◌, List, [], ◌∷◌, ◌++◌, ltb, leb, eqb, ℤ, pos, ◌-ℤ◌, length, get_or}
use Rattle.definitions.specs.declared.Operator.{Operator}
use Rattle.definitions.specs.declared.Operator.TheVariants.{Add, Subtract, Multiply, Divide, Remainder}
use Rattle.definitions.specs.declared.Relation.{Relation}
use Rattle.definitions.specs.declared.Relation.TheVariants.{Less, Equal}
use Rattle.definitions.specs.declared.Joint.{Joint}
use Rattle.definitions.specs.declared.Joint.TheVariants.{And, Or}
use Rattle.definitions.specs.Rule.{Expr, Cond, Const, Var, Neg, Op, Case, Compare, Not, Join, Stmt, Set, Emit, End, Goto, Jump, Stop, If, Block, Rule, size}
use Rattle.definitions.specs.Paths.{goto_in}
use Rattle.definitions.specs.Cycles.{cycle_of}
use Rattle.definitions.specs.Refusals.{Reply, refusal}
use Rattle.std.specs.Prelude.{Ok}
use Rattle.definitions.specs.declared.Reason.{Reason}
use Rattle.definitions.specs.declared.Reason.TheVariants.{BadHeader, BadTag, BadVariable, BadTarget, TooDeep, EndsEarly, BytesAfter, GotoCycle}

-- what stands at a place, and the place after it; or why and where it is refused
pub data Got (A : Type 0) : Type 0 where
  got : A → ℕ → Got A
  refused : Reason → ℕ → Got A

-- what comes after goes on at the next place; the first refusal stands
abbrev pub then : {A B : Type 0} → Got A → (A → ℕ → Got B) → Got B
then (got a n) f = f a n
then (refused k p) f = refused k p

-- the answer of the code for each case
unfoldable pub read_of : {A : Type 0} → Got A → Reply
read_of (got a n) = Ok n
read_of (refused k p) = refusal k p

-- the byte at a place; 9 where the rule ends early, its place the rule's length
abbrev pub byte_at : List ℕ → ℕ → Got ℕ
byte_at s at = cond (ltb at (length s)) (got (get_or s at 0) (at + 1)) (refused EndsEarly (length s))

-- one of a kind, and two of a kind one after the other
abbrev pub one : {A B : Type 0} → (A → B) → (ℕ → Got A) → ℕ → Got B
one make read at = then (read at) (λ a n. got (make a) n)

abbrev pub two : {A B : Type 0} → (A → A → B) → (ℕ → Got A) → ℕ → Got B
two make read at = then (read at) (λ a n. then (read n) (λ b m. got (make a b) m))

-- ---- the bytes that follow a tag

-- four bytes, the lowest first, as a number from 0 up
abbrev pub word_of : ℕ → ℕ → ℕ → ℕ → ℕ
word_of a b c d = a + 256 * b + 65536 * c + 16777216 * d

-- two's complement of 32 bits
unfoldable pub twos : ℕ → ℤ
twos n = cond (ltb n 2147483648) (pos n) (pos n -ℤ pos 4294967296)

abbrev pub constant_in : List ℕ → ℕ → ℤ
constant_in s at = twos (word_of (get_or s at 0) (get_or s (at + 1) 0) (get_or s (at + 2) 0) (get_or s (at + 3) 0))

-- a constant's four bytes
abbrev pub constant_at : List ℕ → ℕ → Got ℤ
constant_at s at = cond (leb (at + 4) (length s)) (got (constant_in s at) (at + 4)) (refused EndsEarly (length s))

-- a byte that names one of so many; else it is refused for this reason: 6 for a variable, 7 for a block
abbrev pub below_at : ℕ → Reason → List ℕ → ℕ → Got ℕ
below_at high why s at = then (byte_at s at) (λ k n. cond (ltb k high) (got k n) (refused why at))

abbrev pub variable_at : ℕ → List ℕ → ℕ → Got ℕ
variable_at v s at = below_at v BadVariable s at

abbrev pub target_at : ℕ → List ℕ → ℕ → Got ℕ
target_at n s at = below_at n BadTarget s at

-- ---- the tags

pub data ExprTag : Type 0 where
  const_tag var_tag neg_tag case_tag bad_expr : ExprTag
  op_tag : Operator → ExprTag

abbrev pub expr_tag : ℕ → ExprTag
expr_tag t =
    cond (eqb t 0x01) const_tag
    (cond (eqb t 0x02) var_tag
    (cond (eqb t 0x03) neg_tag
    (cond (eqb t 0x04) (op_tag Add)
    (cond (eqb t 0x05) (op_tag Subtract)
    (cond (eqb t 0x06) (op_tag Multiply)
    (cond (eqb t 0x07) (op_tag Divide)
    (cond (eqb t 0x08) (op_tag Remainder)
    (cond (eqb t 0x09) case_tag bad_expr))))))))

pub data CondTag : Type 0 where
  not_tag bad_cond : CondTag
  compare_tag : Relation → CondTag
  join_tag : Joint → CondTag

abbrev pub cond_tag : ℕ → CondTag
cond_tag t =
    cond (eqb t 0x10) (compare_tag Less)
    (cond (eqb t 0x11) (compare_tag Equal)
    (cond (eqb t 0x12) not_tag
    (cond (eqb t 0x13) (join_tag And)
    (cond (eqb t 0x14) (join_tag Or) bad_cond))))

pub data StmtTag : Type 0 where
  set_tag emit_tag no_stmt : StmtTag

abbrev pub stmt_tag : ℕ → StmtTag
stmt_tag t = cond (eqb t 0x20) set_tag (cond (eqb t 0x21) emit_tag no_stmt)

pub data EndTag : Type 0 where
  goto_tag jump_tag stop_tag if_tag bad_end : EndTag

abbrev pub end_tag : ℕ → EndTag
end_tag t = cond (eqb t 0x30) goto_tag (cond (eqb t 0x31) jump_tag (cond (eqb t 0x32) stop_tag (cond (eqb t 0x33) if_tag bad_end)))

-- ---- expressions and conditions

-- what follows an expression's tag, which stands at `at`: E and C read what lies inside it; 5 where no such tag is allowed
abbrev pub expr_body : ExprTag → ℕ → List ℕ → (ℕ → Got Expr) → (ℕ → Got Cond) → ℕ → Got Expr
expr_body const_tag v s E C at = one Const (constant_at s) (at + 1)
expr_body var_tag v s E C at = one Var (variable_at v s) (at + 1)
expr_body neg_tag v s E C at = one Neg E (at + 1)
expr_body (op_tag o) v s E C at = two (Op o) E (at + 1)
expr_body case_tag v s E C at = then (C (at + 1)) (λ c n. two (Case c) E n)
expr_body bad_expr v s E C at = refused BadTag at

abbrev pub cond_body : CondTag → (ℕ → Got Expr) → (ℕ → Got Cond) → ℕ → Got Cond
cond_body (compare_tag r) E C at = two (Compare r) E (at + 1)
cond_body not_tag E C at = one Not C (at + 1)
cond_body (join_tag j) E C at = two (Join j) C (at + 1)
cond_body bad_cond E C at = refused BadTag at

-- the expression, or the condition, at a place: so many levels may still stand there, and there are v variables. At one place 9 goes before 8, and 8 before 5
unfoldable mutual
  pub expr_at : ℕ → ℕ → List ℕ → ℕ → Got Expr
  expr_at zero v s at = then (byte_at s at) (λ t _. refused TooDeep at)
  expr_at (suc d) v s at = then (byte_at s at) (λ t _. expr_body (expr_tag t) v s (λ n. expr_at d v s n) (λ n. cond_at d v s n) at)

  pub cond_at : ℕ → ℕ → List ℕ → ℕ → Got Cond
  cond_at zero v s at = then (byte_at s at) (λ t _. refused TooDeep at)
  cond_at (suc d) v s at = then (byte_at s at) (λ t _. cond_body (cond_tag t) (λ n. expr_at d v s n) (λ n. cond_at d v s n) at)

-- eight levels for both kinds taken together; a statement's expression and an if's condition begin again at the first
abbrev pub depth : ℕ
depth = 8

-- ---- statements, endings, blocks

-- a set's variable and expression, which follow its tag
abbrev pub set_at : ℕ → List ℕ → ℕ → Got Stmt
set_at v s at = then (variable_at v s at) (λ x n. one (Set x) (expr_at depth v s) n)

abbrev pub emit_at : ℕ → List ℕ → ℕ → Got Stmt
emit_at v s at = one Emit (expr_at depth v s) at

-- what follows the tag of an ending, which may name any of n blocks: E reads an ending inside it
abbrev pub end_body : EndTag → ℕ → ℕ → List ℕ → (ℕ → Got End) → ℕ → Got End
end_body goto_tag n v s E at = one Goto (target_at n s) (at + 1)
end_body jump_tag n v s E at = one Jump (target_at n s) (at + 1)
end_body stop_tag n v s E at = got Stop (at + 1)
end_body if_tag n v s E at = then (cond_at depth v s (at + 1)) (λ c m. two (If c) E m)
end_body bad_end n v s E at = refused BadTag at

-- the ending at a place, where so many levels may still stand
unfoldable pub end_at : ℕ → ℕ → ℕ → List ℕ → ℕ → Got End
end_at zero n v s at = then (byte_at s at) (λ t _. refused TooDeep at)
end_at (suc d) n v s at = then (byte_at s at) (λ t _. end_body (end_tag t) n v s (λ m. end_at d n v s m) at)

-- endings go to depth 4
abbrev pub levels : ℕ
levels = 4

-- a block with one more statement before its others
abbrev pub with_first : Stmt → Block → Block
with_first x b = record { body = x ∷ b.body; ending = b.ending }

-- a block goes on while the tag is a statement's; what else stands there has to be its ending
abbrev pub block_body : StmtTag → ℕ → ℕ → List ℕ → (ℕ → Got Block) → ℕ → Got Block
block_body set_tag n v s B at = then (set_at v s (at + 1)) (λ x m. one (with_first x) B m)
block_body emit_tag n v s B at = then (emit_at v s (at + 1)) (λ x m. one (with_first x) B m)
block_body no_stmt n v s B at = one (λ e. record { body = []; ending = e }) (end_at levels n v s) at

-- the block at a place. The first number bounds how many statements are read: each takes a byte, so the rule's length is enough
unfoldable pub block_from : ℕ → ℕ → ℕ → List ℕ → ℕ → Got Block
block_from zero n v s at = refused EndsEarly (length s)
block_from (suc f) n v s at = block_body (stmt_tag (get_or s at 0)) n v s (λ m. block_from f n v s m) at

abbrev pub block_at : ℕ → ℕ → List ℕ → ℕ → Got Block
block_at n v s at = block_from (length s) n v s at

-- ---- a rule

-- the first k of n blocks, right after the header
unfoldable pub blocks_to : ℕ → ℕ → List ℕ → ℕ → Got (List Block)
blocks_to n v s zero = got [] 4
blocks_to n v s (suc k) = then (blocks_to n v s k) (λ bs at. one (λ b. bs ++ (b ∷ [])) (block_at n v s) at)

-- the most variables and the most blocks that a rule has
abbrev pub most_variables : ℕ
most_variables = 16

abbrev pub most_blocks : ℕ
most_blocks = 64

-- the header: form 1, v from 1 to 16, a from 0 to v, n from 1 to 64. 9 where a byte of it is missing, else 4 at the first bad byte
abbrev pub form_in : List ℕ → ℕ
form_in s = get_or s 0 0

abbrev pub variables_in : List ℕ → ℕ
variables_in s = get_or s 1 0

abbrev pub arguments_in : List ℕ → ℕ
arguments_in s = get_or s 2 0

abbrev pub blocks_in : List ℕ → ℕ
blocks_in s = get_or s 3 0

abbrev pub between : ℕ → ℕ → ℕ → Bool
between low high x = leb low x && leb x high

-- what follows the header is read only where the header is good
unfoldable pub headed : {A : Type 0} → List ℕ → Got A → Got A
headed s rest =
    cond (ltb (length s) 4) (refused EndsEarly (length s))
    (cond (not (eqb (form_in s) 1)) (refused BadHeader 0)
    (cond (not (between 1 most_variables (variables_in s))) (refused BadHeader 1)
    (cond (not (leb (arguments_in s) (variables_in s))) (refused BadHeader 2)
    (cond (not (between 1 most_blocks (blocks_in s))) (refused BadHeader 3)
    rest))))

-- the whole of the bytes; 10 at the first byte after the last block
abbrev pub whole_rule : List ℕ → List Block → ℕ → Got Rule
whole_rule s bs n = cond (ltb n (length s)) (refused BytesAfter n) (got (record { form = form_in s; variables = variables_in s; arguments = arguments_in s; blocks = bs }) n)

-- the bytes read to their end, as a tree
unfoldable pub parsed : List ℕ → Got Rule
parsed s = headed s (then (blocks_to (blocks_in s) (variables_in s) s (blocks_in s)) (whole_rule s))

-- 02, K5: 16 where the gotos form a cycle, at the lowest block on one
abbrev pub uncycled : Rule → ℕ → Got Rule
uncycled r n = cond (ltb (cycle_of (size r) (goto_in r)) (size r)) (refused GotoCycle (cycle_of (size r) (goto_in r))) (got r n)

unfoldable pub rule_of : List ℕ → Got Rule
rule_of s = then (parsed s) uncycled

-- the longest rule
abbrev pub longest : ℕ
longest = 4064
