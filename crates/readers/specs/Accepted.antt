-- What can be relied on in a rule that is read to its end (`Grammar: parsed`): its variables exist, and its targets exist. Whether its gotos form a cycle is
-- not asked here. This holds of any numbers that are read; bytes that are accepted keep to all limits of the definitions (rules/proofs/Spelling). Assumes nothing: these are definitions.
use Rattle.std.specs.Prelude.{ℕ, ◌<◌, ◌≤◌, ◌≡◌, Bool, true, List, [], ◌∷◌}
use Rattle.definitions.specs.Rule.{Expr, Cond, Stmt, Set, Emit, End, Stop, Block, Rule, size, block_of}
use Rattle.definitions.specs.Grammar.{most_variables, most_blocks, form_in, variables_in, arguments_in, blocks_in}
use Rattle.definitions.specs.Columns.{reads, looks, end_looks, goes_to, jumps_to}

-- of all that a set holds, P; or that it lies below a bound
abbrev pub Each : (ℕ → Type 0) → (ℕ → Bool) → Type 0
Each P s = (k : ℕ) → s k ≡ true → P k

abbrev pub Below : ℕ → (ℕ → Bool) → Type 0
Below v s = Each (λ k. k < v) s

-- of v variables
abbrev pub ExprIn : ℕ → Expr → Type 0
ExprIn v e = Below v (reads e)

abbrev pub CondIn : ℕ → Cond → Type 0
CondIn v c = Below v (looks c)

abbrev pub StmtIn : ℕ → Stmt → Type 0
StmtIn v (Set x a) = (x < v) × ExprIn v a
StmtIn v (Emit a) = ExprIn v a

abbrev pub BodyIn : ℕ → List Stmt → Type 0
BodyIn v [] = Unit {0}
BodyIn v (x ∷ xs) = StmtIn v x × BodyIn v xs

-- of an ending among n blocks
pub record EndIn (n : ℕ) (v : ℕ) (e : End) : Type 0 where
  pub variables_exist : Below v (end_looks e)
  pub gotos-in : Below n (goes_to e)
  pub jumps_in : Below n (jumps_to e)

pub record BlockIn (n : ℕ) (v : ℕ) (x : Block) : Type 0 where
  pub body-in : BodyIn v x.body
  pub ending-in : EndIn n v x.ending

-- what stands for a block past the last
abbrev pub no_block : Block
no_block = record { body = []; ending = Stop }

-- of the rule whose bytes are s
pub record RuleIn (s : List ℕ) (r : Rule) : Type 0 where
  pub form-stands : r.form ≡ form_in s
  pub variables_are : r.variables ≡ variables_in s
  pub arguments_are : r.arguments ≡ arguments_in s
  pub blocks_are : size r ≡ blocks_in s
  pub form-is : r.form ≡ 1
  pub variables-from : 1 ≤ r.variables
  pub variables-to : r.variables ≤ most_variables
  pub arguments-to : r.arguments ≤ r.variables
  pub blocks_from : 1 ≤ size r
  pub blocks_to : size r ≤ most_blocks
  pub block_in : (b : ℕ) → BlockIn (size r) r.variables (block_of r b)
