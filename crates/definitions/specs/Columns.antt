-- 01, Columns, and K3 of 02: what each block reads, sets and names, which blocks are led to, and the inputs and outputs as the smallest sets.
-- A set is a test: `s k ≡ true` says that s holds k.
use Rattle.std.specs.Prelude.{◌≡◌, Bool, true, false, not, ◌&&◌, ◌||◌, List, [], ◌∷◌, ℕ, zero, suc, ◌<◌, eqb, get_or}
use Rattle.definitions.specs.Rule.{Expr, Cond, Const, Var, Neg, Op, Case, Compare, Not, Join, Stmt, Set, Emit, End, Goto, Jump, Stop, If, Rule, size, block_of}

-- ---- what a block reads, sets and names

unfoldable mutual
  pub reads : Expr → ℕ → Bool
  reads (Const z) k = false
  reads (Var j) k = eqb j k
  reads (Neg a) k = reads a k
  reads (Op o a b) k = reads a k || reads b k
  reads (Case c a b) k = looks c k || (reads a k || reads b k)

  pub looks : Cond → ℕ → Bool
  looks (Compare r a b) k = reads a k || reads b k
  looks (Not c) k = looks c k
  looks (Join j c d) k = looks c k || looks d k

unfoldable pub end_looks : End → ℕ → Bool
end_looks (Goto t) k = false
end_looks (Jump t) k = false
end_looks Stop k = false
end_looks (If c x y) k = looks c k || (end_looks x k || end_looks y k)

-- read before it is set: a set's own expression reads first, then the set shields what comes after
unfoldable pub read_first : List Stmt → End → ℕ → Bool
read_first [] e k = end_looks e k
read_first (Set x a ∷ xs) e k = reads a k || (not (eqb x k) && read_first xs e k)
read_first (Emit a ∷ xs) e k = reads a k || read_first xs e k

unfoldable pub sets : List Stmt → ℕ → Bool
sets [] k = false
sets (Set x a ∷ xs) k = eqb x k || sets xs k
sets (Emit a ∷ xs) k = sets xs k

-- the blocks that an ending names by a goto, and by a jump
unfoldable pub goes_to : End → ℕ → Bool
goes_to (Goto u) t = eqb u t
goes_to (Jump u) t = false
goes_to Stop t = false
goes_to (If c x y) t = goes_to x t || goes_to y t

unfoldable pub jumps_to : End → ℕ → Bool
jumps_to (Goto u) t = false
jumps_to (Jump u) t = eqb u t
jumps_to Stop t = false
jumps_to (If c x y) t = jumps_to x t || jumps_to y t

-- some number below n passes the test
unfoldable pub some : ℕ → (ℕ → Bool) → Bool
some zero f = false
some (suc n) f = some n f || f n

-- ---- the smallest set of numbers below n that holds a seed and, with the end of an edge, its start: computed. That it is the smallest is the theorem
-- `closure-smallest` of proofs/Reached.antt

-- the test's answers for i, i + 1 and so on, n of them, and such a list as a set
unfoldable pub from : ℕ → ℕ → (ℕ → Bool) → List Bool
from zero i f = []
from (suc n) i f = f i ∷ from n (suc i) f

abbrev pub among : List Bool → ℕ → Bool
among l b = get_or l b false

-- one growth: what is there, and what has an edge into it
unfoldable pub grown : ℕ → (ℕ → ℕ → Bool) → (ℕ → Bool) → ℕ → Bool
grown n edge s b = s b || some n (λ t. edge b t && s t)

unfoldable pub growths : ℕ → ℕ → (ℕ → Bool) → (ℕ → ℕ → Bool) → List Bool
growths zero n seed edge = from n 0 seed
growths (suc k) n seed edge = from n 0 (grown n edge (among (growths k n seed edge)))

unfoldable pub closure : ℕ → (ℕ → Bool) → (ℕ → ℕ → Bool) → ℕ → Bool
closure n seed edge = among (growths n n seed edge)

-- ---- 02, K3: the blocks that are led to

-- the ending of block b names block t: every arm of every if counts
abbrev pub end_names : Rule → ℕ → ℕ → Bool
end_names r b t = goes_to (block_of r b).ending t || jumps_to (block_of r b).ending t

-- a chain of gotos and jumps in endings goes there from block 0
pub data LedTo (r : Rule) : ℕ → Type 0 where
  at_entry : LedTo r 0
  along : {b t : ℕ} → LedTo r b → end_names r b t ≡ true → LedTo r t

-- the same, computed: block 0, and with a block all that its ending names. That it is the same is the theorem `led-exactly` of proofs/Led.antt
unfoldable pub led_to : Rule → ℕ → Bool
led_to r = closure (size r) (λ b. eqb b 0) (λ t b. end_names r b t)

-- ---- what the columns of a rule depend on

pub record Flow : Type 0 where
  pub blocks : ℕ
  pub variables : ℕ
  pub FV : ℕ → ℕ → Bool  -- block that counts, variable
  pub BV : ℕ → ℕ → Bool  -- block, variable
  pub gotos : ℕ → ℕ → Bool  -- block that counts, a block that its ending names by a goto
  pub jumps : ℕ → ℕ → Bool  -- block that counts, a block that its ending names by a jump

-- the flow of a rule in which the blocks of a set count: any other block reads nothing and names nothing
abbrev pub flow_over : (ℕ → Bool) → Rule → Flow
flow_over counts r = record {
  blocks = size r;
  variables = r.variables;
  FV = λ b k. counts b && read_first (block_of r b).body (block_of r b).ending k;
  BV = λ b k. sets (block_of r b).body k;
  gotos = λ b t. counts b && goes_to (block_of r b).ending t;
  jumps = λ b t. counts b && jumps_to (block_of r b).ending t;
}

-- those count that are led to
abbrev pub flow_of : Rule → Flow
flow_of r = flow_over (led_to r) r

-- the blocks that the ending of b names, if b counts
abbrev pub names : Flow → ℕ → ℕ → Bool
names g b t = g.gotos b t || g.jumps b t

-- block 0, and every block that some jump of a block that counts names
abbrev pub J : Flow → ℕ → Bool
J g t = eqb t 0 || some g.blocks (λ b. g.jumps b t)

-- ---- the smallest sets

-- what some block needs that the ending of b can lead to
unfoldable pub outputs : Flow → (ℕ → ℕ → Bool) → ℕ → ℕ → Bool
outputs g inputs b k = some g.blocks (λ t. names g b t && inputs t k)

module _ (g : Flow) where
  -- sets that meet the three demands on inputs
  pub record Meets (inputs : ℕ → ℕ → Bool) : Type 0 where
    pub own : (b k : ℕ) → b < g.blocks → k < g.variables → g.FV b k ≡ true → inputs b k ≡ true
    pub through : (b k : ℕ) → b < g.blocks → k < g.variables → outputs g inputs b k ≡ true → g.BV b k ≡ false → inputs b k ≡ true
    pub shared : (b t k : ℕ) → b < g.blocks → t < g.blocks → k < g.variables → J g b ≡ true → J g t ≡ true → inputs b k ≡ inputs t k

  -- the smallest of them
  pub record Inputs (inputs : ℕ → ℕ → Bool) : Type 0 where
    pub meets : Meets inputs
    pub least : (other : ℕ → ℕ → Bool) → Meets other → (b k : ℕ) → b < g.blocks → k < g.variables → inputs b k ≡ true → other b k ≡ true

-- ---- the same sets, computed. That they are the smallest is the theorem `computed` of proofs/Columns.antt

-- block b needs variable k as soon as t does
abbrev pub passes : Flow → ℕ → ℕ → ℕ → Bool
passes g k b t = (names g b t && not (g.BV b k)) || (J g b && J g t)

unfoldable pub inputs_of : Flow → ℕ → ℕ → Bool
inputs_of g b k = closure g.blocks (λ c. g.FV c k) (passes g k) b

abbrev pub outputs_of : Flow → ℕ → ℕ → Bool
outputs_of g = outputs g (inputs_of g)

-- LC, the inputs that all blocks of J have: block 0 is one of them
abbrev pub LC : Flow → ℕ → Bool
LC g = inputs_of g 0
