-- The sets that the code holds as arrays, and what they say of a rule's blocks.
use Rattle.std.specs.Prelude.{◌≡◌, Bool, false, not, ◌&&◌, ◌||◌, List, ℕ, ◌+◌, ◌*◌, ◌<◌, get_or}
use Rattle.definitions.specs.Grammar.{most_variables, most_blocks}
use Rattle.definitions.specs.Columns.{Flow, J, among, inputs_of, outputs_of}
use Rattle.definitions.specs.Plan.{mask_of}

-- for each block a test for each block, and for each block a test for each variable
abbrev pub edge_in : List Bool → ℕ → ℕ → Bool
edge_in l b t = get_or l (b * most_blocks + t) false

abbrev pub variable_in : List Bool → ℕ → ℕ → Bool
variable_in l b k = get_or l (b * most_variables + k) false

-- the tables say of the n blocks and the variables below v what the flow says
pub record Tables (g : Flow) (n v : ℕ) (fv bv gotos jumps : List Bool) : Type 0 where
  pub blocks : g.blocks ≡ n
  pub FV : (b k : ℕ) → b < n → k < v → variable_in fv b k ≡ g.FV b k
  pub BV : (b k : ℕ) → b < n → k < v → variable_in bv b k ≡ g.BV b k
  pub gotos' : (b t : ℕ) → b < n → t < n → edge_in gotos b t ≡ g.gotos b t
  pub jumps' : (b t : ℕ) → b < n → t < n → edge_in jumps b t ≡ g.jumps b t

-- block b needs variable k as soon as t does, by the tables
abbrev pub passing : List Bool → List Bool → List Bool → ℕ → ℕ → ℕ → Bool
passing bv named j k b t = (edge_in named b t && not (variable_in bv b k)) || (among j b && among j t)

-- the masks of its inputs and outputs over the variables below v, and J, as arrays
pub record Columned (g : Flow) (n v : ℕ) (inputs outputs : List ℕ) (j : List Bool) : Type 0 where
  pub input : (b : ℕ) → b < n → get_or inputs b 0 ≡ mask_of v (inputs_of g b)
  pub output : (b : ℕ) → b < n → get_or outputs b 0 ≡ mask_of v (outputs_of g b)
  pub joins : (b : ℕ) → b < n → among j b ≡ J g b
