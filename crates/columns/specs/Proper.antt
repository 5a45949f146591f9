-- What the grammar sees to in every rule that it accepts, as far as the run on the plan's columns rests on it.
use Rattle.std.specs.Prelude.{ℕ, ◌≤◌, ◌<◌, ◌≡◌, true}
use Rattle.definitions.specs.Rule.{Rule, size, block_of}
use Rattle.definitions.specs.Grammar.{most_variables}
use Rattle.definitions.specs.Columns.{read_first, sets, goes_to, jumps_to}

-- how many blocks a round may still enter after each block: fewer than there are, and fewer after every goto
pub record Ranked (r : Rule) (rank : ℕ → ℕ) : Type 0 where
  pub below : (b : ℕ) → b < size r → rank b < size r
  pub falls : (b t : ℕ) → b < size r → goes_to (block_of r b).ending t ≡ true → rank t < rank b

pub record Proper (r : Rule) : Type 0 where
  pub entry : 0 < size r
  pub few : r.variables ≤ most_variables
  pub given : r.arguments ≤ r.variables
  -- in every block: the variables that are read or set, and the blocks that are named, are there; a rank falls along gotos
  pub read_below : (b k : ℕ) → b < size r → read_first (block_of r b).body (block_of r b).ending k ≡ true → k < r.variables
  pub set_below : (b k : ℕ) → b < size r → sets (block_of r b).body k ≡ true → k < r.variables
  pub goto-below : (b t : ℕ) → b < size r → goes_to (block_of r b).ending t ≡ true → t < size r
  pub jump_below : (b t : ℕ) → b < size r → jumps_to (block_of r b).ending t ≡ true → t < size r
  pub rank : ℕ → ℕ
  pub ranked : Ranked r rank
