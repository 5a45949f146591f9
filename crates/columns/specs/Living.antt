-- 02, K3: rules that differ in dead blocks alone. That they have the same columns, and that their runs are the same but for the places of faults, are the theorems of proofs/Living.antt.
use Rattle.std.specs.Prelude.{ℕ, ◌<◌, ◌≡◌}
use Rattle.definitions.specs.Rule.{Rule, size, block_of}
use Rattle.definitions.specs.Columns.{LedTo}

-- every block that is led to in the one stands in the other too
pub record SameLiving (r other : Rule) : Type 0 where
  pub blocks : size other ≡ size r
  pub same : (b : ℕ) → b < size r → LedTo r b → block_of other b ≡ block_of r b
