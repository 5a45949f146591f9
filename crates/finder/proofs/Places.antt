-- Where the finder's part lies, and that it is the part which lies there. Assumes nothing.
use Prim.{Unit}
use Prim.Native.Nat.{ℕ, ◌+◌, ◌*◌, ◌≤◌}
use native.Mathlib.Omega.{arith}
use mathlib.Core.Path.{◌≡◌}
use mathlib.Core.List.{List}
use lib.ListN.{length}
use denote.Ref.{Bor}
use Rattle.std.specs.Prelude.{Option, None, Some}
use Rattle.std.proofs.lemmas.Grind.{common_steps}
use Rattle.definitions.specs.Values.{Word}
use Rattle.definitions.specs.Batch.{record_size, line_size}
use Rattle.definitions.specs.Finder.{line_part, found_in, most_rows, most_quota, most_columns}
use Rattle.definitions.specs.declared.Place.{Place}
use Rattle.definitions.specs.declared.Place.TheVariants.{InResult, InWork}
use Rattle.layouts.proofs.Sizes.{item_in}
use Rattle.finder.specs.Limits.{within}
use Rattle.finder.specs.Place.{line_place, place_in, part_at}
use Rattle.finder.proofs.Finds.{line-whole}

-- what a place keeps to: its part lies in its buffer, and its first word is a small number
pub record InBuffer (buffer : List Word) (at size most : ℕ) : Type 0 where
  pub low : at ≤ most_rows * most
  pub narrow : size ≤ most
  pub inside : at + size ≤ length buffer

unfoldable pub Lying : List Word → List Word → ℕ → ℕ → Option Place → Type 0
Lying result work quota columns (Some (InResult at)) = InBuffer result at (record_size quota) (record_size most_quota)
Lying result work quota columns (Some (InWork at)) = InBuffer work at (line_size columns) (line_size most_columns)
Lying result work quota columns None = Unit {0}

module _ (result work : Bor (List Word)) (rows quota columns row : ℕ) where
  pub lying : Lying result.now work.now quota columns (place_in result.now work.now rows quota columns row)
  unfolding within place_in line_place Lying
  lying = grind (arith, common_steps, item_in row rows, line-whole work.now (line_size columns) row rows)

  -- the finder's part is the one that lies there
  pub found_at : part_at result work quota columns (within rows quota columns row (length result.now)) (place_in result.now work.now rows quota columns row) ≡ found_in result work rows quota columns row
  unfolding within place_in line_place line_part part_at found_in
  found_at = grind (arith, common_steps)
