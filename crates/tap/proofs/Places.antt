-- A place's first word is small, so that an answer's halves can be told apart. Assumes nothing.
use Prim.Native.Nat.{ℕ, ◌<◌}
use native.Mathlib.Omega.{arith}
use mathlib.Core.List.{List}
use Rattle.std.proofs.lemmas.Grind.{common_steps}
use Rattle.definitions.specs.Values.{Word}
use Rattle.finder.specs.Limits.{within}
use Rattle.finder.specs.Place.{line_place, place_in}
use Rattle.tap.specs.Packed.{half}
use Rattle.tap.specs.Place.{first_word}

-- what the finder answers can be packed
pub place-low : (result work : List Word) (rows quota columns row : ℕ) → first_word (place_in result work rows quota columns row) < half
unfolding within place_in line_place first_word
place-low result work rows quota columns row = grind (arith, common_steps)
