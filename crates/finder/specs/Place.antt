-- Where the finder's part lies: in which buffer, and from which word on.
use Rattle.std.specs.Prelude.{ℕ, ◌*◌, Bool, cond, List, ltb, pos, length, get_or, Option, None, Some}
use Rattle.std.specs.Borrow.{Bor}
use Rattle.definitions.specs.Values.{Word}
use Rattle.definitions.specs.Batch.{record_size, line_size}
use Rattle.definitions.specs.Finder.{Part, part_of, is_number, line_index}
use Rattle.definitions.specs.declared.Place.{Place}
use Rattle.definitions.specs.declared.Place.TheVariants.{InResult, InWork}
use Rattle.finder.specs.Limits.{within}

unfoldable pub line_place : List Word → ℕ → ℕ → ℕ → Option Place
line_place work rows size row = cond (ltb (line_index work size row 0 rows) rows) (Some (InWork (line_index work size row 0 rows * size))) None

unfoldable pub place_in : List Word → List Word → ℕ → ℕ → ℕ → ℕ → Option Place
place_in result work rows quota columns row =
    cond (within rows quota columns row (length result))
    (cond (is_number (get_or result (row * record_size quota) (pos 0)) 0)
    (line_place work rows (line_size columns) row)
    (Some (InResult (row * record_size quota))))
    None

-- the part that lies there: where there is none, it is empty, and begins the working buffer if a line was looked for there, else the result buffer
unfoldable pub part_at : Bor (List Word) → Bor (List Word) → ℕ → ℕ → Bool → Option Place → Part
part_at result work quota columns looked (Some (InResult at)) = part_of result at (record_size quota)
part_at result work quota columns looked (Some (InWork at)) = part_of work at (line_size columns)
part_at result work quota columns looked None = cond looked (part_of work 0 0) (part_of result 0 0)
