-- The finder's limits, as one test.
use Rattle.std.specs.Prelude.{ℕ, ◌*◌, Bool, ◌&&◌, leb, ltb}
use Rattle.definitions.specs.Batch.{record_size}
use Rattle.definitions.specs.Finder.{most_rows, most_quota, most_columns}

-- the row is one of the batch, each number keeps to its limit, and so many words hold all records
unfoldable pub within : ℕ → ℕ → ℕ → ℕ → ℕ → Bool
within rows quota columns row words = ltb row rows && (leb rows most_rows && (leb quota most_quota && (leb columns most_columns && leb (rows * record_size quota) words)))
