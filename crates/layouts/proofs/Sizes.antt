-- Items of one size stand side by side, and the lines of all rows are few. Assumes nothing.
use Prim.Native.Nat.{ℕ, ◌+◌, ◌*◌, ◌≤◌, ◌<◌}
use native.Mathlib.Nat.{mul-le-mul, mul-le-mul_right, suc-mul}
use Rattle.definitions.specs.Batch.{line_size}
use Rattle.definitions.specs.Finder.{most_rows, most_columns}

-- item i of n items of one size ends among them
pub item_in : (i n w : ℕ) → i < n → i * w + w ≤ n * w
item_in i n w h = rw suc-mul at (mul-le-mul_right w h)

pub lines-low : (lines size : ℕ) → lines ≤ most_rows → size ≤ line_size most_columns → lines * size ≤ most_rows * line_size most_columns
lines-low lines size h l = mul-le-mul h l
