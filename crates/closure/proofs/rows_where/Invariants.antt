-- `closure::rows_where` meets its contract. One loop over the flat table: entry i is in row i / WIDTH at place i % WIDTH.
use Prim.Native.Nat.{◌/◌, ◌%◌}
use mathlib.Core.Bool.{false}
use Rattle.closure.proofs.Laws.{Held}
use Rattle.closure.proofs.rows_where.Given as goal

abbrev pub invariant-loop-i : goal.invariant-loop-i
invariant-loop-i g l = Held false g.row.SIZE l.i (λ k x. goal.F-post g l.test (k / g.row.WIDTH) (k % g.row.WIDTH) x) l.out
