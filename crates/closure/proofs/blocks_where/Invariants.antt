-- `closure::blocks_where` meets its contract. An array that is written number by number.
use mathlib.Core.Bool.{false}
use Rattle.closure.proofs.Laws.{Held}
use Rattle.closure.proofs.blocks_where.Given as goal

abbrev pub invariant-loop-b : goal.invariant-loop-b
invariant-loop-b g l = Held false 64 l.b (goal.F-post g l.test) l.out
