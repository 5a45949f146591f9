-- `closure::sweep` meets its contract. The sweep stands at b: what is left and what is added are laws of `Sweeps`.
use mathlib.Core.Path.{◌≡◌}
use lib.ListN.{length}
use Rattle.definitions.specs.Columns.{among}
use Rattle.closure.specs.Tables.{edge_in}
use Rattle.closure.specs.Sweep.{Sweep}
use Rattle.closure.proofs.sweep.Given as goal

abbrev pub invariant-loop-b : goal.invariant-loop-b
invariant-loop-b l = (length l.set ≡ 64) × Sweep l.n (edge_in l.edges) (among l.initial.set) l.b (among l.set) l.more
