-- `closure::smallest` meets its contract. The set holds the seed and lies within every closed set; a sweep that adds a number brings the measure down, how many are not held.
use Prim.Native.Nat.{ℕ, ◌-◌}
use mathlib.Core.Bool.{Bool}
use Rattle.definitions.specs.Smallest.{Within, Closed}
use Rattle.definitions.specs.Columns.{among}
use Rattle.definitions.specs.Batch.{count_to}
use Rattle.closure.specs.Tables.{edge_in}
use Rattle.closure.proofs.smallest.Given as goal

abbrev pub invariant-loop : goal.invariant-loop
invariant-loop l = Within l.n (among l.seed) (among l.set) × ((u : ℕ → Bool) → Closed l.n (among l.seed) (edge_in l.edges) u → Within l.n (among l.set) u)

abbrev pub decreases-loop : goal.decreases-loop
decreases-loop l = l.n - count_to l.n (among l.set)
