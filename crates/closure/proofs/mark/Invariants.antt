-- `closure::mark` meets its contract. Below `b` the power is added where the set says so, and from there on stands what stood there.
use Prim.Native.Nat.{ℕ, ◌+◌, ◌≤◌, ◌<◌}
use mathlib.Core.Path.{◌≡◌}
use mathlib.Core.Bool.{cond}
use lib.ListN.{get_or, length}
use Rattle.definitions.specs.Columns.{among}
use Rattle.closure.proofs.mark.Given as goal

abbrev pub invariant-loop-b : goal.invariant-loop-b
invariant-loop-b l =
    (length l.masks ≡ 64) × ((k : ℕ) → k < l.b → get_or l.masks k 0 ≡ get_or l.initial.masks k 0 + cond (among l.set k) l.power 0)
    × ((k : ℕ) → l.b ≤ k → get_or l.masks k 0 ≡ get_or l.initial.masks k 0)
