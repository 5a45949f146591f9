-- `flows::places_of` meets its contract. Up to `b` the places are written, and the blocks before `b` are read.
use mathlib.Core.Path.{◌≡◌}
use Prim.Native.Nat.{◌+◌}
use Rattle.definitions.specs.Grammar.{read_of, blocks_to}
use Rattle.definitions.specs.Plan.{end_of}
use Rattle.closure.proofs.Laws.{Written}
use Rattle.flows.proofs.places_of.Given as goal
use Rattle.std.specs.Prelude.{Ok}

abbrev pub invariant-loop-b : goal.invariant-loop-b
invariant-loop-b l =
    (read_of (blocks_to l.n l.v l.s l.b) ≡ Ok (end_of (blocks_to l.n l.v l.s l.b)))
    × Written 0 65 (l.b + 1) (λ c. end_of (blocks_to l.n l.v l.s c)) l.out
