-- `plans::bytes::put_entries` meets its contract. The loop's invariant: the entries before block `b` are written.
use Prim.Native.Nat.{ℕ}
use mathlib.Core.Path.{◌≡◌}
use mathlib.Core.List.{List}
use lib.ListN.{length}
use Rattle.buffers.specs.Words.{over}
use Rattle.definitions.specs.Rule.{Rule}
use Rattle.definitions.specs.Columns.{flow_of}
use Rattle.definitions.specs.Plan.{entries_to}
use Rattle.plans.specs.Laid.{Laid}
use Rattle.plans.proofs.bytes.put_entries.Given as goal

abbrev pub invariant-loop-b : goal.invariant-loop-b
invariant-loop-b l =
    (length l.out ≡ length l.initial.out) × ((r : Rule) (s : List ℕ) → Laid r s l.n l.head l.places l.sets → l.out ≡ over l.initial.out 6 (entries_to (flow_of r) r s l.b))
