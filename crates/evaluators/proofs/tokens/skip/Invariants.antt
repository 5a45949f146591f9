-- `tokens::skip` meets its contract. The loop's invariant: what is due here ends where the whole does, and at most two items are due for
-- each byte passed, and one. The measure is what is left of the length.
use Prim.Native.Nat.{◌+◌, ◌*◌, ◌-◌, ◌≤◌}
use mathlib.Core.Path.{◌≡◌}
use lib.ListN.{length}
use Rattle.evaluators.specs.Skip.{past}
use Rattle.evaluators.proofs.tokens.skip.Given as goal

abbrev pub invariant-loop-due : goal.invariant-loop-due
invariant-loop-due l = (past 1 l.s l.at ≡ past l.due l.s l.i) × (l.due ≤ 2 * l.i + 1)

abbrev pub decreases-loop-due : goal.decreases-loop-due
decreases-loop-due l = length l.s - l.i
