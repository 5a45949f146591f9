-- Measures of the cycle of calls {run_end, run_if}: twice the levels left, and one more for `run_end`, which calls `run_if` at the levels that it has.
use Rattle.std.proofs.Common.{◌+◌, ◌*◌}
use Rattle.rounds.proofs.blocks.+endings.Given as goal

abbrev pub decreases-run_end : goal.decreases-run_end
decreases-run_end l = 2 * l.left + 1

abbrev pub decreases-run_if : goal.decreases-run_if
decreases-run_if l = 2 * l.left
