-- `printing::labels` meets its contract: no labels of a negative count, else the smaller of count and quota.
use Rattle.std.proofs.Common.{rules}
use Rattle.printing.specs.Text.{shown}
use Rattle.printing.proofs.labels.Goals as goal

pub returns-then-count-lt0 : goal.returns-then-count-lt0
unfolding shown
returns-then-count-lt0 c = search rules

pub returns-else-count-lt0 : goal.returns-else-count-lt0
unfolding shown
returns-else-count-lt0 c = search rules
