-- `evaluators::negate_at` meets its contract.
use mir.Facts.{to_z-of_z}
use mir.Syntax.{w32}
use mathlib.Core.Path.{◌∙◌}
use Rattle.definitions.specs.Values.{negation}
use Rattle.evaluators.proofs.Answers.{placed-value}
use Rattle.evaluators.proofs.negate_at.Goals as goal

pub returns : goal.returns
returns c = c.at_place.ensures ∙ placed-value (negation c.args.x) _ _ _ (rw (to_z-of_z {w = w32} c.ranges.x) at c.negate.ensures)
