-- `evaluators::operate_at` meets its contract.
use mir.Facts.{to_z-of_z}
use mir.Syntax.{w32}
use mathlib.Core.Path.{◌∙◌}
use Rattle.definitions.specs.Meaning.{applied}
use Rattle.evaluators.proofs.Answers.{placed-value}
use Rattle.evaluators.proofs.operate_at.Goals as goal

pub returns : goal.returns
returns c = c.at_place.ensures ∙ placed-value (applied c.args.op c.args.x c.args.y) _ _ _ (rw (to_z-of_z {w = w32} c.ranges.x, to_z-of_z {w = w32} c.ranges.y) at c.operate.ensures)
