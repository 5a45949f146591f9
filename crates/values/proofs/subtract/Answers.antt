-- `values::subtract` meets its contract.
use mir.Facts.{to_z-of_z}
use Rattle.values.proofs.Laws.{settles}
use Rattle.values.proofs.subtract.Goals as goal

pub returns : goal.returns
returns c = settles _ _ (simp (to_z-of_z c.ranges.x, to_z-of_z c.ranges.y) at c.checked_sub.ensures) c.ok_or.ensures.value
