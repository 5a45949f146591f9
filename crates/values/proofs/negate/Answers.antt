-- `values::negate` meets its contract.
use mir.Facts.{to_z-of_z}
use Rattle.values.proofs.Laws.{settles}
use Rattle.values.proofs.negate.Goals as goal

pub returns : goal.returns
returns c = settles _ _ (simp (to_z-of_z c.ranges.x) at c.checked_neg.ensures) c.ok_or.ensures.value
