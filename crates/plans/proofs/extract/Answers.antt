-- `plans::extract` meets its contract: the header and the bodies, one right after the other.
use native.Mathlib.Omega.{arith}
use Rattle.plans.proofs.Taking.{none, cut_entry, cut_bodies, rest, too_long, all_there}
use Rattle.plans.proofs.extract.Goals as goal

pub returns-then-plan-lt8 : goal.returns-then-plan-lt8
returns-then-plan-lt8 c = none _ (cut_entry _ (omega arith)) _

pub returns-in_err-bodies : goal.returns-in_err-bodies
returns-in_err-bodies c =
    rw c.from_residual.ensures (none _ (cut_bodies _ (omega (arith, c.bodies_at.ensures, c.in_err-bodies.ensures.lookup.0))) _)

pub returns-then-bodies : goal.returns-then-bodies
returns-then-bodies c =
    none _ (too_long _ (omega arith) (rest _ c.bodies_at.ensures c.in_ok-bodies.ensures.lookup.0.2) (omega arith)) _

pub returns : goal.returns
returns c =
    all_there _ (omega arith) (rest _ c.bodies_at.ensures c.in_ok-bodies.ensures.lookup.0.2) (omega arith) _ c.requires c.copy_at.ensures c.copy_at-2.ensures
