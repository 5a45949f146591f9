-- `evaluators::at_place` meets its contract.
use native.Mathlib.Omega.{arith}
use Rattle.evaluators.specs.Answer.{placed}
use Rattle.evaluators.proofs.Answers.{bound}
use Rattle.evaluators.proofs.at_place.Goals as goal

pub returns-in-Ok : goal.returns-in-Ok
unfolding placed
returns-in-Ok c = rw (c.in-Ok.is, bound c.in-Ok.x (omega arith))

pub returns-in-Err : goal.returns-in-Err
unfolding placed
returns-in-Err c = rw c.in-Err.is
