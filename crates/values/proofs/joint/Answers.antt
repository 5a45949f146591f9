-- `values::joint` meets its contract.
use borrow.Author.Tests.{ne_eqb}
use native.Mathlib.Omega.{arith}
use Rattle.values.specs.Tags.{joint_of}
use Rattle.values.proofs.joint.Goals as goal

pub returns-in-19 : goal.returns-in-19
unfolding joint_of
returns-in-19 c = rw c.in-19.is

pub returns-in_default : goal.returns-in_default
unfolding joint_of
returns-in_default c = simp (ne_eqb c.args.tag 19 (λ e. omega arith))
