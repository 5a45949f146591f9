-- `values::relation` meets its contract.
use borrow.Author.Tests.{ne_eqb}
use native.Mathlib.Omega.{arith}
use Rattle.values.specs.Tags.{relation_of}
use Rattle.values.proofs.relation.Goals as goal

pub returns-in-16 : goal.returns-in-16
unfolding relation_of
returns-in-16 c = rw c.in-16.is

pub returns-in_default : goal.returns-in_default
unfolding relation_of
returns-in_default c = simp (ne_eqb c.args.tag 16 (λ e. omega arith))
