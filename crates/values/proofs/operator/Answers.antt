-- `values::operator` meets its contract: each arm is the operator that its tag names.
use borrow.Author.Tests.{ne_eqb}
use native.Mathlib.Omega.{arith}
use Rattle.values.specs.Tags.{operator_of}
use Rattle.values.proofs.operator.Goals as goal

pub returns-in-4 : goal.returns-in-4
unfolding operator_of
returns-in-4 c = rw c.in-4.is

pub returns-in-5 : goal.returns-in-5
unfolding operator_of
returns-in-5 c = rw c.in-5.is

pub returns-in-6 : goal.returns-in-6
unfolding operator_of
returns-in-6 c = rw c.in-6.is

pub returns-in-7 : goal.returns-in-7
unfolding operator_of
returns-in-7 c = rw c.in-7.is

pub returns-in_default : goal.returns-in_default
unfolding operator_of
returns-in_default c =
    let tag = c.args.tag in
    simp (ne_eqb tag 4 (λ e. omega arith), ne_eqb tag 5 (λ e. omega arith), ne_eqb tag 6 (λ e. omega arith), ne_eqb tag 7 (λ e. omega arith))
