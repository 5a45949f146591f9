-- `values::divide` meets its contract. Outside the corner the quotient fits, so it settles to itself.
use mathlib.Core.Path.{ap, sym, ◌∙◌}
use mir.Syntax.{w32}
use mir.Val.{SFits}
use mir.Facts.{to_z-of_z}
use lib.Signed.{quot_z}
use Rattle.definitions.specs.Values.{outcome_of, settled, quotient}
use Rattle.values.proofs.Laws.{by_zero, by-other, named, outside, quotient_fits, settled-fits}
use Rattle.values.proofs.divide.Goals as goal

pub returns-then-y-eq0 : goal.returns-then-y-eq0
unfolding quotient
returns-then-y-eq0 c = ap outcome_of (sym (by_zero _ c.ranges.y c.if-y-eq0.true))

pub returns-then-y-eq-MINUS_ONE : goal.returns-then-y-eq-MINUS_ONE
unfolding quotient settled
returns-then-y-eq-MINUS_ONE c = rw (named c.ranges.x c.if-x-eq-LEAST.true, named c.ranges.y c.if-y-eq-MINUS_ONE.true)

pub returns-else-x-eq-LEAST : goal.returns-else-x-eq-LEAST
unfolding quotient
returns-else-x-eq-LEAST c =
    let fits : SFits w32 (quot_z c.args.x c.args.y) = quotient_fits c.args.x c.args.y c.ranges.x (outside c.else-x-eq-LEAST.either) in
    simp (to_z-of_z c.ranges.x, to_z-of_z c.ranges.y, to_z-of_z fits) (ap outcome_of (sym (by-other c.args.y c.if-y-eq0.false ∙ settled-fits fits)))
