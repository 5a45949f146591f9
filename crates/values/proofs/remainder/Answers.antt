-- `values::remainder` meets its contract. The machine asks of a remainder that the quotient fits, so the corner is the one of `divide`.
use mathlib.Core.Path.{ap, sym, ◌∙◌}
use mir.Syntax.{w32}
use mir.Val.{SFits}
use mir.Facts.{to_z-of_z}
use lib.Signed.{rem_z}
use Rattle.definitions.specs.Values.{outcome_of, settled, remainder}
use Rattle.values.proofs.Laws.{by_zero, by-other, named, remainder-fits, remainder_law, settled-fits}
use Rattle.values.proofs.remainder.Goals as goal

pub returns-then-y-eq0 : goal.returns-then-y-eq0
unfolding remainder
returns-then-y-eq0 c = ap outcome_of (sym (by_zero _ c.ranges.y c.if-y-eq0.true))

pub returns-then-y-eq-MINUS_ONE : goal.returns-then-y-eq-MINUS_ONE
unfolding remainder settled
returns-then-y-eq-MINUS_ONE c = rw (named c.ranges.x c.if-x-eq-LEAST.true, named c.ranges.y c.if-y-eq-MINUS_ONE.true)

pub returns-else-x-eq-LEAST : goal.returns-else-x-eq-LEAST
unfolding remainder
returns-else-x-eq-LEAST c =
    let fits : SFits w32 (rem_z c.args.x c.args.y) = remainder-fits c.args.x c.args.y c.ranges.x in
    simp (to_z-of_z c.ranges.x, to_z-of_z c.ranges.y, to_z-of_z fits) (ap outcome_of (sym (by-other c.args.y c.if-y-eq0.false ∙ ap settled (remainder_law c.args.x c.args.y) ∙ settled-fits fits)))
