-- After k turns the columns among the first k variables are spread out.
use mathlib.Core.Path.{sym, ◌∙◌}
use native.Mathlib.Omega.{arith}
use borrow.Author.Rules.{rules}
use Rattle.definitions.proofs.Counts.{count-before}
use Rattle.layouts.proofs.Lines.{spread_none, spread-one, spread_skip}
use Rattle.layouts.proofs.columns_at.Goals.{then-has, else-has}
use Rattle.layouts.proofs.columns_at.Goals as goal

pub loop-k-init : goal.loop-k-init
loop-k-init c = spread_none _ _

pub overflow_add-vars : goal.overflow_add-vars
overflow_add-vars c = grind (arith, count-before)

pub offset_bounds-work-at : goal.offset_bounds-work-at
offset_bounds-work-at c = grind (arith, count-before)

pub bounds-work-at : goal.bounds-work-at
bounds-work-at c = grind (arith, count-before)

pub loop-k-preserved : goal.loop-k-preserved
loop-k-preserved c =
    let l = c.loop-k in
    let a = c.args in
    let h = c.has in
    elim c.if-has.branch [
      | then-has w ↦ spread-one _ a.work.now l.vars c.if-has.vars a.at l.k w.place.result _ (sym h.ensures ∙ w.if-has.true) w.place.ensures (search rules) w.vars-is l.invariant
      | else-has w ↦ spread_skip _ l.vars c.if-has.vars _ l.k (sym h.ensures ∙ w.if-has.false) w.vars-is l.invariant
    ]
