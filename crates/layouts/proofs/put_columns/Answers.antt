-- After k turns the columns among the first k variables stand in the line.
use mathlib.Core.Path.{sym, ◌∙◌}
use native.Mathlib.Omega.{arith}
use borrow.Author.Rules.{rules}
use Rattle.definitions.proofs.Counts.{count-before}
use Rattle.layouts.proofs.Lines.{put_none, put_one, put_skip}
use Rattle.layouts.proofs.put_columns.Goals.{then-has, else-has}
use Rattle.layouts.proofs.put_columns.Goals as goal

pub loop-k-init : goal.loop-k-init
loop-k-init c = put_none _ _ _ _

pub overflow_add-at : goal.overflow_add-at
overflow_add-at c = grind (arith, count-before)

pub offset_bounds-work-at : goal.offset_bounds-work-at
offset_bounds-work-at c = grind (arith, count-before)

pub bounds-work-at : goal.bounds-work-at
bounds-work-at c = grind (arith, count-before)

pub loop-k-preserved : goal.loop-k-preserved
loop-k-preserved c =
    let l = c.loop-k in
    let a = c.args in
    let h = c.has in
    elim c.if-has.branch [
      | then-has w ↦ put_one _ a.work.now l.work c.if-has.work a.at l.k a.l.variables w.place.result a.vars.now _ (omega arith) (omega arith) (sym h.ensures ∙ w.if-has.true) w.place.ensures (search rules) w.work-is l.invariant
      | else-has w ↦ put_skip _ a.work.now l.work c.if-has.work a.at l.k a.vars.now (sym h.ensures ∙ w.if-has.false) w.work-is l.invariant
    ]
