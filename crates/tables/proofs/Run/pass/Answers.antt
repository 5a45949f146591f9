-- Between two turns: the lines written stand at the front, those still to read behind.
use mathlib.Core.Path.{◌≡◌, sym, ◌∙◌}
use mathlib.Core.Bool.{cond}
use Prim.Native.Nat.{◌+◌}
use native.Mathlib.Omega.{arith}
use Rattle.definitions.specs.Direct.{goes_on}
use Rattle.tables.proofs.Rows.{one}
use Rattle.tables.proofs.Passes.{few-live, mid_start, ready, mid_row, mid-each, mid-turn, mid_end, one_more, no_more}
use Rattle.tables.proofs.Turns.{steps, line_low}
use Rattle.tables.proofs.Run.pass.Goals as goal
use Rattle.tables.proofs.Run.pass.Goals.{then-goes_on, else-goes_on}

pub loop-i-init : goal.loop-i-init
loop-i-init c = (omega arith, mid_start (steps c.requires.running) _)

pub overflow_mul-m : goal.overflow_mul-m
overflow_mul-m c = omega (arith, line_low c.requires.running.known c.loop-i.i (omega (arith, few-live c.requires.rows_may_begin.table)))

pub overflow_mul-m-in-loop-i : goal.overflow_mul-m-in-loop-i
overflow_mul-m-in-loop-i c = omega (arith, line_low c.requires.running.known c.loop-i.live (omega (arith, few-live c.requires.rows_may_begin.table)))

pub turn-s-requires-clause-row_may_begin : goal.turn-s-requires-clause-row_may_begin
turn-s-requires-clause-row_may_begin c =
    let sw = steps c.requires.running in
    let t = c.requires.rows_may_begin.table in
    let kn = c.requires.running.known in
    let d = ready sw _ t (omega arith) (c.loop-i.invariant.1 t) in
    let at = mid_row sw _ t d _ kn.size' in
    record { at = at; room = mid-each sw _ t d _ kn.size' _ c.requires.rows_may_begin.room at.going }

pub returns : goal.returns
returns c = λ t. mid_end (steps c.requires.running) _ t (omega arith) (c.loop-i.invariant.1 t)

pub loop-i-preserved : goal.loop-i-preserved
loop-i-preserved c =
    let sw = steps c.requires.running in
    let kn = c.requires.running.known in
    let u = c.turn-s in
    let l = c.loop-i in
    let kept : c.if-goes_on.live ≡ l.live + cond (goes_on u.result.finish) 1 0 =
    elim c.if-goes_on.branch [ then-goes_on w ↦ one_more _ _ _ (sym c.goes_on.ensures ∙ w.if-goes_on.true) w.live-is | else-goes_on w ↦ no_more _ _ _ (sym c.goes_on.ensures ∙ w.if-goes_on.false) w.live-is ] in (
      omega (arith, kept, one (goes_on u.result.finish)),
      λ t.
          let d = ready sw _ t (omega arith) (l.invariant.1 t) in
          mid-turn sw _ t d _ kn.size' u.result _ _ (u.ensures (mid_row sw _ t d _ kn.size')) _ _ kept c.max-most.ensures,
    )
