-- `tokens::skip` meets its contract. The loop's invariant: what is due here ends where the whole does, and at most two items are due for
-- each byte passed, and one. The measure is what is left of the length.
use native.Mathlib.Omega.{arith}
use mathlib.Core.Path.{◌≡◌, sym, ◌∙◌}
use lib.ListN.{get_or}
use Rattle.evaluators.proofs.Skipping.{small, past-none, past-out, past_next}
use Rattle.evaluators.proofs.tokens.skip.Goals as goal

pub returns-else-i-lt4064 : goal.returns-else-i-lt4064
returns-else-i-lt4064 c = sym (c.loop-due.invariant.0 ∙ past-out _ c.loop-due.due c.loop-due.i (omega (arith, c.requires)))

pub overflow_add-due : goal.overflow_add-due
overflow_add-due c = omega (arith, c.items_of.ensures, small (get_or c.args.s.now c.loop-due.i 0))

pub overflow_add-i : goal.overflow_add-i
overflow_add-i c = omega (arith, c.bytes_of-i.ensures, small (get_or c.args.s.now c.loop-due.i 0))

pub loop-due-smaller : goal.loop-due-smaller
loop-due-smaller c = omega (arith, c.bytes_of-i.ensures, small (get_or c.args.s.now c.loop-due.i 0))

pub loop-due-preserved : goal.loop-due-preserved
loop-due-preserved c =
    (rw (c.items_of.ensures, c.bytes_of-i.ensures) (c.loop-due.invariant.0 ∙ past_next _ c.loop-due.due c.loop-due.i (omega arith) (omega arith)), omega (arith, c.items_of.ensures, c.bytes_of-i.ensures, small (get_or c.args.s.now c.loop-due.i 0)))

pub returns-after-loop-due : goal.returns-after-loop-due
returns-after-loop-due c =
    let l = c.loop-due in
    let z : l.due ≡ 0 = omega arith in
    sym (rw z at l.invariant.0 ∙ past-none _ l.i)
