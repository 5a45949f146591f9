-- `rounds::round` meets its contract. The loop's invariant: the walk that is left gives what the whole walk gives.
use Prim.Native.Nat.{◌+◌, ◌-◌}
use mathlib.Core.Path.{◌≡◌, refl}
use native.Mathlib.Omega.{arith}
use lib.ListN.{get_or}
use Rattle.plans.proofs.Carried.{head-fits, carried-in, carried-proper, at-variables}
use Rattle.rounds.proofs.Rounding.{here, started, spent, walked_end, walked-jump, walked_on}
use Rattle.rounds.proofs.round.Goals as goal
use Rattle.rounds.proofs.round.Goals.{in-Ok-Stop, in-Err}
use Rattle.definitions.specs.declared.Finish.TheVariants.{Stopped}

pub bounds-plan-1 : goal.bounds-plan-1
bounds-plan-1 c = omega (arith, head-fits _ c.requires.accepted.0)

pub bounds-plan-3 : goal.bounds-plan-3
bounds-plan-3 c = omega (arith, head-fits _ c.requires.accepted.0)

pub loop-init : goal.loop-init
loop-init c = let p = c.requires in started p.accepted.0 p.accepted.1.1 p.count_le_quota.0 _ (omega arith)

pub entry_of-e-requires : goal.entry_of-e-requires
entry_of-e-requires c = (c.requires.accepted.0, c.loop.invariant.below)

pub run_block-requires-clause-sized : goal.run_block-requires-clause-sized
run_block-requires-clause-sized c =
    let r = c.requires.accepted in
    let a = r.0 in
    ((omega (arith, at-variables _ a, (carried-in _ a).variables-to), r.1.0.1), here _ a _ c.loop.invariant.below _ _ _ refl r.1.0.0 c.entry_of-e.ensures.place')

pub run_block-requires-clause-count_le_quota : goal.run_block-requires-clause-count_le_quota
run_block-requires-clause-count_le_quota c = (c.loop.invariant.few, omega arith)

pub loop-preserved : goal.loop-preserved
loop-preserved c =
    let end = get_or c.args.plan.now 3 0 in
    let left : end - c.loop.counter - 1 ≡ end - (c.loop.counter + 1) = omega arith in
    rw left at
    (walked_on c.requires.accepted.0 c.loop.invariant (omega arith) refl c.requires.accepted.1.0.0 c.entry_of-e.ensures c.run_block.ensures (carried-proper _ c.requires.accepted.0) _ (rw c.in-Ok-Goto.field-0-is at c.in-Ok-Goto.is))

pub returns-in-Ok-Jump : goal.returns-in-Ok-Jump
returns-in-Ok-Jump c =
    rw c.jump_to.ensures
    (walked-jump c.requires.accepted.0 c.loop.invariant (omega arith) refl c.requires.accepted.1.0.0 c.entry_of-e.ensures c.run_block.ensures _ (rw c.in-Ok-Jump.field-0-is at c.in-Ok-Jump.is))

pub returns-in-loop : goal.returns-in-loop
returns-in-loop c =
    let ended = walked_end c.requires.accepted.0 c.loop.invariant (omega arith) refl c.requires.accepted.1.0.0 c.entry_of-e.ensures c.run_block.ensures in
    elim c.match-run_block.branch [
      | in-Ok-Stop w ↦ rw (w.finish-is) (ended Stopped (λ W. rw (w.in-Ok-Stop.is, w.in-Ok-Stop.field-0-is)))
      | in-Err w ↦ rw w.finish-is (ended _ (λ W. rw w.in-Err.is))
    ]

pub returns : goal.returns
returns c = rw c.jump_to-2.ensures (spent c.loop.invariant (omega arith))
