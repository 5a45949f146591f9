-- After each turn the row stands where the direct run's does after as many rounds.
use mathlib.Core.Path.{refl, sym, ◌∙◌}
use native.Mathlib.Omega.{arith}
use Rattle.carries.proofs.Carries.{progress_none, progress-next, progress_early, few, block-below}
use Rattle.carries.proofs.carry.Goals as goal

pub loop-n-init : goal.loop-n-init
loop-n-init c =
    let a = c.args in
    (refl, λ k. (progress_none _ a.quota a.spot.block a.spot.count a.labels.now a.vars.now k (omega arith)))

pub returns-then-not-goes_on : goal.returns-then-not-goes_on
returns-then-not-goes_on c =
    let l = c.loop-n in
    λ k. progress_early c.requires.running.1 k.sound l.n l.c (l.invariant.1 k) c.args.budget (omega arith) (sym c.goes_on.ensures ∙ c.if-not-goes_on.true)

pub round-e-requires-clause-accepted : goal.round-e-requires-clause-accepted
round-e-requires-clause-accepted c =
    let l = c.loop-n in
    let k = c.requires.in_hand in
    (c.requires.running.0.accepted, (c.requires.running.0.bytes, block-below c.requires.running.1 k.sound l.n l.c (l.invariant.1 k) (sym c.goes_on.ensures ∙ c.if-not-goes_on.false)))

pub round-e-requires-clause-count_le_quota : goal.round-e-requires-clause-count_le_quota
round-e-requires-clause-count_le_quota c =
    let l = c.loop-n in
    let k = c.requires.in_hand in
    (few c.requires.running.1 k.sound l.n l.c (l.invariant.1 k), omega arith)

pub loop-n-preserved : goal.loop-n-preserved
loop-n-preserved c =
    let l = c.loop-n in
    (refl, λ k. progress-next c.requires.running.1 k.sound l.n l.c (l.invariant.1 k) (sym c.goes_on.ensures ∙ c.if-not-goes_on.false) l.invariant.0 c.round-e.result _ _ c.round-e.ensures.round c.round-e.ensures.unended (omega arith))
