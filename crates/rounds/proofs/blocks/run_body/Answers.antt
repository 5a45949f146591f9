-- `blocks::run_body` meets its contract. The loop's invariant: the statements left, from where it stands, give what all of them give. The
-- measure is what is left of the length. Each turn and each return is a law of `Stepping`.
use native.Mathlib.Omega.{arith}
use mathlib.Core.Path.{refl}
use Prim.Native.Nat.{◌≤◌}
use lib.ListN.{get_or}
use Rattle.evaluators.proofs.Answers.{passed}
use Rattle.rounds.proofs.Stepping as laws
use Rattle.rounds.proofs.blocks.run_body.Goals as goal
use Rattle.rounds.proofs.blocks.run_body.Goals.{After-step, then-s-i-eq32, else-s-i-eq32+then-s-i-eq33}

pub loop-i-init : goal.loop-i-init
loop-i-init c = λ h. record { here = h; targets = refl; next = refl; ending = refl; passed = refl; left = refl; within = c.requires.count_le_quota.0; room = c.requires.count_le_quota.1; size = refl; stays = refl }

pub bounds-s-i : goal.bounds-s-i
bounds-s-i c = omega (arith, laws.rest-there (c.loop-i.invariant c.requires.sized.1), c.requires.sized.0.1)

pub bounds-s-i-else-s-i-eq32 : goal.bounds-s-i-else-s-i-eq32
bounds-s-i-else-s-i-eq32 c = omega (arith, laws.rest-there (c.loop-i.invariant c.requires.sized.1), c.requires.sized.0.1)

pub step-requires-clause-sized : goal.step-requires-clause-sized
step-requires-clause-sized c =
    let rest = c.loop-i.invariant c.requires.sized.1 in (
      c.requires.sized.0,
      elim c.if-s-i-eq32.branch [ then-s-i-eq32 w ↦ laws.stmt-next rest (omega arith) (omega arith) | else-s-i-eq32+then-s-i-eq33 w ↦ laws.stmt-next rest (omega arith) (omega arith) ],
    )

pub step-requires-clause-count_le_quota : goal.step-requires-clause-count_le_quota
step-requires-clause-count_le_quota c =
    let rest = c.loop-i.invariant c.requires.sized.1 in
    (rest.within, rest.room)

-- the tag of a statement stands there
tag : (c : After-step) → let t = get_or c.args.s.now c.loop-i.i 0 in (32 ≤ t) × (t ≤ 33)
tag c = elim c.if-s-i-eq32.branch [ then-s-i-eq32 w ↦ omega arith | else-s-i-eq32+then-s-i-eq33 w ↦ omega arith ]

pub returns-in_err-i : goal.returns-in_err-i
returns-in_err-i c =
    λ h.
    let t = tag (goal.at.returns-in_err-i c).After-step in
    rw (passed _ _ c.from_residual.ensures.1) (laws.ended-there (c.loop-i.invariant h) t.0 t.1 c.step.ensures _ c.in_err-i.was)

pub loop-i-smaller : goal.loop-i-smaller
loop-i-smaller c =
    let t = tag (goal.at.loop-i-smaller c).After-step in
    let rest = c.loop-i.invariant c.requires.sized.1 in
    let went = laws.went_on rest t.0 t.1 c.step.ensures _ c.in_ok-i.was (omega arith) in
    omega (arith, went.0, laws.rest-there rest)

pub loop-i-preserved : goal.loop-i-preserved
loop-i-preserved c =
    λ h.
    let t = tag (goal.at.loop-i-preserved c).After-step in
    (laws.went_on (c.loop-i.invariant h) t.0 t.1 c.step.ensures _ c.in_ok-i.was (omega arith)).1

pub returns : goal.returns
returns c = λ h. laws.all_run (c.loop-i.invariant h) c.if-s-i-eq32.false c.if-s-i-eq33.false
