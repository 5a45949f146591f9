-- `blocks::step` meets its contract. Each return is a law of `Stepping`.
use Prim.Native.Nat.{◌+◌, ◌<◌}
use native.Mathlib.Omega.{arith}
use lib.ListN.{get_or}
use Rattle.evaluators.proofs.Answers.{told, bound}
use Rattle.rounds.proofs.Handing.{value-of, fault-of}
use Rattle.rounds.proofs.Stepping as laws
use Rattle.rounds.proofs.blocks.step.Goals as goal
use Rattle.rounds.proofs.blocks.step.Goals.{Start, Then-s-at-eq32}

tag-there : (c : Start) → c.args.at < 4064
tag-there c = omega (arith, laws.tag_there _ _ _ c.requires.sized.1, c.requires.sized.0.1)

pub overflow_add-next : goal.overflow_add-next
overflow_add-next c = omega (arith, tag-there (goal.at.overflow_add-next c).Start)

pub bounds-s-at : goal.bounds-s-at
bounds-s-at c = tag-there (goal.at.bounds-s-at c).Start

-- what stands after a set's tag
set_there : (c : Then-s-at-eq32) → let a = c.args in (a.at + 1 < 4064) × (get_or a.s.now (a.at + 1) 0 < 16)
set_there c =
    let h = laws.set_there _ _ _ c.requires.sized.1 c.if-s-at-eq32.true in
    (omega (arith, h.0, c.requires.sized.0.1), omega (arith, h.1, c.requires.sized.0.0))

pub bounds-s-next : goal.bounds-s-next
bounds-s-next c = (set_there (goal.at.bounds-s-next c).Then-s-at-eq32).0

pub eval_expr-requires : goal.eval_expr-requires
eval_expr-requires c = (c.requires.sized.0, laws.set_readable _ _ _ c.requires.sized.1 c.if-s-at-eq32.true)

pub bounds-vars-x : goal.bounds-vars-x
bounds-vars-x c = (set_there (goal.at.bounds-vars-x c).Then-s-at-eq32).1

pub eval_expr-requires-else-s-at-eq32 : goal.eval_expr-requires-else-s-at-eq32
eval_expr-requires-else-s-at-eq32 c = (c.requires.sized.0, laws.emit_readable _ _ _ c.requires.sized.1 c.if-s-at-eq32.false)

pub returns-in_err-z : goal.returns-in_err-z
returns-in_err-z c =
    λ h.
    let f = fault-of _ _ _ _ c.map_err.ensures.cases c.in_err-z.was c.from_residual.ensures.1 in
    rw f.2 (laws.set-fault h c.requires.count_le_quota.0 f.0 c.if-s-at-eq32.true (told c.eval_expr.ensures f.1))

pub returns-in_ok-z : goal.returns-in_ok-z
returns-in_ok-z c =
    λ h.
    rw (bound c.in_ok-z.z (omega arith)) (laws.set_on h c.requires.count_le_quota.0 _ _ c.if-s-at-eq32.true (told c.eval_expr.ensures (value-of _ _ _ c.map_err.ensures.cases c.in_ok-z.was)))

pub returns-in_err-z-2 : goal.returns-in_err-z-2
returns-in_err-z-2 c =
    λ h.
    let f = fault-of _ _ _ _ c.map_err-else-s-at-eq32.ensures.cases c.in_err-z-2.was c.from_residual-in_err-z-2.ensures.1 in
    rw f.2 (laws.emit_fault h c.requires.count_le_quota.0 f.0 c.if-s-at-eq32.false (told c.eval_expr-else-s-at-eq32.ensures f.1))

pub returns-then-quota-count : goal.returns-then-quota-count
returns-then-quota-count c =
    λ h.
    let v = value-of _ _ _ c.map_err-else-s-at-eq32.ensures.cases c.in_ok-z-2.was in
    (laws.emit_full h c.requires.count_le_quota.0 _ _ c.if-s-at-eq32.false (told c.eval_expr-else-s-at-eq32.ensures v) c.if-quota-count.true c.requires.count_le_quota.1)

pub returns-else-quota-count : goal.returns-else-quota-count
returns-else-quota-count c =
    λ h.
    let v = told c.eval_expr-else-s-at-eq32.ensures (value-of _ _ _ c.map_err-else-s-at-eq32.ensures.cases c.in_ok-z-2.was) in
    rw (bound c.in_ok-z-2.z (omega arith)) (laws.emit_on h c.requires.count_le_quota.0 _ _ c.if-s-at-eq32.false v c.if-quota-count.false c.requires.count_le_quota.1)
