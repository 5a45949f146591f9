-- `plans::bytes::lay` meets its contract: five writes, one right after the other, are the plan.
use mathlib.Core.Path.{refl}
use native.Mathlib.Omega.{arith}
use Rattle.plans.proofs.Laying.{begins, whole-plan}
use Rattle.plans.proofs.bytes.lay.Goals as goal

pub returns : goal.returns
returns c =
    λ r ordered laid.
    whole-plan ordered laid c.args.out.now c.head_size-entries.result _ c.requires.some c.requires.header c.requires.fits c.head_size-entries.ensures refl
    c.copy_at.ensures c.put16_at.ensures (c.put_entries.ensures r _ (begins (omega (arith, c.head_size-entries.ensures)) laid)) c.copy_at-2.ensures c.copy_at-3.ensures
