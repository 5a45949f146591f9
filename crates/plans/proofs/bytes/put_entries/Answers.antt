-- `plans::bytes::put_entries` meets its contract. The loop's invariant: the entries before block `b` are written.
use mathlib.Core.Path.{refl}
use native.Mathlib.Omega.{arith}
use Rattle.plans.proofs.Laying.{nothing, one_entry}
use Rattle.plans.proofs.bytes.put_entries.Goals as goal

pub loop-b-init : goal.loop-b-init
loop-b-init c = (refl, λ r s l. nothing c.args.out.now r s)

pub loop-b-preserved : goal.loop-b-preserved
loop-b-preserved c =
    let l = c.loop-b in (
      omega arith,
      λ r bytes laid. one_entry laid l.b (omega arith) (c.requires.1.1.1 l.b (omega arith)).0 c.args.out.now l.out _ (omega arith) (l.invariant.1 r bytes laid) c.put_entry.ensures,
    )
