-- `plans::bytes::put_entry` meets its contract: four numbers, one right after the other, are one write.
use mathlib.Core.Path.{◌∙◌}
use native.Mathlib.Omega.{arith}
use Rattle.plans.proofs.Writes.{as_number, over-four}
use Rattle.plans.proofs.bytes.put_entry.Goals as goal

pub returns : goal.returns
returns c =
    let a = c.args in
    over-four a.out.now _ a.offset _ _ (omega arith) c.put16_at.ensures c.put16_at-2.ensures c.put16_at-3.ensures (c.from.ensures ∙ as_number _) c.put16_at-4.ensures
