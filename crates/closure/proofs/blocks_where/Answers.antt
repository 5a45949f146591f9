-- `closure::blocks_where` meets its contract.
use Rattle.std.proofs.Common.{arith}
use Rattle.closure.proofs.Laws.{held-set}
use Rattle.closure.proofs.blocks_where.Goals as goal

pub loop-b-preserved : goal.loop-b-preserved
loop-b-preserved g c = held-set _ _ _ _ _ _ (omega arith) c.loop-b.invariant c.test.ensures
