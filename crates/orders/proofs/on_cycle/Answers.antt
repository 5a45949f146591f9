-- `orders::on_cycle` meets its contract. The smallest set of blocks that lead to b has b if a path leads from b to b.
use Rattle.std.proofs.Common.{rules}
use Rattle.orders.proofs.Answers.{told}
use Rattle.orders.proofs.on_cycle.Goals as goal

pub returns : goal.returns
returns c = told _ _ _ _ _ c.requires.1 (λ i l. let p = c.blocks_where-seed.ensures i l in search rules) c.smallest-set.ensures
