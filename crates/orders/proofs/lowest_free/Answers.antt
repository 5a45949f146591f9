-- `orders::lowest_free` meets its contract: `find` over 0..n answers the lowest number.
use Rattle.std.proofs.Common.{rules}
use borrow.Author.Tests.{tests}
use Rattle.definitions.specs.Order.{free}
use Rattle.orders.proofs.Turns.{lowest-find}
use Rattle.orders.proofs.lowest_free.Goals as goal

pub returns : goal.returns
unfolding free
returns c = lowest-find _ _ _ _ _ c.find.ensures.ran (λ x b q k. search (rules, tests))
