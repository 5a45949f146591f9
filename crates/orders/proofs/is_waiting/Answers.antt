-- `orders::is_waiting` meets its contract: `any` over 0..n answers `some`.
use Rattle.std.proofs.Common.{rules}
use borrow.Author.Tests.{tests}
use Rattle.closure.proofs.Any.{some-any}
use Rattle.definitions.specs.Order.{waits}
use Rattle.orders.proofs.is_waiting.Goals as goal

pub returns : goal.returns
unfolding waits
returns c = some-any _ _ _ _ c.any.ensures.ran (λ x b q k. search (rules, tests))
