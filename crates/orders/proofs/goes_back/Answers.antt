-- `orders::goes_back` meets its contract: `any` over 0..n answers `some`.
use Rattle.std.proofs.Common.{rules}
use borrow.Author.Tests.{tests}
use Rattle.closure.proofs.Any.{some-any}
use Rattle.definitions.specs.Order.{goes_back}
use Rattle.orders.proofs.goes_back.Goals as goal

pub returns : goal.returns
unfolding goes_back
returns c = some-any _ _ _ _ c.any.ensures.ran (λ x b q k. search (rules, tests))
