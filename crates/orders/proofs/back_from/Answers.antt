-- `orders::back_from` meets its contract: `any` over 0..b answers `some`.
use Rattle.std.proofs.Common.{rules}
use borrow.Author.Tests.{tests}
use Rattle.closure.proofs.Any.{some-any}
use Rattle.orders.proofs.back_from.Goals as goal

pub returns : goal.returns
returns c = some-any _ _ _ _ c.any.ensures.ran (λ x b q k. search (rules, tests))
