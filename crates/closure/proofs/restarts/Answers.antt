-- `closure::restarts` meets its contract: `any` over 0..n answers `some`.
use Rattle.std.proofs.Common.{rules}
use borrow.Author.Tests.{tests, ne_eqb}
use Rattle.closure.proofs.Any.{some-any}
use Rattle.closure.proofs.restarts.Goals as goal

pub returns-else-t-eq0 : goal.returns-else-t-eq0
returns-else-t-eq0 c =
    rw (ne_eqb _ 0 c.if-t-eq0.false) (some-any _ _ _ _ c.any.ensures.ran (λ x b q k. search (rules, tests)))
