-- `Body::sets` meets its contract.
use borrow.Author.Rules.{rules}
use borrow.Author.Tests.{tests}
use Rattle.flows.proofs.Body.sets.Goals as goal

pub returns : goal.returns
returns c = λ b k h l. let p = c.variables_where.ensures b k h l in search (rules, tests)
