-- `Body::named` meets its contract.
use borrow.Author.Rules.{rules}
use borrow.Author.Tests.{tests}
use Rattle.flows.proofs.Body.named.Goals as goal

pub returns : goal.returns
returns c = λ b t h l. let p = c.edges_where.ensures b t h l in search (rules, tests)
