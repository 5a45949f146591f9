-- `closure::needing` meets its contract: the smallest set for a seed and edges that say below n what `variable_in` and `passing` say.
use Rattle.std.proofs.Common.{rules, arith}
use borrow.Author.Tests.{tests}
use Rattle.definitions.proofs.Smallest.{alike}
use Rattle.closure.proofs.needing.Goals as goal

pub returns : goal.returns
returns c =
    alike
    (λ b h. let p = c.blocks_where-seed.ensures b h in search (rules, tests))
    (λ b t h l. let p = c.edges_where-edges.ensures b t h (omega arith) in search (rules, tests))
    c.smallest.ensures
