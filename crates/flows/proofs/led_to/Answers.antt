-- `flows::led_to` meets its contract: the smallest set for a seed and edges that say below n what the tables say.
use native.Mathlib.Omega.{arith}
use borrow.Author.Rules.{rules}
use borrow.Author.Tests.{tests}
use Rattle.definitions.proofs.Smallest.{alike}
use Rattle.flows.proofs.Flow.{entry-alone}
use Rattle.flows.proofs.led_to.Goals as goal

pub returns : goal.returns
returns c =
    alike
    (λ b h. entry-alone b (omega (arith, c.requires)))
    (λ t b h l. let p = c.edges_where-edges.ensures t b h (omega (arith, c.requires)) in search (rules, tests))
    c.smallest.ensures
