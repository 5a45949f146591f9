-- `orders::first_cycle` meets its contract: where all gotos rise there is no cycle; else `find` over 0..n answers the lowest block on one.
use Rattle.std.proofs.Common.{rules}
use borrow.Author.Tests.{tests}
use Rattle.std.proofs.lemmas.Iterator.{first_from_Range}
use Rattle.definitions.specs.Paths.{OnCycle}
use Rattle.orders.proofs.Answers.{first-found}
use Rattle.orders.proofs.first_cycle.Goals as goal

pub returns : goal.returns
returns c =
    first-found _ _ _
    (first_from_Range _ _ _ _ (OnCycle _ _) (λ x. OnCycle _ _ x → ⊥) c.find.ensures.ran (λ x q k. search (rules, tests)) (λ x q k. (search rules, search (rules, tests))))
