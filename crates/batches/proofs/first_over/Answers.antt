-- One budget is a list of one.
use Rattle.std.proofs.Common.{◌∙◌, rules}
use Rattle.std.proofs.lemmas.Iterator.{YieldsList-from_slice}
use Rattle.std.proofs.lemmas.Iterator.Search.{position_from_yields_List}
use lib.Dec.{ltb}
use borrow.Author.Tests.{tests}
use Rattle.definitions.specs.Calls.{most_budget}
use Rattle.batches.proofs.Budgets.{place_over, one_over}
use Rattle.batches.proofs.first_over.Goals as goal

pub returns-in-Common : goal.returns-in-Common
returns-in-Common c = rw c.in-Common.is (c.then_some.ensures ∙ one_over c.in-Common.n)

pub returns-in-Each : goal.returns-in-Each
returns-in-Each c =
    rw c.in-Each.is (position_from_yields_List (λ n. ltb most_budget n) _ _ c.position.result c.position.ensures.ran (YieldsList-from_slice c.in-Each.ns.now c.iter.ensures.rest) (λ x b q k. search (rules, tests)) ∙ place_over c.in-Each.ns.now)
