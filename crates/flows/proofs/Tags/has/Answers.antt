-- `Tags::has` meets its contract.
use mathlib.Core.Path.{refl, ◌∙◌}
use mathlib.Core.Bool.{◌&&◌}
use borrow.Author.Tests.{tests}
use lib.Dec.{eqb}
use Rattle.std.proofs.Common.{rules}
use Rattle.std.proofs.lemmas.Iterator.Search.{any_from_yields_List}
use Rattle.std.proofs.lemmas.Iterator.Consumers.{YieldsList-from_first}
use Rattle.flows.proofs.Steps.{has-any}
use Rattle.flows.proofs.Tags.has.Goals as goal

pub returns : goal.returns
returns c =
    let a = c.args in
    any_from_yields_List (λ m. eqb m.0 a.tag && eqb m.1 a.x) _ _ _ c.any.ensures.ran (YieldsList-from_first (λ m. m) (λ ms. ms) a.self refl) (λ m b q k. search (rules, tests))
    ∙ has-any a.tag a.x c.requires a.self
