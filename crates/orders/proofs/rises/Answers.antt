-- `orders::rises` meets its contract: without a goto back or to its own block there is no cycle.
use mathlib.Core.Path.{sym, ◌∙◌}
use Rattle.definitions.proofs.Ordered.{only_up}
use borrow.Author.Tests.{not-true}
use Rattle.orders.proofs.rises.Goals as goal

pub returns-then-not-goes_back : goal.returns-then-not-goes_back
returns-then-not-goes_back c = λ e. only_up _ _ (sym c.goes_back.ensures ∙ c.if-not-goes_back.true) (sym c.stays.ensures ∙ not-true _ e)
