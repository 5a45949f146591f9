-- `plans::order_of` meets its contract: the gotos of all blocks tell whether there is an order, and which.
use Rattle.plans.proofs.Ruling.{order-listed}
use Rattle.plans.proofs.order_of.Goals as goal

pub returns : goal.returns
returns c =
    order-listed _ c.requires c.gotos_of-gotos.result c.gotos_of-gotos.ensures _ c.goes_back.ensures c.if-not-goes_back.false c.order.ensures
