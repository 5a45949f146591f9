-- `plans::compiles_to` meets its contract: the rule is compiled again, and every byte compared.
use Rattle.plans.proofs.Taking.{compared}
use Rattle.plans.proofs.compiles_to.Goals as goal

pub returns : goal.returns
returns c = λ r m e.
    compared _ r m e _ c.order_of-order.ensures _ _ c.plan_size-size.ensures _ _ (c.put_plan.ensures r m e) c.eq.ensures
