-- `flows::flow_of` meets its contract.
use Rattle.flows.proofs.Flow.{told}
use Rattle.flows.proofs.flow_of.Goals as goal

pub returns : goal.returns
returns c = λ r m e.
    told _ r m e _ _ _ (c.new-body.ensures r m e) _ _ c.named-all_gotos.ensures c.named-all_jumps.ensures _ _ _ _ _
    c.led_to-led.ensures c.reads-fv.ensures c.sets-bv.ensures c.only-gotos.ensures c.only-jumps.ensures
