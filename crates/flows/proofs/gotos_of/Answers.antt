-- `flows::gotos_of` meets its contract.
use Rattle.flows.proofs.Flow.{goto-is}
use Rattle.flows.proofs.gotos_of.Goals as goal

pub returns : goal.returns
returns c = λ r m e. goto-is _ r m e _ _ _ (c.new.ensures r m e) _ c.named.ensures
