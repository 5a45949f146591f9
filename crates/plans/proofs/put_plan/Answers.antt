-- `plans::put_plan` meets its contract: what is worked out of the rule is what is laid down.
use Rattle.rules.proofs.Uncycled.{rule-parsed}
use Rattle.plans.proofs.Ruling.{ruled-room, laid}
use Rattle.plans.proofs.put_plan.Goals as goal

pub lay-requires : goal.lay-requires
lay-requires c =
    ruled-room _ c.requires.0 _ c.requires.1.0 _ _ c.flow_of-f.ensures c.requires.1.1

pub returns : goal.returns
returns c = λ r m e.
    let order = c.requires.1.0 r m e in
    c.lay.ensures r order (laid _ r m e _ order (c.flow_of-f.ensures r m (rule-parsed _ r m e)) c.columns-sets.ensures)
