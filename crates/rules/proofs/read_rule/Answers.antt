-- `rules::read_rule` meets its contract.
use Rattle.std.proofs.Common.{ap, ◌∙◌, Err}
use Rattle.definitions.proofs.Handed.{handed}
use Rattle.rules.proofs.Uncycled.{tell_refused, tell_none, tell-at}
use Rattle.rules.proofs.read_rule.Goals as goal

pub returns-in_err-n : goal.returns-in_err-n
returns-in_err-n c =
    handed _ _ c.from_residual.ensures ∙ tell_refused _ c.read_tree.ensures _ c.in_err-n.was

pub returns-in-None : goal.returns-in-None
returns-in-None c =
    tell_none _ c.read_tree.ensures _ c.in_ok-n.was c.requires c.gotos_of-gotos.result c.gotos_of-gotos.ensures c.in-None.ensures

pub returns-in-Some : goal.returns-in-Some
returns-in-Some c =
    ap Err c.at.ensures ∙ tell-at _ c.read_tree.ensures _ c.in_ok-n.was c.requires c.gotos_of-gotos.result c.gotos_of-gotos.ensures _ c.in-Some.ensures
