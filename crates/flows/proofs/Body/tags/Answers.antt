-- `Body::tags` meets its contract.
use mathlib.Core.Path.{sym}
use Rattle.flows.proofs.Spans.{marks-tags}
use Rattle.flows.proofs.Body.tags.Goals as goal

pub returns : goal.returns
returns c = sym (marks-tags _ _ _)
