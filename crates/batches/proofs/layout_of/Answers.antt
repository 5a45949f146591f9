-- What is read of the plan is the rule's.
use Rattle.batches.proofs.Accepted.{laid_out}
use Rattle.batches.proofs.layout_of.Goals as goal

pub returns : goal.returns
returns c = laid_out c.requires _ _ c.word_at-lc.ensures c.place.ensures _ _ c.line_size.ensures
