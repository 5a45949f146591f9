-- `answers::put_input` meets its contract: an input that is cut is refused.
use mathlib.Core.Path.{◌∙◌}
use Rattle.readers.proofs.Laws.{told}
use Rattle.answers.proofs.Laws.{cut_text, whole-text}
use Rattle.answers.proofs.put_input.Goals as goal

pub returns-then-is_cut-clause-out_after : goal.returns-then-is_cut-clause-out_after
returns-then-is_cut-clause-out_after c = rw c.at.ensures (cut_text _ _ (told c.is_cut.ensures c.if-is_cut.true))

pub returns-clause-out_after : goal.returns-clause-out_after
returns-clause-out_after c =
    c.put_whole.ensures.out_after ∙ whole-text _ _ (told c.is_cut.ensures c.if-is_cut.false)
