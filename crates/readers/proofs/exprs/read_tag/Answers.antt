-- `readers::exprs::read_tag` meets its contract: where a byte is, a level has to be left.
use Rattle.std.proofs.Common.{◌∙◌}
use borrow.Author.Tests.{eq-eqb, ne_eqb}
use Rattle.definitions.proofs.Handed.{handed}
use Rattle.readers.specs.Readings.{due_of}
use Rattle.readers.proofs.Laws.{told, due-refused, byte-got}
use Rattle.readers.proofs.exprs.read_tag.Goals as goal

pub returns-in_err-tag : goal.returns-in_err-tag
unfolding due_of
returns-in_err-tag c = handed _ _ c.from_residual.ensures ∙ rw (due-refused _ _ (told c.byte_at.ensures c.in_err-tag.was))

pub returns-then-left-eq0 : goal.returns-then-left-eq0
unfolding due_of
returns-then-left-eq0 c = rw (byte-got _ _ _ c.byte_at.ensures c.in_ok-tag.was).1 (simp (c.at.ensures, eq-eqb _ _ c.if-left-eq0.true))

pub returns : goal.returns
unfolding due_of
returns c = rw (byte-got _ _ _ c.byte_at.ensures c.in_ok-tag.was).1 (simp (ne_eqb _ _ c.if-left-eq0.false))
