-- `rules::read` meets its contract: what was opened goes to the caller, if there is room.
use Rattle.definitions.proofs.Handed.{handed}
use mathlib.Core.Path.{ap, ◌∙◌}
use native.Mathlib.Omega.{arith}
use Rattle.buffers.specs.Words.{over}
use Rattle.readers.proofs.Laws.{told}
use Rattle.rules.proofs.FileLaws.{wrote_no, wrote-short, wrote-all}
use Rattle.rules.proofs.read.Goals as goal

pub returns-then-out-n : goal.returns-then-out-n
returns-then-out-n c =
    rw (c.at.ensures) (wrote-short _ _ _ (told c.in_ok-n.was c.before.«open».ensures.reply) (omega arith))

pub returns-in_err-n : goal.returns-in_err-n
returns-in_err-n c = rw (handed _ _ c.from_residual.ensures) (wrote_no _ _ _ (told c.in_err-n.was c.before.«open».ensures.reply))

pub returns : goal.returns
returns c =
    let opened = c.before.«open».ensures in
    wrote-all _ _ _ (told c.in_ok-n.was opened.reply) _ (omega arith) (c.copy_at.ensures ∙ ap (over c.args.out.now 0) (opened.bytes _ c.in_ok-n.was))
