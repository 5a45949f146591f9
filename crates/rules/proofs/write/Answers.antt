-- `rules::write` meets its contract: the rule's length, the reader's answer, the room.
use Rattle.definitions.proofs.Handed.{handed}
use native.Mathlib.Omega.{arith}
use Rattle.readers.proofs.Laws.{told}
use Rattle.rules.proofs.FileLaws.{wrote_no, wrote-short, write_long, write-bad, write-size, write-all}
use Rattle.rules.proofs.write.Goals as goal

pub returns-then-n-gt-LONGEST : goal.returns-then-n-gt-LONGEST
returns-then-n-gt-LONGEST c = rw (c.at.ensures) (write_long _ _ (omega arith))

pub returns-then-out-size : goal.returns-then-out-size
returns-then-out-size c =
    rw (c.at-then-out-size.ensures) (wrote-short _ _ _ (write-size _ (omega arith) _ c.file_size-size.ensures _ (told c.read_rule.ensures c.in_ok-read_rule.was)) (omega arith))

pub returns-in_err-read_rule : goal.returns-in_err-read_rule
returns-in_err-read_rule c = rw (handed _ _ c.from_residual.ensures) (wrote_no _ _ _ (write-bad _ (omega arith) _ (told c.read_rule.ensures c.in_err-read_rule.was)))

pub returns : goal.returns
returns c =
    write-all _ (omega arith) _ c.file_size-size.ensures _ (told c.read_rule.ensures c.in_ok-read_rule.was) _ _ (omega arith) c.put_file.ensures
