-- `rules::open` meets its contract: the pages' answer, then the reader's.
use Rattle.definitions.proofs.Handed.{handed}
use native.Mathlib.Omega.{arith}
use Rattle.readers.proofs.Laws.{told}
use Rattle.rules.proofs.FileLaws.{opened_not, opened-bad, opened-good}
use Rattle.rules.proofs.open.Goals as goal

pub returns-in_err-n : goal.returns-in_err-n
returns-in_err-n c = rw (handed _ _ c.from_residual.ensures) (opened_not _ _ _ (told c.scan.ensures c.in_err-n.was))

pub returns-in_err-read_rule : goal.returns-in_err-read_rule
returns-in_err-read_rule c =
    rw (handed _ _ c.from_residual-in_err-read_rule.ensures) (opened-bad _ _ (told c.scan.ensures c.in_ok-n.was) _ _ c.unpack.ensures _ (told c.read_rule.ensures c.in_err-read_rule.was))

pub returns : goal.returns
returns c =
    opened-good _ _ (told c.scan.ensures c.in_ok-n.was) _ _ c.unpack.ensures _ (λ i. omega (arith, c.type_inv.file i)) (told c.read_rule.ensures c.in_ok-read_rule.was)
