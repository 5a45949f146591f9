-- `readers::exprs::read_named` meets its contract: where a byte is, the test says whether it is low enough.
use native.Mathlib.Omega.{arith}
use Rattle.std.proofs.Common.{◌∙◌}
use borrow.Author.Tests.{lt-ltb, le-ltb}
use Rattle.definitions.specs.Grammar.{read_of}
use Rattle.definitions.proofs.Handed.{handed}
use Rattle.readers.proofs.Laws.{told, no_tag, byte-got}
use Rattle.readers.proofs.exprs.read_named.Goals as goal

pub returns-in_err-k : goal.returns-in_err-k
returns-in_err-k c = handed _ _ c.from_residual.ensures ∙ no_tag _ _ _ (told c.byte_at.ensures c.in_err-k.was)

pub overflow_add-result : goal.overflow_add-result
overflow_add-result c = omega (arith, byte-got _ _ _ c.byte_at.ensures c.in_ok-k.was)

pub returns-then-k-high : goal.returns-then-k-high
unfolding read_of
returns-then-k-high c = rw (byte-got _ _ _ c.byte_at.ensures c.in_ok-k.was).1 (simp (lt-ltb _ _ c.if-k-high.true))

pub returns-else-k-high : goal.returns-else-k-high
unfolding read_of
returns-else-k-high c = rw (byte-got _ _ _ c.byte_at.ensures c.in_ok-k.was).1 (simp (c.at.ensures, le-ltb _ _ c.if-k-high.false))
