-- `readers::read_blocks` meets its contract. The loop's invariant: the first `block` blocks end at `at`. The measure is the blocks left.
use mathlib.Core.Path.{refl, sym}
use native.Mathlib.Omega.{arith}
use Rattle.definitions.specs.Grammar.{read_of, blocks_to}
use Rattle.std.proofs.Common.{◌∙◌}
use Rattle.definitions.proofs.Handed.{handed}
use Rattle.readers.proofs.Laws.{told}
use Rattle.readers.proofs.RuleLaws.{blocks-next, blocks-refused}
use Rattle.readers.proofs.read_blocks.Goals as goal

pub loop-block-init : goal.loop-block-init
unfolding read_of blocks_to
loop-block-init c = (omega arith, refl)

pub returns-in_err-at : goal.returns-in_err-at
returns-in_err-at c = handed _ _ c.from_residual.ensures ∙ sym (blocks-refused _ _ _ _ _ _ c.loop-block-test.true c.loop-block.invariant.1 (told c.read_block.ensures c.in_err-at.was))

pub loop-block-preserved : goal.loop-block-preserved
loop-block-preserved c = (omega arith, blocks-next _ _ _ _ _ _ c.loop-block.invariant.1 (told c.read_block.ensures c.in_ok-at.was))
