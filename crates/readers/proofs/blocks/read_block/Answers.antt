-- `readers::blocks::read_block` meets its contract. The loop's invariant: the answer is that of the block from `next` on.
-- The measure is what is left of the bytes, of which each statement takes some.
use native.Mathlib.Omega.{arith}
use Rattle.std.proofs.Common.{sym, ◌∙◌}
use Rattle.readers.proofs.Laws.{told}
use Rattle.readers.proofs.Sound.{sound-next}
use Rattle.readers.proofs.Accepted.{stmt_sound}
use Rattle.readers.proofs.BlockLaws.{block_goes, block_refused, block-done}
use Rattle.readers.proofs.blocks.read_block.Goals as goal

pub loop-next-smaller : goal.loop-next-smaller
loop-next-smaller c = omega (arith, sound-next _ _ _ _ (stmt_sound c.args.v c.args.s.now c.loop-next.next) _ (told c.read_stmt.ensures c.in_ok-next.was))

pub loop-next-preserved : goal.loop-next-preserved
loop-next-preserved c = c.loop-next.invariant ∙ block_goes _ _ _ _ c.begins_stmt.ensures _ c.loop-next-test.true c.read_stmt.ensures c.in_ok-next.was

pub returns-in_err-next : goal.returns-in_err-next
returns-in_err-next c = block_refused _ _ _ _ c.begins_stmt.ensures _ _ c.loop-next-test.true c.from_residual.ensures c.read_stmt.ensures c.in_err-next.was ∙ sym c.loop-next.invariant

pub returns : goal.returns
returns c = c.read_end.ensures ∙ block-done _ _ _ _ c.begins_stmt.ensures c.loop-next-test.false ∙ sym c.loop-next.invariant
