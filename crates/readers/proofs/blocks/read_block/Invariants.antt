-- `readers::blocks::read_block` meets its contract. The loop's invariant: the answer is that of the block from `next` on.
-- The measure is what is left of the bytes, of which each statement takes some.
use Prim.Native.Nat.{◌-◌}
use mathlib.Core.Path.{◌≡◌}
use lib.ListN.{length}
use Rattle.definitions.specs.Grammar.{read_of, block_at}
use Rattle.readers.proofs.blocks.read_block.Given as goal

abbrev pub invariant-loop-next : goal.invariant-loop-next
invariant-loop-next l = read_of (block_at l.blocks l.v l.s l.at) ≡ read_of (block_at l.blocks l.v l.s l.next)

abbrev pub decreases-loop-next : goal.decreases-loop-next
decreases-loop-next l = length l.s - l.next
