-- `readers::read_blocks` meets its contract. The loop's invariant: the first `block` blocks end at `at`. The measure is the blocks left.
use Prim.Native.Nat.{◌≤◌}
use mathlib.Core.Path.{◌≡◌}
use Rattle.definitions.specs.Grammar.{read_of, blocks_to}
use Rattle.readers.proofs.read_blocks.Given as goal
use Rattle.std.specs.Prelude.{Ok}

abbrev pub invariant-loop-block : goal.invariant-loop-block
invariant-loop-block l = (l._block ≤ l.blocks) × (read_of (blocks_to l.blocks l.v l.s l._block) ≡ Ok l.at)
