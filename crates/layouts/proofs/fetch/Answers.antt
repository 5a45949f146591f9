-- The words that are copied stand before the zeros that are left.
use Rattle.std.proofs.Common.{arith}
use Rattle.std.proofs.lemmas.Grind.{common_steps}
use Rattle.buffers.specs.Words.{over}
use Rattle.layouts.proofs.fetch.Goals as goal

pub returns : goal.returns
unfolding over
returns c = grind (arith, common_steps)
