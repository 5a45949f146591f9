-- A signed `==` compares bits: `bits-number` says what that means for a small number.
use Rattle.finder.proofs.Finds.{bits-number}
use Rattle.finder.proofs.is_number.Goals as goal

pub returns : goal.returns
returns c = bits-number c.args.x c.args.n c.ranges.x.sfits c.requires
