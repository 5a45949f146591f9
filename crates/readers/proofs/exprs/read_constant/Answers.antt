-- `readers::exprs::read_constant` meets its contract: the test says whether four bytes are there, with no sum that could wrap.
use native.Mathlib.Omega.{arith}
use borrow.Author.Tests.{le-leb, lt-leb}
use Rattle.definitions.specs.Grammar.{read_of}
use Rattle.std.proofs.Common.{◌+◌, length}
use Rattle.readers.proofs.exprs.read_constant.Goals as goal

pub returns-then-saturating_sub-lt4 : goal.returns-then-saturating_sub-lt4
unfolding read_of
returns-then-saturating_sub-lt4 c = simp (c.at.ensures, lt-leb (c.args.at + 4) (length c.args.s.now) (omega arith))

pub returns : goal.returns
unfolding read_of
returns c = simp (le-leb (c.args.at + 4) (length c.args.s.now) (omega arith))
