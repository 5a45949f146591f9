-- The proof of `readers::blocks::read_end`, which calls itself. The measure is the levels left.
-- Each return is a law of `BlockLaws.antt` at what the tag and the callees say.
use Rattle.readers.proofs.blocks.+read_end.Given as goal

abbrev pub decreases-read_end : goal.decreases-read_end
decreases-read_end l = l.left
