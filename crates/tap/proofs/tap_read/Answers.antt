-- What `read` answers is small.
use Rattle.tap.proofs.Sizes.{clear_wrote, answered, read-within}
use Rattle.tap.proofs.tap_read.Goals as goal

pub pack-requires : goal.pack-requires
pack-requires c = clear_wrote (read-within _) c.read-r.ensures

pub returns : goal.returns
returns c = answered (read-within _) c.read-r.ensures c.pack.ensures
