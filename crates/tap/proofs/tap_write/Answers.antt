-- What `write` answers is small.
use Rattle.tap.proofs.Sizes.{clear_wrote, answered, write_within}
use Rattle.tap.proofs.tap_write.Goals as goal

pub pack-requires : goal.pack-requires
pack-requires c = clear_wrote (write_within _) c.write-r.ensures

pub returns : goal.returns
returns c = answered (write_within _) c.write-r.ensures c.pack.ensures
