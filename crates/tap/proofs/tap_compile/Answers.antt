-- What `compile` answers is small.
use Rattle.tap.proofs.Sizes.{clear_wrote, answered, compile_within}
use Rattle.tap.proofs.tap_compile.Goals as goal

pub pack-requires : goal.pack-requires
pack-requires c = clear_wrote (compile_within _) c.compile-r.ensures

pub returns : goal.returns
returns c = answered (compile_within _) c.compile-r.ensures c.pack.ensures
