-- What `run_each` answers is small.
use Rattle.tap.proofs.Sizes.{clear_run}
use Rattle.tap.proofs.tap_run_each.Goals as goal

pub pack-requires : goal.pack-requires
pack-requires c = clear_run c.run_each-r.ensures

pub returns : goal.returns
returns c =
    let w = c.run_each-r.ensures in
    record { reply = _; holds = w; clear = clear_run w; packs = c.pack.ensures }
