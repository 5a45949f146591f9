-- What `columns` answers is small.
use Rattle.tap.proofs.Columns.{clear-columns}
use Rattle.tap.proofs.tap_columns.Goals as goal

pub pack-requires : goal.pack-requires
pack-requires c = clear-columns _ c.columns-r.ensures

pub returns : goal.returns
returns c =
    let w = c.columns-r.ensures in
    record { reply = _; holds = w; clear = clear-columns _ w; packs = c.pack.ensures }
