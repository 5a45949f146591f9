-- What `place_in` answers is small.
use Rattle.tap.proofs.Places.{place-low}
use Rattle.tap.proofs.tap_find.Goals as goal

pub pack_place-requires : goal.pack_place-requires
pack_place-requires c =
    let a = c.args in
    rw c.place_in-p.ensures (place-low a.res.now a.work.now a.rows a.quota a.columns a.row)
