-- Four stores, the labels and zeros make up a record.
use native.Mathlib.Omega.{arith}
use mathlib.Core.Path.{refl}
use lib.ListN.{length}
use Rattle.layouts.proofs.Lines.{record_law}
use Rattle.layouts.proofs.put_record.Goals as goal

pub returns : goal.returns
returns c =
    let a = c.args in
    record_law a.out.now a.at a.told.status a.begun (length a.labels.now) a.told.place a.labels.now _ c.copy_at.new.dst c.clear_at.new.dst (omega arith) (omega arith) (omega arith) (omega arith) refl (omega arith)
    c.copy_at.ensures c.clear_at.ensures
