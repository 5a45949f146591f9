-- Both halves of the answer have room for what they hold.
use native.Mathlib.Omega.{arith}
use Rattle.tap.proofs.Laws.{pack_done, pack_refused, pack_room}
use Rattle.tap.proofs.pack.Goals as goal

pub overflow_add-result : goal.overflow_add-result
overflow_add-result c =
    let h = pack_room c.args.r c.in-Err.f c.in-Err.is c.requires in
    omega (arith, c.number-number.ensures)

pub returns-in-Ok : goal.returns-in-Ok
returns-in-Ok c = pack_done c.args.r c.in-Ok.n c.in-Ok.is

pub returns-in-Err : goal.returns-in-Err
returns-in-Err c =
    rw c.number-number.ensures (pack_refused c.args.r c.in-Err.f c.in-Err.is)
