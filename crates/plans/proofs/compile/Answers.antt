-- `plans::compile` meets its contract: the file's rule is opened, and its plan laid down if there is room.
use native.Mathlib.Omega.{arith}
use Rattle.definitions.proofs.Handed.{handed}
use Rattle.readers.proofs.Laws.{told}
use Rattle.rules.proofs.FileLaws.{wrote_no, wrote-short}
use Rattle.plans.proofs.Compiling.{compile_not, ready, compile_size, compile_all}
use Rattle.plans.proofs.compile.Goals as goal

pub returns-in_err-n : goal.returns-in_err-n
returns-in_err-n c = rw (handed _ _ c.from_residual.ensures) (wrote_no _ _ _ (compile_not _ _ (told c.in_err-n.was c.before.«open».ensures.reply)))

pub returns-then-out-size : goal.returns-then-out-size
returns-then-out-size c =
    rw (c.at.ensures) (wrote-short _ _ _ (compile_size (ready _ c.before.«open».ensures c.in_ok-n.was) c.order_of-order.ensures c.plan_size-size.ensures) (omega arith))

pub returns : goal.returns
returns c =
    compile_all (ready _ c.before.«open».ensures c.in_ok-n.was) c.order_of-order.ensures c.plan_size-size.ensures _ _ (omega arith) c.put_plan.ensures
