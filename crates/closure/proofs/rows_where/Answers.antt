-- `closure::rows_where` meets its contract.
use Rattle.std.proofs.Common.{◌+◌, ◌*◌, arith}
use native.Mathlib.Nat.{mul-le-mul_right}
use lib.Arith.{digits_div, digits_mod}
use Rattle.closure.proofs.Laws.{held-set}
use Rattle.closure.proofs.rows_where.Goals as goal

pub loop-i-preserved : goal.loop-i-preserved
loop-i-preserved g c = held-set _ _ _ _ _ _ (omega arith) c.loop-i.invariant c.test.ensures

pub returns : goal.returns
returns g c = λ b t l m.
    rw (digits_div b m, digits_mod b m) at
    (c.loop-i.invariant.below (b * g.row.WIDTH + t) (omega (arith, mul-le-mul_right g.row.WIDTH l)))
