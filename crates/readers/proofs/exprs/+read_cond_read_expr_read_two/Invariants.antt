-- The proof of the cycle of calls {read_cond, read_expr, read_two}. The measure is twice the levels left, and one more for `read_two`, which calls `read_expr` at the levels that it has.
-- Each return is a law of `Laws.antt` at what the tests and the callees say.
use Prim.Native.Nat.{◌+◌, ◌*◌}
use Rattle.readers.proofs.exprs.+read_cond_read_expr_read_two.Given as goal

abbrev pub decreases-read_cond : goal.decreases-read_cond
decreases-read_cond l = 2 * l.left

abbrev pub decreases-read_expr : goal.decreases-read_expr
decreases-read_expr l = 2 * l.left

abbrev pub decreases-read_two : goal.decreases-read_two
decreases-read_two l = 2 * l.left + 1
