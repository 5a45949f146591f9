-- Measures of the cycle of calls {eval_arm, eval_case, eval_cond, eval_expr, eval_join, eval_operand, eval_two}: three times the levels left,
-- one more for the functions that call `eval_expr` or `eval_cond` at the levels that they have, and two more for those that call such a function
-- there.
use Rattle.std.proofs.Common.{◌+◌, ◌*◌}
use Rattle.evaluators.proofs.+evaluators.Given as goal

abbrev pub decreases-eval_arm : goal.decreases-eval_arm
decreases-eval_arm l = 3 * l.left + 1

abbrev pub decreases-eval_case : goal.decreases-eval_case
decreases-eval_case l = 3 * l.left + 2

abbrev pub decreases-eval_cond : goal.decreases-eval_cond
decreases-eval_cond l = 3 * l.left

abbrev pub decreases-eval_expr : goal.decreases-eval_expr
decreases-eval_expr l = 3 * l.left

abbrev pub decreases-eval_join : goal.decreases-eval_join
decreases-eval_join l = 3 * l.left + 1

abbrev pub decreases-eval_operand : goal.decreases-eval_operand
decreases-eval_operand l = 3 * l.left + 1

abbrev pub decreases-eval_two : goal.decreases-eval_two
decreases-eval_two l = 3 * l.left + 2
