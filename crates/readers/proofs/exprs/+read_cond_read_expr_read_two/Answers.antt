-- The proof of the cycle of calls {read_cond, read_expr, read_two}. The measure is twice the levels left, and one more for `read_two`, which calls `read_expr` at the levels that it has.
-- Each return is a law of `Laws.antt` at what the tests and the callees say.
use Prim.Native.Nat.{◌<◌}
use mathlib.Core.Logic.{◌⊎◌}
use native.Mathlib.Omega.{arith}
use Rattle.std.proofs.Common.{rules, ap, Err}
use Rattle.readers.proofs.Laws.{goes-on, ends, expr_none, expr-op, expr-case, expr_bad, cond-none, cond-compare, cond-join, cond-bad}
use Rattle.readers.proofs.exprs.+read_cond_read_expr_read_two.Goals as goal

pub read_two-returns : goal.read_two-returns
read_two-returns t c = goes-on _ _ _ _ c.read_expr.ensures c.in_ok-n.was c.read_expr-2.ensures

pub read_two-returns-in_err-n : goal.read_two-returns-in_err-n
read_two-returns-in_err-n t c = ends _ _ _ _ c.from_residual.ensures c.read_expr.ensures c.in_err-n.was

-- ---- read_cond
pub read_cond-returns-in_err-tag : goal.read_cond-returns-in_err-tag
read_cond-returns-in_err-tag t c = cond-none _ _ _ _ _ _ c.from_residual.ensures c.read_tag.ensures c.in_err-tag.was

pub read_cond-returns-in-16 : goal.read_cond-returns-in-16
read_cond-returns-in-16 t c = cond-compare _ _ _ _ _ _ c.read_tag.ensures c.in_ok-tag.was (omega arith) (omega arith) c.read_two.ensures

pub read_cond-returns-in_ok-n-in-19 : goal.read_cond-returns-in_ok-n-in-19
read_cond-returns-in_ok-n-in-19 t c = cond-join _ _ _ _ _ _ c.read_tag.ensures c.in_ok-tag.was (omega arith) (omega arith) (goes-on _ _ _ _ c.read_cond-in-19.ensures c.in_ok-n-in-19.was c.read_cond-in-19-2.ensures)

pub read_cond-returns-in_err-n-in-19 : goal.read_cond-returns-in_err-n-in-19
read_cond-returns-in_err-n-in-19 t c = cond-join _ _ _ _ _ _ c.read_tag.ensures c.in_ok-tag.was (omega arith) (omega arith) (ends _ _ _ _ c.from_residual-in_err-n-in-19.ensures c.read_cond-in-19.ensures c.in_err-n-in-19.was)

pub read_cond-returns-in_default : goal.read_cond-returns-in_default
read_cond-returns-in_default t c =
    let h : (c.in_ok-tag.tag < 0x10) ⊎ (0x14 < c.in_ok-tag.tag) = search rules in
    cond-bad _ _ _ _ _ _ c.read_tag.ensures c.in_ok-tag.was h (ap Err c.at.ensures)

-- ---- read_expr
pub read_expr-returns-in_err-tag : goal.read_expr-returns-in_err-tag
read_expr-returns-in_err-tag t c = expr_none _ _ _ _ _ _ c.from_residual.ensures c.read_tag.ensures c.in_err-tag.was

pub read_expr-returns-in_ok-n-in-9 : goal.read_expr-returns-in_ok-n-in-9
read_expr-returns-in_ok-n-in-9 t c = expr-case _ _ _ _ _ _ c.read_tag.ensures c.in_ok-tag.was c.in-9.is (goes-on _ _ _ _ c.read_cond.ensures c.in_ok-n-in-9.was c.read_two.ensures)

pub read_expr-returns-in_err-n-in-9 : goal.read_expr-returns-in_err-n-in-9
read_expr-returns-in_err-n-in-9 t c = expr-case _ _ _ _ _ _ c.read_tag.ensures c.in_ok-tag.was c.in-9.is (ends _ _ _ _ c.from_residual-in_err-n-in-9.ensures c.read_cond.ensures c.in_err-n-in-9.was)

pub read_expr-returns-in-4-to-8 : goal.read_expr-returns-in-4-to-8
read_expr-returns-in-4-to-8 t c = expr-op _ _ _ _ _ _ c.read_tag.ensures c.in_ok-tag.was (omega arith) (omega arith) c.read_two-in-4-to-8.ensures

pub read_expr-returns-in_default : goal.read_expr-returns-in_default
read_expr-returns-in_default t c =
    let h : (c.in_ok-tag.tag < 1) ⊎ (9 < c.in_ok-tag.tag) = search rules in
    expr_bad _ _ _ _ _ _ c.read_tag.ensures c.in_ok-tag.was h (ap Err c.at.ensures)
