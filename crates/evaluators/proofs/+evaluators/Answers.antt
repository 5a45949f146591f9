-- The proof of the cycle of calls {eval_arm, eval_case, eval_cond, eval_expr, eval_join, eval_operand, eval_two}. Each return, and what each call
-- requires, is a law of `Evaluating` at what the callees say.
use Rattle.std.proofs.Common.{ℕ, ◌≤◌, ◌<◌, get_or, refl, ap, ◌∙◌, Ok, List, arith}
use Rattle.definitions.specs.Grammar.{expr_at, cond_at}
use Rattle.evaluators.specs.Answer.{Sized, Readable}
use Rattle.evaluators.proofs.Answers.{told, bound, passed}
use Rattle.evaluators.proofs.Evaluating as laws
use Rattle.evaluators.proofs.+evaluators.Goals as goal
use Rattle.evaluators.proofs.+evaluators.Goals.{eval_expr-In_default, eval_cond-In_default, eval_cond-in_default-via-then-tag-lt16, eval_cond-in_default-via-else-tag-lt16+else-tag-lt18}

-- ---- eval_arm
pub eval_arm-eval_expr-requires : goal.eval_arm-eval_expr-requires
eval_arm-eval_expr-requires t c = (omega arith, (c.requires.0, laws.then-first _ _ c.requires.1))

pub eval_arm-eval_expr-requires-else-first : goal.eval_arm-eval_expr-requires-else-first
eval_arm-eval_expr-requires-else-first t c =
    let a = c.args in
    (omega arith, (c.requires.0, rw c.skip-else-first.ensures (laws.arm_second a.left a.v a.s.now a.at a.vars.now c.requires.1)))

pub eval_arm-returns-in_err-x : goal.eval_arm-returns-in_err-x
eval_arm-returns-in_err-x t c = rw c.if-first.true (passed _ _ c.from_residual.ensures.1 ∙ laws.arm_fault _ _ _ _ _ c.requires.1 _ (told c.eval_expr.ensures c.in_err-x.was))

pub eval_arm-returns-in_ok-x : goal.eval_arm-returns-in_ok-x
eval_arm-returns-in_ok-x t c =
    rw (c.if-first.true, c.skip.ensures, bound c.in_ok-x.x (omega arith))
    (laws.arm_true _ _ _ _ _ c.requires.1 _ _ (told c.eval_expr.ensures c.in_ok-x.was))

pub eval_arm-returns-else-first : goal.eval_arm-returns-else-first
eval_arm-returns-else-first t c = rw c.if-first.false (laws.arm_false _ _ _ _ _ c.requires.1 _ (rw c.skip-else-first.ensures at c.eval_expr-else-first.ensures))

-- ---- eval_case
pub eval_case-eval_cond-requires : goal.eval_case-eval_cond-requires
eval_case-eval_cond-requires t c = (omega arith, (c.requires.0, laws.then-first _ _ c.requires.1))

pub eval_case-eval_arm-requires : goal.eval_case-eval_arm-requires
eval_case-eval_arm-requires t c =
    let a = c.args in
    (omega arith, (c.requires.0, laws.case_next a.left a.v a.s.now a.at a.vars.now c.requires.1 _ _ (told c.eval_cond.ensures c.in_ok-h.was)))

pub eval_case-returns-in_err-h : goal.eval_case-returns-in_err-h
eval_case-returns-in_err-h t c p i = passed _ _ c.from_residual.ensures.1 ∙ laws.case_fault _ _ _ _ _ c.requires.1 _ p i (told c.eval_cond.ensures c.in_err-h.was)

pub eval_case-returns : goal.eval_case-returns
eval_case-returns t c p i = laws.case_value _ _ _ _ _ c.requires.1 _ _ _ p i (told c.eval_cond.ensures c.in_ok-h.was) c.eval_arm.ensures

-- ---- eval_cond
-- a tag stands there, and a level is left
cond_there : (left v : ℕ) (s : List ℕ) (at : ℕ) → Sized v s × Readable (cond_at left v s at) → (at < 4064) × (1 ≤ left)
cond_there left v s at z = let h = laws.cond-there left v s at z.1 in (omega (arith, z.0.1), h.1)

-- the tag of an and or an or, where no other is left
joint : (t : ℕ) (c : eval_cond-In_default t) → let a = c.args in (19 ≤ get_or a.s.now a.at 0) × (get_or a.s.now a.at 0 ≤ 20)
joint t c =
    let a = c.args in
    laws.join_range a.left a.v a.s.now a.at c.requires.1
    (λ low high. elim c.in_default.branch [ eval_cond-in_default-via-then-tag-lt16 w ↦ omega arith | eval_cond-in_default-via-else-tag-lt16+else-tag-lt18 w ↦ omega arith ])
    (λ e. elim c.in_default.branch [ eval_cond-in_default-via-then-tag-lt16 w ↦ omega arith | eval_cond-in_default-via-else-tag-lt16+else-tag-lt18 w ↦ omega arith ])

pub eval_cond-bounds-s-at : goal.eval_cond-bounds-s-at
eval_cond-bounds-s-at t c = let a = c.args in (cond_there a.left a.v a.s.now a.at c.requires).0

pub eval_cond-overflow_add-next : goal.eval_cond-overflow_add-next
eval_cond-overflow_add-next t c = let a = c.args in omega (arith, (cond_there a.left a.v a.s.now a.at c.requires).0)

pub eval_cond-overflow_sub-less : goal.eval_cond-overflow_sub-less
eval_cond-overflow_sub-less t c = let a = c.args in (cond_there a.left a.v a.s.now a.at c.requires).1

pub eval_cond-eval_cond-requires : goal.eval_cond-eval_cond-requires
eval_cond-eval_cond-requires t c =
    let a = c.args in
    (omega (arith, (cond_there a.left a.v a.s.now a.at c.requires).1), (c.requires.0, laws.not-stands a.left a.v a.s.now a.at c.requires.1 c.in-18.is))

pub eval_cond-eval_two-requires : goal.eval_cond-eval_two-requires
eval_cond-eval_two-requires t c =
    let a = c.args in
    (omega (arith, (cond_there a.left a.v a.s.now a.at c.requires).1), (c.requires.0, laws.compare-stands a.left a.v a.s.now a.at c.requires.1 (omega arith) (omega arith)))

pub eval_cond-eval_join-requires : goal.eval_cond-eval_join-requires
eval_cond-eval_join-requires t c =
    let a = c.args in
    let j = joint t (goal.at.eval_cond-eval_join-requires t c).In_default in
    (omega (arith, (cond_there a.left a.v a.s.now a.at c.requires).1), (c.requires.0, rw c.joint.ensures (laws.join_stands a.left a.v a.s.now a.at c.requires.1 j.0 j.1)))

pub eval_cond-returns-in_ok-h-in-18 : goal.eval_cond-returns-in_ok-h-in-18
eval_cond-returns-in_ok-h-in-18 t c =
    let a = c.args in
    laws.not-holds a.left a.v a.s.now a.at c.requires.1 _ _ _ c.in-18.is (told c.eval_cond.ensures c.in_ok-h-in-18.was)

pub eval_cond-returns-in_err-h-in-18 : goal.eval_cond-returns-in_err-h-in-18
eval_cond-returns-in_err-h-in-18 t c =
    let a = c.args in
    passed _ _ c.from_residual.ensures.1 ∙ laws.not-fault a.left a.v a.s.now a.at c.requires.1 _ _ c.in-18.is (told c.eval_cond.ensures c.in_err-h-in-18.was)

pub eval_cond-returns-in_ok-x-in-16 : goal.eval_cond-returns-in_ok-x-in-16
eval_cond-returns-in_ok-x-in-16 t c =
    let a = c.args in
    let r = c.in_ok-x-in-16 in
    laws.compare-values a.left a.v a.s.now a.at c.requires.1 (omega arith) (omega arith) _ _ _ _ _ (told c.eval_two.ensures r.was) (rw (bound r.x (omega arith), bound r.y (omega arith), c.relation.ensures) at c.compare.ensures)

pub eval_cond-returns-in_err-x-in-16 : goal.eval_cond-returns-in_err-x-in-16
eval_cond-returns-in_err-x-in-16 t c =
    let a = c.args in
    passed _ _ c.from_residual-in_err-x-in-16.ensures.1 ∙ laws.compare-fault a.left a.v a.s.now a.at c.requires.1 (omega arith) (omega arith) _ _ (told c.eval_two.ensures c.in_err-x-in-16.was)

pub eval_cond-returns-in_default : goal.eval_cond-returns-in_default
eval_cond-returns-in_default t c =
    let a = c.args in
    let j = joint t (goal.at.eval_cond-returns-in_default t c).In_default in
    rw (laws.cond-join a.left a.v a.s.now a.at c.requires.1 j.0 j.1) (rw c.joint.ensures at c.eval_join.ensures a.at refl)

-- ---- eval_expr
-- a tag stands there, and a level is left
expr_there : (left v : ℕ) (s : List ℕ) (at : ℕ) → Sized v s × Readable (expr_at left v s at) → (at < 4064) × (1 ≤ left)
expr_there left v s at z = let h = laws.expr_there left v s at z.1 in (omega (arith, z.0.1), h.1)

-- an operator's tag, where no other is left
operator : (t : ℕ) (c : eval_expr-In_default t) → let a = c.args in (4 ≤ get_or a.s.now a.at 0) × (get_or a.s.now a.at 0 ≤ 8)
operator t c =
    let a = c.args in
    laws.op_range a.left a.v a.s.now a.at c.requires.1 (λ e. omega arith) (λ e. omega arith) (λ e. omega arith) (λ e. omega arith)

pub eval_expr-bounds-s-at : goal.eval_expr-bounds-s-at
eval_expr-bounds-s-at t c = let a = c.args in (expr_there a.left a.v a.s.now a.at c.requires).0

pub eval_expr-overflow_add-next : goal.eval_expr-overflow_add-next
eval_expr-overflow_add-next t c = let a = c.args in omega (arith, (expr_there a.left a.v a.s.now a.at c.requires).0)

pub eval_expr-overflow_sub-less : goal.eval_expr-overflow_sub-less
eval_expr-overflow_sub-less t c = let a = c.args in (expr_there a.left a.v a.s.now a.at c.requires).1

pub eval_expr-overflow_cast-place : goal.eval_expr-overflow_cast-place
eval_expr-overflow_cast-place t c = let a = c.args in omega (arith, (expr_there a.left a.v a.s.now a.at c.requires).0)

pub eval_expr-eval_const-requires : goal.eval_expr-eval_const-requires
eval_expr-eval_const-requires t c =
    let a = c.args in
    (c.requires.0.1, laws.const_there a.left a.v a.s.now a.at c.requires.1 c.in-1.is)

pub eval_expr-eval_var-requires : goal.eval_expr-eval_var-requires
eval_expr-eval_var-requires t c =
    let a = c.args in
    laws.var_there a.left a.v a.s.now a.at c.requires.1 c.requires.0 c.in-2.is

pub eval_expr-eval_expr-requires : goal.eval_expr-eval_expr-requires
eval_expr-eval_expr-requires t c =
    let a = c.args in
    (omega (arith, (expr_there a.left a.v a.s.now a.at c.requires).1), (c.requires.0, laws.neg_stands a.left a.v a.s.now a.at c.requires.1 c.in-3.is))

pub eval_expr-eval_case-requires : goal.eval_expr-eval_case-requires
eval_expr-eval_case-requires t c =
    let a = c.args in
    (omega (arith, (expr_there a.left a.v a.s.now a.at c.requires).1), (c.requires.0, laws.case_stands a.left a.v a.s.now a.at c.requires.1 c.in-9.is))

pub eval_expr-eval_two-requires : goal.eval_expr-eval_two-requires
eval_expr-eval_two-requires t c =
    let a = c.args in
    let o = operator t c in
    (omega (arith, (expr_there a.left a.v a.s.now a.at c.requires).1), (c.requires.0, laws.op-stands a.left a.v a.s.now a.at c.requires.1 o.0 o.1))

pub eval_expr-returns-in-1 : goal.eval_expr-returns-in-1
eval_expr-returns-in-1 t c =
    let a = c.args in
    laws.const_answer a.left a.v a.s.now a.at c.requires.1 _ _ c.in-1.is (ap Ok c.eval_const.ensures)

pub eval_expr-returns-in-2 : goal.eval_expr-returns-in-2
eval_expr-returns-in-2 t c =
    let a = c.args in
    laws.var_answer a.left a.v a.s.now a.at c.requires.1 _ _ c.in-2.is (ap Ok c.eval_var.ensures)

pub eval_expr-returns-in_ok-x-in-3 : goal.eval_expr-returns-in_ok-x-in-3
eval_expr-returns-in_ok-x-in-3 t c =
    let a = c.args in
    let r = c.in_ok-x-in-3 in
    laws.neg_value a.left a.v a.s.now a.at c.requires.1 _ _ _ _ c.in-3.is (told c.eval_expr.ensures r.was) (rw (bound r.x (omega arith)) at c.negate_at.ensures)

pub eval_expr-returns-in_err-x-in-3 : goal.eval_expr-returns-in_err-x-in-3
eval_expr-returns-in_err-x-in-3 t c =
    let a = c.args in
    passed _ _ c.from_residual.ensures.1 ∙ laws.neg_fault a.left a.v a.s.now a.at c.requires.1 _ _ c.in-3.is (told c.eval_expr.ensures c.in_err-x-in-3.was)

pub eval_expr-returns-in-9 : goal.eval_expr-returns-in-9
eval_expr-returns-in-9 t c =
    let a = c.args in
    laws.case_answer a.left a.v a.s.now a.at c.requires.1 _ _ c.in-9.is (c.eval_case.ensures a.at refl)

pub eval_expr-returns-in_ok-x-in_default : goal.eval_expr-returns-in_ok-x-in_default
eval_expr-returns-in_ok-x-in_default t c =
    let a = c.args in
    let o = operator t (goal.at.eval_expr-returns-in_ok-x-in_default t c).In_default in
    let r = c.in_ok-x-in_default in
    laws.op-values a.left a.v a.s.now a.at c.requires.1 o.0 o.1 _ _ _ _ _ (told c.eval_two.ensures r.was) (rw (bound r.x (omega arith), bound r.y (omega arith), c.operator.ensures) at c.operate_at.ensures)

pub eval_expr-returns-in_err-x-in_default : goal.eval_expr-returns-in_err-x-in_default
eval_expr-returns-in_err-x-in_default t c =
    let a = c.args in
    let o = operator t (goal.at.eval_expr-returns-in_err-x-in_default t c).In_default in
    passed _ _ c.from_residual-in_err-x-in_default.ensures.1 ∙ laws.op-fault a.left a.v a.s.now a.at c.requires.1 o.0 o.1 _ _ (told c.eval_two.ensures c.in_err-x-in_default.was)

-- ---- eval_join
pub eval_join-eval_cond-requires : goal.eval_join-eval_cond-requires
eval_join-eval_cond-requires t c = (omega arith, (c.requires.0, laws.then-first _ _ c.requires.1))

pub eval_join-eval_cond-requires-else-decides : goal.eval_join-eval_cond-requires-else-decides
eval_join-eval_cond-requires-else-decides t c =
    let a = c.args in
    (omega arith, (c.requires.0, laws.join_next a.left a.v a.s.now a.at a.vars.now _ c.requires.1 _ _ (told c.eval_cond.ensures c.in_ok-h.was)))

pub eval_join-returns-in_err-h : goal.eval_join-returns-in_err-h
eval_join-returns-in_err-h t c p i = passed _ _ c.from_residual.ensures.1 ∙ laws.join_fault _ _ _ _ _ _ c.requires.1 _ p i (told c.eval_cond.ensures c.in_err-h.was)

pub eval_join-returns-then-decides : goal.eval_join-returns-then-decides
eval_join-returns-then-decides t c p i =
    rw c.skip.ensures
    (laws.join_left _ _ _ _ _ _ c.requires.1 _ _ p i (told c.eval_cond.ensures c.in_ok-h.was) (told c.decides.ensures c.if-decides.true))

pub eval_join-returns-else-decides : goal.eval_join-returns-else-decides
eval_join-returns-else-decides t c p i =
    laws.join_right _ _ _ _ _ _ c.requires.1 _ _ _ p i (told c.eval_cond.ensures c.in_ok-h.was) (told c.decides.ensures c.if-decides.false) c.eval_cond-else-decides.ensures

-- ---- eval_operand
pub eval_operand-bounds-s-at : goal.eval_operand-bounds-s-at
eval_operand-bounds-s-at t c = let a = c.args in (expr_there a.left a.v a.s.now a.at c.requires).0

pub eval_operand-overflow_add-next : goal.eval_operand-overflow_add-next
eval_operand-overflow_add-next t c = let a = c.args in omega (arith, (expr_there a.left a.v a.s.now a.at c.requires).0)

pub eval_operand-eval_const-requires : goal.eval_operand-eval_const-requires
eval_operand-eval_const-requires t c =
    let a = c.args in
    (c.requires.0.1, laws.const_there a.left a.v a.s.now a.at c.requires.1 c.in-1.is)

pub eval_operand-eval_var-requires : goal.eval_operand-eval_var-requires
eval_operand-eval_var-requires t c =
    let a = c.args in
    laws.var_there a.left a.v a.s.now a.at c.requires.1 c.requires.0 c.in-2.is

pub eval_operand-returns-in-1 : goal.eval_operand-returns-in-1
eval_operand-returns-in-1 t c =
    let a = c.args in
    laws.const_answer a.left a.v a.s.now a.at c.requires.1 _ _ c.in-1.is (ap Ok c.eval_const.ensures)

pub eval_operand-returns-in-2 : goal.eval_operand-returns-in-2
eval_operand-returns-in-2 t c =
    let a = c.args in
    laws.var_answer a.left a.v a.s.now a.at c.requires.1 _ _ c.in-2.is (ap Ok c.eval_var.ensures)

-- ---- eval_two
pub eval_two-eval_operand-requires : goal.eval_two-eval_operand-requires
eval_two-eval_operand-requires t c = (omega arith, (c.requires.0, laws.then-first _ _ c.requires.1))

pub eval_two-eval_operand-requires-2 : goal.eval_two-eval_operand-requires-2
eval_two-eval_operand-requires-2 t c =
    let a = c.args in
    (omega arith, (c.requires.0, laws.two-next a.left a.v a.s.now a.at a.vars.now c.requires.1 _ _ (told c.eval_operand.ensures c.in_ok-x.was)))

pub eval_two-returns-in_err-x : goal.eval_two-returns-in_err-x
eval_two-returns-in_err-x t c = passed _ _ c.from_residual.ensures.1 ∙ laws.two-fault _ _ _ _ _ c.requires.1 _ (told c.eval_operand.ensures c.in_err-x.was)

pub eval_two-returns-in_err-y : goal.eval_two-returns-in_err-y
eval_two-returns-in_err-y t c =
    passed _ _ c.from_residual-in_err-y.ensures.1 ∙ laws.two_fault_2 _ _ _ _ _ c.requires.1 _ _ _ (told c.eval_operand.ensures c.in_ok-x.was) (told c.eval_operand-2.ensures c.in_err-y.was)

pub eval_two-returns : goal.eval_two-returns
eval_two-returns t c =
    rw (bound c.in_ok-x.x (omega arith), bound c.in_ok-y.y (omega arith))
    (laws.two-values _ _ _ _ _ c.requires.1 _ _ _ _ (told c.eval_operand.ensures c.in_ok-x.was) (told c.eval_operand-2.ensures c.in_ok-y.was))
