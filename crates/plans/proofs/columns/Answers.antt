-- `plans::columns` meets its contract: the plan decides first, then the ones of its mask are counted.
use Rattle.std.proofs.Common.{sym, ap, ◌∙◌, arith, Ok, Err}
use Rattle.definitions.specs.Calls.{columns_reply}
use Rattle.definitions.proofs.Handed.{handed, ok_or-some, ok_or-none}
use Rattle.plans.proofs.Carried.{accepted, refused-plan, carried-in, head-fits, at-variables, columns-counted}
use Rattle.plans.proofs.columns.Goals as goal

pub bounds-plan-1 : goal.bounds-plan-1
bounds-plan-1 c =
    omega (arith, head-fits _ (accepted c.take.ensures _ (ok_or-some _ _ _ (sym c.ok_or.ensures.value ∙ c.in_ok-ok_or.was))))

pub word_at-lc-requires : goal.word_at-lc-requires
word_at-lc-requires c =
    omega (arith, head-fits _ (accepted c.take.ensures _ (ok_or-some _ _ _ (sym c.ok_or.ensures.value ∙ c.in_ok-ok_or.was))))

pub place-requires : goal.place-requires
place-requires c =
    let a = accepted c.take.ensures _ (ok_or-some _ _ _ (sym c.ok_or.ensures.value ∙ c.in_ok-ok_or.was)) in
    omega (arith, at-variables _ a, (carried-in _ a).variables-to)

pub returns-in_err-ok_or : goal.returns-in_err-ok_or
unfolding columns_reply
returns-in_err-ok_or c =
    let n = ok_or-none _ _ _ (sym c.ok_or.ensures.value ∙ c.in_err-ok_or.was) in
    handed _ _ c.from_residual.ensures ∙ ap Err (n.1 ∙ c.at.ensures) ∙ sym (ap columns_reply (refused-plan c.take.ensures n.0).2)

pub returns : goal.returns
unfolding columns_reply
returns c =
    let a = accepted c.take.ensures _ (ok_or-some _ _ _ (sym c.ok_or.ensures.value ∙ c.in_ok-ok_or.was)) in
    ap Ok (columns-counted _ a _ _ c.word_at-lc.ensures c.place.ensures) ∙ sym (ap columns_reply a.is)
