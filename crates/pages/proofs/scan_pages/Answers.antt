-- `pages::scan_pages` meets its contract: the pages passed were accepted, and `total` is what they hold.
use Rattle.std.proofs.Common.{sym, ◌∙◌, arith, rules}
use Rattle.definitions.proofs.Handed.{handed}
use Rattle.pages.proofs.Reading.{page-room, scan_none, turn_on, turn-off}
use Rattle.pages.proofs.scan_pages.Goals as goal

pub loop-k-init : goal.loop-k-init
loop-k-init c = (search rules, (search rules, scan_none c.args.file.now c.args.pages))

pub returns-in_err-n : goal.returns-in_err-n
returns-in_err-n c =
    let l = c.loop-k in
    let a = c.args in
    handed _ _ c.from_residual.ensures ∙ turn-off a.file.now a.pages l.k l.total _ c.page_in.result.now (omega arith) c.page_in.ensures.0 l.invariant.1.1 (sym c.in_err-n.was ∙ c.scan_page.ensures)

pub overflow_add-total : goal.overflow_add-total
overflow_add-total c =
    omega (arith, page-room _ _ _ _ (sym c.in_ok-n.was ∙ c.scan_page.ensures))

pub loop-k-preserved : goal.loop-k-preserved
loop-k-preserved c =
    let l = c.loop-k in
    let a = c.args in
    let found = sym c.in_ok-n.was ∙ c.scan_page.ensures in (
      omega arith,
      (
        omega (arith, page-room _ _ _ _ found),
        turn_on a.file.now a.pages l.k l.total _ c.page_in.result.now c.page_in.ensures.0 l.invariant.1.1 found,
      ),
    )
