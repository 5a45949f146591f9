-- `pages::scan_page` meets its contract, arm by arm.
use Rattle.std.proofs.Common.{sym, ap, ◌∙◌, Err}
use Rattle.pages.proofs.Reading.{page-2, page-3, page-done}
use Rattle.pages.proofs.scan_page.Goals as goal
use Rattle.pages.proofs.scan_page.Goals.{then-not-length_ok-via-then-not-length_ok, then-not-length_ok-via-else-not-length_ok+then-not-filler_ok}

pub returns-then-word_at-check : goal.returns-then-word_at-check
returns-then-word_at-check c =
    let a = c.args in
    ap Err c.at.ensures ∙ page-2 a.last a.p.now a.k c.word_at.result c.check.result 0 c.word_at.ensures c.check.ensures c.if-word_at-check.true

pub returns : goal.returns
returns c =
    page-done c.args.last c.args.p.now c.args.k c.word_at.result c.check.result c.length_in-n.result c.word_at.ensures c.check.ensures c.if-word_at-check.false c.length_in-n.ensures c.requires (sym c.length_ok.ensures ∙ c.if-not-length_ok.false) (sym c.filler_ok.ensures ∙ c.if-not-filler_ok.false)

pub returns-then-not-length_ok : goal.returns-then-not-length_ok
returns-then-not-length_ok c =
    let a = c.args in
    let off = page-3 a.last a.p.now a.k c.word_at.result c.check.result c.length_in-n.result c.word_at.ensures c.check.ensures c.if-word_at-check.false c.length_in-n.ensures in
    ap Err c.at-then-not-length_ok.ensures ∙ elim c.then-not-length_ok.branch [
      | then-not-length_ok-via-then-not-length_ok w ↦ off (rw (sym c.length_ok.ensures ∙ w.if-not-length_ok.true))
      | then-not-length_ok-via-else-not-length_ok+then-not-filler_ok w ↦ off (rw (sym c.length_ok.ensures ∙ w.if-not-length_ok.false, sym w.filler_ok.ensures ∙ w.if-not-filler_ok.true))
    ]
