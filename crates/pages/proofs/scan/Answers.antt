-- `pages::scan` meets its contract: a wrong size is refused, and otherwise the pages decide.
use Rattle.std.proofs.Common.{sym, ap, ◌∙◌, Err}
use Rattle.pages.specs.Answers.{scan_of}
use Rattle.pages.proofs.Reading.{whole, wrong_size}
use Rattle.pages.proofs.scan.Goals as goal

pub returns-then-size_ok : goal.returns-then-size_ok
returns-then-size_ok c =
    let file = c.args.file.now in
    c.scan_pages.ensures ∙ ap scan_of (sym (whole file (sym c.size_ok.ensures ∙ c.if-size_ok.true)))

pub returns-else-size_ok : goal.returns-else-size_ok
unfolding scan_of
returns-else-size_ok c =
    let file = c.args.file.now in
    ap Err c.at.ensures ∙ ap scan_of (sym (wrong_size file (sym c.size_ok.ensures ∙ c.if-size_ok.false)))
