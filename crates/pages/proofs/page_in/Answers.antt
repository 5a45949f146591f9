-- `pages::page_in` meets its contract: the part is the page.
use Rattle.std.proofs.Common.{length, ap, ◌∙◌}
use Rattle.pages.proofs.Reading.{page-part, length-page_in}
use Rattle.pages.proofs.page_in.Goals as goal

pub returns : goal.returns
returns c =
    let e = page-part c.args.file.now c.args.k in
    (e, ap length e ∙ length-page_in c.args.file.now c.args.k c.requires.1)
