-- The search: the first line that passes, or none.
use Rattle.std.proofs.Common.{rules, ◌≡◌, true, false}
use borrow.Author.Tests.{tests}
use Rattle.std.proofs.lemmas.Iterator.{first_from_Range}
use Rattle.definitions.specs.Finder.{is_line}
use Rattle.finder.proofs.Finds.{index-is}
use Rattle.finder.proofs.line_index.Goals as goal

pub returns : goal.returns
returns c =
    let a = c.args in
    index-is a.work.now a.size a.row a.rows c.find.result
    (first_from_Range _ _ _ _ (λ i. is_line a.work.now a.size a.row i ≡ true) (λ i. is_line a.work.now a.size a.row i ≡ false) c.find.ensures.ran (λ x q k. search (rules, tests)) (λ x q k. search (rules, tests)))
