-- `pages::length_in` meets its contract: the page's first number.
use Rattle.std.proofs.Common.{rules}
use Rattle.definitions.specs.Pages.{length_in}
use Rattle.pages.proofs.length_in.Goals as goal

pub returns : goal.returns
unfolding length_in
returns c = search rules
