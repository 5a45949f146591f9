-- `pages::length_ok` meets its contract, arm by arm.
use Rattle.std.proofs.Common.{rules}
use Rattle.definitions.specs.Pages.{length_ok}
use Rattle.pages.proofs.length_ok.Goals as goal

pub returns-then-last : goal.returns-then-last
unfolding length_ok
returns-then-last c = rw c.if-last.true (search rules)

pub returns-else-last : goal.returns-else-last
unfolding length_ok
returns-else-last c = rw c.if-last.false
