-- `pages::scan_pages` meets its contract: the pages passed were accepted, and `total` is what they hold.
use Rattle.std.proofs.Common.{◌≡◌, ◌-◌, ◌*◌, ◌≤◌}
use Rattle.definitions.specs.Pages.{payload_room, payload_to}
use Rattle.pages.specs.Answers.{scan_of}
use Rattle.pages.proofs.scan_pages.Given as goal
use Rattle.std.specs.Prelude.{Ok}

abbrev pub invariant-loop-k : goal.invariant-loop-k
invariant-loop-k l = (l.k ≤ l.pages) × ((l.total ≤ payload_room * l.k) × (scan_of (payload_to l.file l.pages l.k) ≡ Ok l.total))
