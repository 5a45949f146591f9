-- `pages::put_file` meets its contract: after k turns the first k pages are written.
use Rattle.std.proofs.Common.{◌≡◌, length}
use Rattle.definitions.specs.Pages.{pages_to}
use Rattle.buffers.specs.Words.{over}
use Rattle.pages.proofs.put_file.Given as goal

abbrev pub invariant-loop-k : goal.invariant-loop-k
invariant-loop-k l = record { long : length l.out ≡ length l.initial.out; put : l.out ≡ over l.initial.out 0 (pages_to l.rule l.k) }
