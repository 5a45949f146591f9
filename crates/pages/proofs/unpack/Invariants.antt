-- `pages::unpack` meets its contract: after k turns what the first k pages hold is written.
use Rattle.std.proofs.Common.{◌≡◌, length}
use Rattle.definitions.specs.Pages.{payload_to}
use Rattle.buffers.specs.Words.{over}
use Rattle.definitions.specs.Calls.{bytes_in}
use Rattle.pages.proofs.unpack.Given as goal

abbrev pub invariant-loop-k : goal.invariant-loop-k
invariant-loop-k l =
    record {
      held : l.at ≡ length (bytes_in (payload_to l.file l.k-end l.k));
      long : length l.out ≡ length l.initial.out;
      put : l.out ≡ over l.initial.out 0 (bytes_in (payload_to l.file l.k-end l.k));
    }
