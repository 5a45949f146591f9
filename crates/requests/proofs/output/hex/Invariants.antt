-- `requests::output::hex` has written the digits of the parts passed.
use Rattle.std.proofs.Common.{◌≡◌, ℕ, List, ◌++◌}
use Rattle.std.specs.Io.KnownBytes.{Appends}
use Rattle.std.specs.Slice.Iter.{chunks_rest, chunks_size}
use Rattle.requests.specs.Text.{hex_digits}
use Rattle.requests.proofs.output.hex.Given as goal

abbrev pub invariant-loop-part : goal.invariant-loop-part
invariant-loop-part g l =
    (goal.iterator-loop-part g).can_next l.part-iterator
    × (goal.iterator-loop-part g).is_finite l.part-iterator
    × (chunks_size l.part-iterator ≡ 8192)
    × ((done : List ℕ) × Appends (g.W.Write.contents l.fn.to) (g.W.Write.contents l.to) done × (done ++ hex_digits (chunks_rest l.part-iterator) ≡ hex_digits l.bytes))
