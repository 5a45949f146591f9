-- `buffers::copy_at`: after i turns the first i elements are copied.
use mathlib.Core.Path.{◌≡◌}
use lib.Seq.{paste}
use Rattle.buffers.proofs.copy_at.Given as goal

abbrev pub invariant-loop-i : goal.invariant-loop-i
invariant-loop-i g l = l.dst ≡ paste l.initial.dst l.at l.src l.i
