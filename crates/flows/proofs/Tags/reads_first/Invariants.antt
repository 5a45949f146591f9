-- `Tags::reads_first` meets its contract. The loop's invariant: the tags still to come say what all say, `setting` being the flag of `reads_first`.
use mathlib.Core.Path.{◌≡◌}
use mathlib.Core.Bool.{false}
use Rattle.flows.specs.Marks.{marks_of, reads_first}
use Rattle.flows.proofs.Tags.reads_first.Given as goal

abbrev pub invariant-loop-tag : goal.invariant-loop-tag
invariant-loop-tag l =
    goal.iterator-loop-tag.can_next l.tag-iterator × goal.iterator-loop-tag.is_finite l.tag-iterator
    × (reads_first l.k false (marks_of l.fn.self) ≡ reads_first l.k l.setting (marks_of l.tag-iterator))
