-- `printing::Writer::put_line` meets its contract: after so many turns so many words are put.
use Rattle.std.proofs.Common.{◌+◌, ◌*◌, ◌≤◌}
use Rattle.printing.specs.Text.{words_text}
use Rattle.printing.specs.Writing.{Appends}
use Rattle.printing.proofs.Writer.put_line.Given as goal

abbrev pub invariant-loop-x : goal.invariant-loop-x
invariant-loop-x l = (l.self.len ≤ l.initial.self.len + 12 * l.x-index) × Appends l.initial.self (words_text l.res l.from l.x-index) l.self
