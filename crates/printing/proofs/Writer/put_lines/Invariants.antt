-- `printing::Writer::put_lines` meets its contract: after so many turns the lines of the first rows are put.
use Rattle.std.proofs.Common.{◌+◌, ◌*◌, ◌≤◌}
use Rattle.printing.specs.Text.{lines_text, line_room}
use Rattle.printing.specs.Writing.{Appends}
use Rattle.printing.proofs.Writer.put_lines.Given as goal

abbrev pub invariant-loop-row : goal.invariant-loop-row
invariant-loop-row l = (l.self.len ≤ l.initial.self.len + line_room * l.row) × Appends l.initial.self (lines_text l.quota l.res l.row) l.self
