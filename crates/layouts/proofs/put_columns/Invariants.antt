-- After k turns the columns among the first k variables stand in the line.
use Rattle.definitions.specs.Plan.{bit_of}
use Rattle.layouts.proofs.Lines.{ColumnsPut}
use Rattle.layouts.proofs.put_columns.Given as goal

abbrev pub invariant-loop-k : goal.invariant-loop-k
invariant-loop-k l = ColumnsPut (bit_of l.l.lc) l.initial.work l.at l.vars l.work l.k
