-- After n turns the first n rows stand at their start.
use Rattle.tables.specs.Runs.{ToStart, Started}
use Rattle.tables.proofs.put_starts.Given as goal

abbrev pub invariant-loop-row : goal.invariant-loop-row
invariant-loop-row l = (p : ToStart l.l l.rows l.values l.initial.work) → Started p.rule l.values l.row l.initial.work l.work
