-- After n turns the first n rows stand at their start.
use Rattle.tables.proofs.Starts.{starts_none, starts-line}
use Rattle.tables.proofs.put_starts.Goals as goal

pub loop-row-init : goal.loop-row-init
loop-row-init c = λ p. starts_none p

pub loop-row-preserved : goal.loop-row-preserved
loop-row-preserved c =
    let l = c.loop-row in
    λ p. starts-line p l.row c.loop-row-test.true l.work c.put_line.new.work c.fetch-vars.result (l.invariant p) c.fetch-vars.ensures c.put_line.ensures
