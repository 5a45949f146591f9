-- `printing::Writer::put_lines` meets its contract: after so many turns the lines of the first rows are put.
use Rattle.std.proofs.Common.{arith}
use Rattle.printing.specs.Text.{lines_text}
use Rattle.printing.proofs.Laws.{lines_more, appends_none, appends_then, appends_as}
use Rattle.printing.proofs.Writer.put_lines.Goals as goal

pub loop-row-init : goal.loop-row-init
unfolding lines_text
loop-row-init c = (omega arith, appends_none _)

pub loop-row-preserved : goal.loop-row-preserved
loop-row-preserved c =
    let p = c.put_line.ensures in
    (omega (arith, p.upper_bound), appends_as (appends_then c.loop-row.invariant.1 p.put) (lines_more _ _ _))
