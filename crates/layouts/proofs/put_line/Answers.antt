-- Three stores and the columns make up a line.
use native.Mathlib.Omega.{arith}
use Rattle.layouts.proofs.Lines.{line_law}
use Rattle.layouts.proofs.put_line.Goals as goal

pub returns : goal.returns
returns c =
    let a = c.args in
    line_law a.work.now a.at a.line.row a.line.block a.line.begun _ c.put_columns.new.work (omega arith) (omega arith) (omega arith) (omega arith) c.put_columns.ensures
