-- `printing::put_answer` meets its contract: texts in a row.
use Rattle.std.proofs.Common.{rules, arith}
use Rattle.printing.proofs.Laws.{answer-is, appends_then, appends_as}
use Rattle.printing.proofs.put_answer.Goals as goal

pub returns-clause-out_after : goal.returns-clause-out_after
returns-clause-out_after c =
    let a = c.args in
    let p = appends_then c.put_lines.ensures.put (appends_then c.put.ensures (appends_then c.put_number.ensures.put c.put-2.ensures)) in
    search (rules, (appends_as p (answer-is a.res.now a.rows a.quota a.most (omega arith))).text)
