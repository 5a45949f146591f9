-- `printing::put_refusal` meets its contract: texts in a row.
use Rattle.std.proofs.Common.{rules, arith}
use Rattle.printing.proofs.Laws.{refusal-is, appends_then, appends_as}
use Rattle.printing.proofs.put_refusal.Goals as goal

pub returns-clause-out_after : goal.returns-clause-out_after
returns-clause-out_after c =
    let p = appends_then c.put.ensures (appends_then c.put_number.ensures.put (appends_then c.put-2.ensures (appends_then c.put_number-2.ensures.put c.put-3.ensures))) in
    search (rules, (appends_as p (refusal-is c.args.number c.args.place (omega arith) (omega arith))).text)
