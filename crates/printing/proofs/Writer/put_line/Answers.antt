-- `printing::Writer::put_line` meets its contract: three texts in a row.
use Rattle.std.proofs.Common.{arith}
use mir.Facts.{to_z-of_z}
use mir.Syntax.{w32}
use Rattle.printing.specs.Text.{words_text}
use Rattle.printing.proofs.Laws.{line-is, word-text, words_more, appends_none, appends_then, appends_as}
use Rattle.printing.proofs.Writer.put_line.Goals as goal

pub loop-x-init : goal.loop-x-init
unfolding words_text
loop-x-init c = (omega arith, appends_none _)

pub loop-x-preserved : goal.loop-x-preserved
loop-x-preserved c =
    let p = c.put_number-in-loop-x.ensures in
    let q = appends_then c.loop-x.invariant.1 (appends_then c.put.ensures p.put) in
    (omega (arith, c.put.ensures.len', p.upper_bound), appends_as q (words_more _ _ _ _ (omega arith) (word-text (record { sfits = omega arith }))))

pub returns-clause-put : goal.returns-clause-put
returns-clause-put c =
    let p = appends_then (appends_then c.put_number.ensures.put c.loop-x.invariant.1) c.put-2.ensures in
    appends_as p (line-is _ _ _ (omega arith) c.record_at-from.ensures c.labels.ensures.0 (to_z-of_z {w = w32} (record { sfits = omega arith })) (omega (arith, c.record_size-n.ensures)))
