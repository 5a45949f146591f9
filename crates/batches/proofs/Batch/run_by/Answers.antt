-- The tests decide whether the rows are run.
use Rattle.std.proofs.Common.{sym, ◌∙◌}
use Rattle.batches.proofs.Accepted.{few, known}
use Rattle.batches.proofs.Replies.{tested_allowed, ran-done}
use Rattle.batches.proofs.Batch.run_by.Goals as goal

pub test-requires : goal.test-requires
test-requires c = few c.requires.accepted c.layout_of-l.ensures

pub run_rows-requires-clause-running : goal.run_rows-requires-clause-running
run_rows-requires-clause-running c =
    let k = c.layout_of-l.ensures in
    let al = tested_allowed _ _ _ _ k.quota' (sym c.test.ensures ∙ c.in_ok-test.was) in
    (c.requires, known c.requires.accepted k (rw k.quota' at al.quota-low))

pub returns : goal.returns
returns c =
    let a = c.requires.accepted in
    let k = c.layout_of-l.ensures in
    ran-done _ _ _ _ a.next a.is _ k (sym c.test.ensures ∙ c.in_ok-test.was) _ _ _ (rw k.quota' at c.run_rows.ensures)
