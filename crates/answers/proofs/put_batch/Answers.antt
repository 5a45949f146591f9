-- `answers::put_batch` meets its contract: what the run left, as text.
use mathlib.Core.Path.{refl, ◌∙◌}
use native.Mathlib.Omega.{arith}
use lib.IntN.{pos}
use lib.ListN.{length-replicate}
use Rattle.batches.proofs.Exactly.{run_exactly, done-within}
use Rattle.definitions.proofs.Handed.{handed}
use Rattle.answers.specs.Answer.{result_room, work_room}
use Rattle.answers.proofs.Laws.{done-text, refused-text}
use Rattle.answers.proofs.put_batch.Goals as goal

pub returns-in_err-most-clause-out_after : goal.returns-in_err-most-clause-out_after
returns-in_err-most-clause-out_after c =
    rw (handed _ _ c.from_residual.ensures) (refused-text c.run.ensures (length-replicate result_room (pos 0)) (length-replicate work_room (pos 0)) _ c.in_err-most.was)

pub put_answer-requires-clause-rows_le_most_rows : goal.put_answer-requires-clause-rows_le_most_rows
put_answer-requires-clause-rows_le_most_rows c =
    let done = done-within refl ((run_exactly _ _ _ _ _ _ c.run.ensures _).0 c.in_ok-most.was) in
    (done.0, (done.1.0, omega (arith, done.1.1, length-replicate result_room (pos 0))))

pub returns-clause-out_after : goal.returns-clause-out_after
returns-clause-out_after c =
    c.put_answer.ensures.out_after ∙ done-text c.run.ensures (length-replicate result_room (pos 0)) (length-replicate work_room (pos 0)) _ c.in_ok-most.was result_room refl
