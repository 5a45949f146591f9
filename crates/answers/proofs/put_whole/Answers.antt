-- `answers::put_whole` meets its contract: the numbers and the values of the input are the batch.
use Rattle.std.proofs.Common.{◌-◌, ◌/◌, ◌≡◌, refl, ◌∙◌, length, arith}
use Rattle.std.proofs.lemmas.List.{length-take-le}
use Rattle.answers.specs.Answer.{words_in}
use Rattle.answers.proofs.Laws.{values-read}
use Rattle.answers.proofs.put_whole.Goals as goal

pub returns-clause-out_after : goal.returns-clause-out_after
returns-clause-out_after c =
    let s = c.args.input.now in
    let v : c.constants.new.words ≡ words_in s ((length s - 12) / 4) = rw c.constants.ensures (values-read s (length-take-le _ _ (omega arith))) in
    c.put_batch.ensures.out_after ∙ rw (c.number-rows.ensures, c.number-budget.ensures, c.number-quota.ensures, v) refl
