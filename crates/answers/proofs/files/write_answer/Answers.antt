-- `answers::files::write_answer` meets its contract: what it reads of the file and the input is enough for their answer.
use Rattle.std.proofs.Common.{ℕ, List, take}
use Rattle.std.specs.Io.KnownBytes.{Appends}
use Rattle.answers.proofs.Enough.{enough, on_ok}
use Rattle.answers.proofs.files.write_answer.Goals as goal

pub returns : goal.returns
returns g c =
    on_ok c.write_all.result {P = Appends (g.W.Write.contents c.args.to.now) (g.W.Write.contents c.write_all.new.self) (take c.answer-n.result c.answer-n.new.out)}
    (λ p. enough _ _ _ _ _ (λ (t : List ℕ). Appends (g.W.Write.contents c.args.to.now) (g.W.Write.contents c.write_all.new.self) t) c.in_ok-size.ensures.bytes c.in_ok-length.ensures.bytes c.answer-n.ensures.out_after p)
    c.write_all.ensures.bytes
