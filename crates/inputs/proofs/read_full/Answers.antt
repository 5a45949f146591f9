-- `inputs::read_full`: each read goes on where the one before it ended.
use Rattle.std.proofs.Common.{ℕ, ◌+◌, ◌≤◌, ◌≡◌, List, ◌++◌, length, take, rules, arith}
use borrow.Rule.Slice.PartMut.{put_mid}
use Rattle.std.proofs.Math.Seq.{take-append-le, take-append-add}
use Rattle.std.proofs.lemmas.List.{length-take-le}
use Rattle.std.proofs.lemmas.Grind.{common_steps}
use Rattle.inputs.proofs.read_full.Goals as goal

into_rest : (a k n : ℕ) (xs ys : List ℕ) → a ≤ length xs → n ≤ length ys → take (a + n) (put_mid a k xs ys) ≡ take a xs ++ take n ys
into_rest a k n xs ys within fits = search (rules, length-take-le, take-append-le, take-append-add)

pub loop-done-preserved : goal.loop-done-preserved
loop-done-preserved g c =
    let fits : c.in_ok-n.n ≤ length c.read.new.buf = c.in_ok-n.ensures.bound.0 in
    (omega (arith, c.read.auto.buf), grind (arith, common_steps, into_rest))
