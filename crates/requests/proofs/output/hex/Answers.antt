-- `requests::output::hex` writes the digits of each part after those of the parts before it.
use Rattle.std.proofs.Common.{◌++◌, sym, ap, ◌∙◌, append_assoc, arith, rules}
use Rattle.std.proofs.lemmas.Grind.{flat_map-append, common_steps}
use Rattle.std.specs.Io.KnownBytes.{Appends}
use Rattle.std.specs.Slice.Iter.{chunks_rest}
use Rattle.requests.specs.Text.{byte_digits, hex_digits}
use Rattle.requests.proofs.output.hex.Goals as goal

pub loop-part-preserved : goal.loop-part-preserved
loop-part-preserved g c =
    let part = c.in-Some.part.now in
    let rest = chunks_rest c.next.new.self in
    let steps = c.in-Some.ensures.steps in
    let size = c.loop-part.invariant.2 in
    let so_far = c.loop-part.invariant.3 in
    let wrote : Appends (g.W.Write.contents c.loop-part.to) (g.W.Write.contents c.write_all.new.self) (hex_digits part) = rw c.put_digits.ensures at c.in_ok-write_all.ensures.bytes in (
      search rules,
      tt,
      steps.0 ∙ size,
      (so_far.0 ++ hex_digits part, grind (arith, common_steps), append_assoc so_far.0 _ _ ∙ ap (λ t. so_far.0 ++ t) (sym (flat_map-append byte_digits part rest) ∙ ap hex_digits (sym steps.1.0)) ∙ so_far.2),
    )
