-- `requests::output::put_digits` has put the digits of the bytes passed.
use Rattle.std.proofs.Common.{◌*◌, ◌≡◌, take}
use Rattle.requests.specs.Text.{hex_digits}
use Rattle.requests.proofs.output.put_digits.Given as goal

abbrev pub invariant-loop-i : goal.invariant-loop-i
invariant-loop-i l = take (2 * l.i) l.out ≡ hex_digits (take l.i l.bytes)
