-- `requests::input::fill_numbers` has put the numbers passed at the start of the buffer.
use Rattle.std.proofs.Common.{◌*◌, ◌≤◌, ◌≡◌, length, take, IfSome}
use Rattle.inputs.specs.Reads.{Skips}
use Rattle.requests.specs.Parts.{first_numbers}
use Rattle.requests.proofs.input.fill_numbers.Given as goal

abbrev pub invariant-loop-x : goal.invariant-loop-x
invariant-loop-x g l =
    Skips (4 * l.x-index) (g.R.Read.remaining l.fn.from) (g.R.Read.remaining l.from)
    × IfSome (g.R.Read.remaining l.fn.from) (λ xs. (4 * l.x-index ≤ length xs) × (take l.x-index l.buf ≡ first_numbers xs l.x-index))
