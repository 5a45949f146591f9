-- `values::constants` meets its contract: the words passed hold their constants.
use Rattle.std.proofs.Common.{◌≡◌, take}
use Rattle.values.specs.Words.{constants_in}
use Rattle.values.proofs.constants.Given as goal

abbrev pub invariant-loop-i : goal.invariant-loop-i
invariant-loop-i l = take l.i l.words ≡ constants_in l.s l.i
