-- `requests::output::words` has written the first word and those passed after it.
use Rattle.std.proofs.Common.{◌++◌, take, get_or, pos}
use Rattle.std.specs.Fmt.{signed_decimal}
use Rattle.std.specs.Io.KnownBytes.{Appends}
use Rattle.requests.specs.Text.{more_words}
use Rattle.requests.proofs.output.words.Given as goal

abbrev pub invariant-loop-x : goal.invariant-loop-x
invariant-loop-x g l = Appends (g.W.Write.contents l.fn.to) (g.W.Write.contents l.to) (signed_decimal (get_or l.ws 0 (pos 0)) ++ more_words (take l.x-index l.others))
