-- `pages::check` meets its contract: after i turns the sum is that of the first i words, wrapped.
use Rattle.std.proofs.Common.{◌≡◌, ◌%◌}
use Rattle.definitions.specs.Pages.{weight_at, word_sum}
use Rattle.pages.proofs.check.Given as goal

abbrev pub invariant-loop-i : goal.invariant-loop-i
invariant-loop-i l = l.sum ≡ word_sum weight_at l.p l.i % 65536
