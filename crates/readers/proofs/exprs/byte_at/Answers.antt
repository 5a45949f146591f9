-- `readers::exprs::byte_at` meets its contract: a byte is there, or none.
use native.Mathlib.Omega.{arith}
use Rattle.std.proofs.Common.{◌≡◌, ℕ, length, get_or, ◌∙◌, List, Option, Some, None, Bor}
use Rattle.std.specs.Option.{option_copied, ok_or}
use Rattle.std.specs.Slice.{IsItemAt}
use borrow.Author.Tests.{lt-ltb, le-ltb}
use Rattle.definitions.specs.Grammar.{byte_at}
use Rattle.readers.specs.Readings.{due_of}
use Rattle.definitions.specs.declared.Reason.TheVariants.{EndsEarly}
use Rattle.readers.proofs.exprs.byte_at.Goals as goal

there : (s : List ℕ) (at : ℕ) (o : Option (Bor ℕ)) → IsItemAt s at o → ok_or (option_copied o) (record { reason = EndsEarly; place = length s }) ≡ due_of (byte_at s at)
unfolding due_of
there s at (Some x) h = let k : x.now ≡ get_or s at 0 = h.4 (omega arith) 0 in simp (lt-ltb at (length s) h.3.0, k)
there s at None h = simp (le-ltb at (length s) h.3)

pub returns : goal.returns
returns c = c.ok_or.ensures.value ∙ rw (c.copied.ensures, c.at.ensures) (there _ _ _ c.get.ensures.lookup)
