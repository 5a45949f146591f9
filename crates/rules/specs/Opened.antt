-- What opening a file leaves: the size of the bytes that were found, or the refusal; and the bytes at a buffer's start.
use Rattle.std.specs.Prelude.{ℕ, ◌≤◌, ◌≡◌, List, take}
use Rattle.definitions.specs.Grammar.{Got, longest}
use Rattle.definitions.specs.Calls.{bytes_in}
use Rattle.definitions.specs.Refusals.{Reply}
use Rattle.pages.specs.Answers.{scan_of}
use Rattle.std.specs.Prelude.{Ok}

pub record Opened (what : Got (List ℕ)) (r : Reply) (buffer : List ℕ) : Type 0 where
  pub reply : r ≡ scan_of what
  pub short : (n : ℕ) → r ≡ Ok n → n ≤ longest
  pub bytes : (n : ℕ) → r ≡ Ok n → take n buffer ≡ bytes_in what
