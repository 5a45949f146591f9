-- The code's answer to `unpacked`: the size of what a file holds.
use Rattle.std.specs.Prelude.{ℕ, ◌≤◌, List, length}
use Rattle.definitions.specs.Grammar.{Got, got, refused}
use Rattle.definitions.specs.Refusals.{Reply}
use Rattle.std.specs.Prelude.{Ok, Err}

-- how many bytes were found, or the refusal
unfoldable pub scan_of : Got (List ℕ) → Reply
scan_of (got xs n) = Ok (length xs)
scan_of (refused k p) = Err (record { reason = k; place = p })

-- bytes were found, and there is room for them
unfoldable pub Fits : Got (List ℕ) → ℕ → Type 0
Fits (got xs n) room = length xs ≤ room
Fits (refused k p) room = ⊥
