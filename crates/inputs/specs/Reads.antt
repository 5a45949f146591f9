-- What reading leaves of an input whose bytes are known.
use Rattle.std.specs.Prelude.{ℕ, ◌≡◌, List, drop, None, Some, Option, ⊤}

-- the first n of them are read
abbrev pub Skips : ℕ → Option (List ℕ) → Option (List ℕ) → Type 0
Skips n None new = ⊤
Skips n (Some xs) None = ⊥
Skips n (Some xs) (Some ys) = ys ≡ drop n xs
