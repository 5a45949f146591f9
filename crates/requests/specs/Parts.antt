-- What stands in the bytes of an input: numbers of four bytes each.
use Rattle.std.specs.Prelude.{ℕ, zero, suc, ◌*◌, ◌<◌, List, [], ◌∷◌, ◌++◌, Option, Some, None, length, drop, get_or}
use Rattle.definitions.specs.Grammar.{word_of}

-- the number in the first four bytes
abbrev pub number_in : List ℕ → ℕ
number_in s = word_of (get_or s 0 0) (get_or s 1 0) (get_or s 2 0) (get_or s 3 0)

-- the number that an input begins with, if it does not end before it
abbrev pub number_of : List ℕ → Option ℕ
number_of [] = None
number_of (x ∷ xs) = Some (number_in (x ∷ xs))

-- the input ends inside a number
abbrev pub IsCut : List ℕ → Type 0
IsCut s = (0 < length s) × (length s < 4)

-- the first n numbers
abbrev pub first_numbers : List ℕ → ℕ → List ℕ
first_numbers s zero = []
first_numbers s (suc n) = first_numbers s n ++ (number_in (drop (4 * n) s) ∷ [])
