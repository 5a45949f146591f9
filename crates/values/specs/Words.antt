-- The words that bytes hold, four bytes each.
use Rattle.std.specs.Prelude.{ℕ, zero, suc, ◌*◌, List, [], ◌∷◌, ◌++◌}
use Rattle.definitions.specs.Values.{Word}
use Rattle.definitions.specs.Grammar.{constant_in}

-- the first n
unfoldable pub constants_in : List ℕ → ℕ → List Word
constants_in s zero = []
constants_in s (suc n) = constants_in s n ++ (constant_in s (4 * n) ∷ [])
