-- 02, K5: the lowest block on a cycle, computed. That it is the one that the paths tell of is the theorem `cycle-lowest` of proofs/Cycled.antt.
use Rattle.std.specs.Prelude.{Bool, ℕ}
use Rattle.definitions.specs.Columns.{closure}
use Rattle.definitions.specs.Order.{lowest_of}

-- block c reaches b by one goto or more
abbrev pub reaches : ℕ → (ℕ → ℕ → Bool) → ℕ → ℕ → Bool
reaches n edge c b = closure n (λ x. edge x b) edge c

-- n if there is none
unfoldable pub cycle_of : ℕ → (ℕ → ℕ → Bool) → ℕ
cycle_of n edge = lowest_of n (λ b. reaches n edge b b)
