-- The smallest set of numbers below n that holds a seed and is closed backwards under edges. It is no part of 01: the contracts of crate closure cite it,
-- and proofs/Columns.antt joins it to `Inputs`. A set is a test, and `edge b t ≡ true` says that an edge goes from b to t.
use Rattle.std.specs.Prelude.{◌≡◌, Bool, true, ℕ, ◌<◌}

-- what s holds below n, u holds
abbrev pub Within : ℕ → (ℕ → Bool) → (ℕ → Bool) → Type 0
Within n s u = (b : ℕ) → b < n → s b ≡ true → u b ≡ true

-- with the end of an edge s holds its start
abbrev pub Back : ℕ → (ℕ → ℕ → Bool) → (ℕ → Bool) → Type 0
Back n edge s = (b t : ℕ) → b < n → t < n → edge b t ≡ true → s t ≡ true → s b ≡ true

pub record Closed (n : ℕ) (seed : ℕ → Bool) (edge : ℕ → ℕ → Bool) (s : ℕ → Bool) : Type 0 where
  pub holds : Within n seed s
  pub back : Back n edge s

-- s is such a set, and lies within every such set
pub record Smallest (n : ℕ) (seed : ℕ → Bool) (edge : ℕ → ℕ → Bool) (s : ℕ → Bool) : Type 0 where
  pub closed : Closed n seed edge s
  pub least : (u : ℕ → Bool) → Closed n seed edge u → Within n s u
