-- What a sweep over the numbers from the last to the first, in place, has done when it stands at b.
use Rattle.std.specs.Prelude.{◌≡◌, Bool, true, false, ℕ, ◌≤◌, ◌<◌}
use Rattle.definitions.specs.Columns.{grown}
use Rattle.definitions.specs.Batch.{count_to}
use Rattle.definitions.specs.Smallest.{Within, Back}

pub record Sweep (n : ℕ) (edge : ℕ → ℕ → Bool) (old : ℕ → Bool) (b : ℕ) (new : ℕ → Bool) (more : Bool) : Type 0 where
  pub keeps : Within n old new
  pub sound : (u : ℕ → Bool) → Back n edge u → Within n old u → Within n new u
  pub same : more ≡ false → Within n new old
  pub idle : more ≡ false → (c : ℕ) → b ≤ c → c < n → grown n edge old c ≡ true → old c ≡ true
  pub busy : more ≡ true → count_to n old < count_to n new
