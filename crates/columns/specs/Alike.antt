-- Environments that agree on a set of variables.
use Rattle.std.specs.Prelude.{ℕ, ◌≤◌, ◌<◌, ◌≡◌, Bool, true, List, length, get_or}
use Rattle.definitions.specs.Values.{Val, unset}

-- both have at least v values, and the same at each variable below v that the set holds
pub record Alike (v : ℕ) (A : ℕ → Bool) (x y : List Val) : Type 0 where
  pub left : v ≤ length x
  pub right : v ≤ length y
  pub same : (k : ℕ) → k < v → A k ≡ true → get_or x k unset ≡ get_or y k unset
