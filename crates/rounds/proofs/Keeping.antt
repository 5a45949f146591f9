-- Variables are kept by the bits of a mask. Assumes nothing.
use Prim.Native.Nat.{ℕ, zero, suc, ◌+◌, ◌/◌, ◌%◌, ◌^◌, ◌<◌}
use native.Mathlib.Numerals.{add-one}
use native.Mathlib.Omega.{arith}
use mathlib.Core.Path.{◌≡◌, refl, ◌∙◌}
use mathlib.Core.Bool.{Bool}
use mathlib.Core.List.{List}
use lib.IntN.{pos}
use lib.ListN.{set}
use Rattle.definitions.specs.Values.{Word, Val, values_in, unset}
use Rattle.definitions.specs.Plan.{bit_of}
use Rattle.definitions.proofs.Values.{values-set}
use Rattle.columns.specs.OnPlan.{kept}

module _ (mask k : ℕ) (env : List Val) where
  kept_out : mask / 2 ^ k % 2 ≡ 0 → set (kept k (bit_of mask) env) k unset ≡ kept (k + 1) (bit_of mask) env
  unfolding kept
  kept_out e = rw (add-one, e)

  pub kept_out-words : (ws : List Word) → mask / 2 ^ k % 2 ≡ 0 → values_in ws ≡ kept k (bit_of mask) env → values_in (set ws k (pos 0)) ≡ kept (k + 1) (bit_of mask) env
  kept_out-words ws e h = values-set ws k (pos 0) ∙ rw h (kept_out e)

  pub kept_in : (mask / 2 ^ k % 2 ≡ 0 → ⊥) → kept k (bit_of mask) env ≡ kept (k + 1) (bit_of mask) env
  unfolding kept
  kept_in e = let one : mask / 2 ^ k % 2 ≡ 1 = omega arith in rw (add-one, one)

-- sets that hold the same variables below v keep the same
pub kept_same : (v : ℕ) (f g : ℕ → Bool) (env : List Val) → ((k : ℕ) → k < v → f k ≡ g k) → kept v f env ≡ kept v g env
unfolding kept
kept_same zero f g env h = refl
kept_same (suc v) f g env h = rw (h v (omega arith), kept_same v f g env (λ k l. h k (omega arith)))
