-- There is one smallest closed set only. Assumes nothing.
use mathlib.Core.Path.{◌≡◌, sym, ◌∙◌}
use mathlib.Core.Bool.{Bool}
use Prim.Native.Nat.{ℕ, ◌<◌}
use Rattle.definitions.specs.Smallest.{Smallest}
use Rattle.definitions.proofs.Tests.{both_ways}

pub smallest-only : {n : ℕ} {seed : ℕ → Bool} {edge : ℕ → ℕ → Bool} {s u : ℕ → Bool} → Smallest n seed edge s → Smallest n seed edge u → (b : ℕ) → b < n → s b ≡ u b
smallest-only {s} {u} p q b h = both_ways (s b) (u b) (p.least u q.closed b h) (q.least s p.closed b h)

-- only the seed and the edges below n count
pub alike : {n : ℕ} {seed seed' : ℕ → Bool} {edge edge' : ℕ → ℕ → Bool} {s : ℕ → Bool} → ((b : ℕ) → b < n → seed b ≡ seed' b)
    → ((b t : ℕ) → b < n → t < n → edge b t ≡ edge' b t) → Smallest n seed edge s → Smallest n seed' edge' s
alike p q m = record {
  closed = record { holds = λ b h i. m.closed.holds b h (p b h ∙ i); back = λ b t h l e i. m.closed.back b t h l (q b t h l ∙ e) i };
  least = λ u c. m.least u (record { holds = λ b h i. c.holds b h (sym (p b h) ∙ i); back = λ b t h l e i. c.back b t h l (sym (q b t h l) ∙ e) i });
}
