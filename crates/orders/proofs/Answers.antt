-- The code's answers of cycles are right, and the only right ones. Assumes nothing.
use mathlib.Core.Path.{◌≡◌, refl, ap}
use mathlib.Core.Bool.{Bool, true}
use mathlib.Core.Logic.{◌↔◌}
use Prim.Native.Nat.{ℕ, ◌≤◌, ◌<◌}
use native.Mathlib.Omega.{arith}
use borrow.Author.Tests.{lt-ltb, le-ltb}
use Rattle.std.specs.Prelude.{Option, None, Some, MatchOption}
use Rattle.definitions.specs.Paths.{OnCycle, NoCycle, LowestOnCycle}
use Rattle.definitions.specs.Cycles.{cycle_of}
use Rattle.definitions.specs.Smallest.{Smallest}
use Rattle.definitions.proofs.Smallest.{alike}
use Rattle.definitions.proofs.Paths.{path_from, path_held, held_path}
use Rattle.definitions.proofs.Cycled.{cycle-lowest, cycle-free, lowest-one}
use Rattle.orders.specs.Answers.{First, first_of}

module _ (n : ℕ) (edge : ℕ → ℕ → Bool) where
  pub told : (b : ℕ) (seed s : ℕ → Bool) → b < n → ((c : ℕ) → c < n → seed c ≡ edge c b) → Smallest n seed edge s → (s b ≡ true) ↔ OnCycle n edge b
  told b seed s l e m =
      let k : Smallest n (λ x. edge x b) edge s = alike e (λ c t h i. refl) m in
      (held_path n edge b b s l l k, λ p. path_held n edge s p k.closed)

  -- ---- the answer of a search, and that it is the only right one
  pub first-found : (r : Option ℕ) → MatchOption r ((b : ℕ) → 0 ≤ b → b < n → OnCycle n edge b → ⊥) (λ b. (0 ≤ b) × (b < n) × OnCycle n edge b × ((c : ℕ) → 0 ≤ c → c < b → OnCycle n edge c → ⊥)) → First n edge r
  first-found None h = λ b p. h b (omega arith) (path_from n edge p) p
  first-found (Some b) h = record { here = h.2; lowest = λ c l. h.3 c (omega arith) l }

  pub first-is : (r : Option ℕ) → First n edge r → r ≡ first_of n edge
  unfolding first_of
  first-is None h = let e : cycle_of n edge ≡ n = (cycle-free n edge).1 h in rw (e, le-ltb n n (omega arith))
  first-is (Some b) h = let e = (cycle-lowest n edge b).1 h in rw (e.0, lt-ltb b n e.1)

  -- so it tells of each block whether it is the lowest on a cycle, and whether there is a cycle
  some_none : {b : ℕ} → Some b ≡ None → ⊥
  some_none e = let z : ◌≡◌ {A = ℕ} 0 1 = cc in omega arith

  none_some : {b : ℕ} → None ≡ Some b → ⊥
  none_some e = let z : ◌≡◌ {A = ℕ} 0 1 = cc in omega arith

  pub first-exactly : (r : Option ℕ) → First n edge r → ((b : ℕ) → (r ≡ Some b) ↔ LowestOnCycle n edge b) × ((r ≡ None) ↔ NoCycle n edge)
  first-exactly None h = (λ b. (λ e. absurd (none_some e), λ m. absurd (h b m.here)), (λ e. h, λ k. refl))
  first-exactly (Some b) h = (λ c. (λ e. let q : b ≡ c = cc in rw q at h, λ m. ap Some (lowest-one n edge b c h m)), (λ e. absurd (some_none e), λ k. absurd (k b h.here)))
