-- The computed block is below n exactly if there is a cycle, and is then the lowest that is on one. Assumes nothing.
use mathlib.Core.Path.{◌≡◌}
use mathlib.Core.Bool.{Bool}
use mathlib.Core.Logic.{◌↔◌, ⊎_elim}
use Prim.Native.Nat.{ℕ, ◌≤◌, ◌<◌}
use native.Mathlib.Omega.{arith}
use Rattle.definitions.specs.Paths.{HasCycle, NoCycle, LowestOnCycle}
use Rattle.definitions.specs.Cycles.{reaches, cycle_of}
use Rattle.definitions.proofs.Tests.{clash, less_or, neither-less}
use Rattle.definitions.proofs.Lowest.{lowest_does}
use Rattle.definitions.proofs.Paths.{path_from, path_reaches, reaches_path}

module _ (n : ℕ) (edge : ℕ → ℕ → Bool) where
  pub cycle-at : cycle_of n edge < n → LowestOnCycle n edge (cycle_of n edge)
  unfolding cycle_of
  cycle-at h =
      let l = lowest_does n (λ b. reaches n edge b b) in
      record { here = reaches_path n edge (cycle_of n edge) (cycle_of n edge) h h (l.found h); lowest = λ c k p. clash (path_reaches n edge p) (l.none c k) }

  pub cycle-none : n ≤ cycle_of n edge → NoCycle n edge
  unfolding cycle_of
  cycle-none h c p = clash (path_reaches n edge p) ((lowest_does n (λ b. reaches n edge b b)).none c (omega (arith, path_from n edge p)))

  -- no two blocks are the lowest
  pub lowest-one : (b c : ℕ) → LowestOnCycle n edge b → LowestOnCycle n edge c → b ≡ c
  lowest-one b c p q = neither-less b c (λ h. q.lowest b h p.here) (λ h. p.lowest c h q.here)

  -- ---- for the reader

  -- it is below n exactly if there is a cycle
  pub cycle-exactly : (cycle_of n edge < n) ↔ HasCycle n edge
  cycle-exactly = (λ h. (cycle_of n edge, (cycle-at h).here), λ c. ⊎_elim (λ h. h) (λ h. absurd (cycle-none h c.0 c.1)) (less_or (cycle_of n edge) n))

  -- and then it is the lowest block that is on one
  pub cycle-lowest : (b : ℕ) → ((cycle_of n edge ≡ b) × (b < n)) ↔ LowestOnCycle n edge b
  cycle-lowest b = (λ p. rw p.0 at (cycle-at (rw p.0 p.1)), λ m. (found m, path_from n edge m.here))
    where
      found : LowestOnCycle n edge b → cycle_of n edge ≡ b
      found m = lowest-one (cycle_of n edge) b (cycle-at (cycle-exactly.1 (b, m.here))) m

  -- it is n exactly if there is none
  pub cycle-free : (cycle_of n edge ≡ n) ↔ NoCycle n edge
  unfolding cycle_of
  cycle-free = (λ e. cycle-none (omega arith), λ k. ⊎_elim (λ h. absurd (k (cycle_of n edge) (cycle-at h).here)) (λ h. omega (arith, (lowest_does n (λ b. reaches n edge b b)).most)) (less_or (cycle_of n edge) n))
