-- A rank that rises along every goto: without cycles there is one, and with one no path is long. Assumes nothing.
use mathlib.Core.Path.{◌≡◌, refl}
use mathlib.Core.Bool.{Bool, true, false}
use Prim.Native.Nat.{ℕ, zero, suc, ◌+◌, ◌≤◌, ◌<◌}
use native.Mathlib.Omega.{arith}
use Rattle.definitions.specs.Batch.{count_to}
use Rattle.definitions.proofs.Tests.{not_so}
use Rattle.definitions.proofs.Counts.{count_le, count_less}
use Rattle.definitions.specs.Paths.{Step, GotoPath, one, more, NoCycle, visits}
use Rattle.definitions.specs.Cycles.{reaches}
use Rattle.definitions.proofs.Paths.{path_snoc, path_to, reaches_path, path_reaches}

-- a number below n for each block, that rises along every goto
pub record Rank (n : ℕ) (edge : ℕ → ℕ → Bool) (rank : ℕ → ℕ) : Type 0 where
  pub below : (b : ℕ) → b < n → rank b < n
  pub rises : (b t : ℕ) → Step n edge b t → rank b < rank t

module _ (n : ℕ) (edge : ℕ → ℕ → Bool) where
  -- how many blocks reach b
  abbrev depth : ℕ → ℕ
  depth b = count_to n (λ c. reaches n edge c b)

  -- without cycles it is a rank: what reaches b reaches t, and b reaches t but not itself
  pub depth-rank : NoCycle n edge → Rank n edge depth
  depth-rank k = record {
    below = λ b h. omega (arith, count_less n (λ c. reaches n edge c b) (λ c. true) (λ c i p. refl) b h (not_itself b h) refl, count_le n (λ c. true));
    rises = λ b t s. count_less n (λ c. reaches n edge c b) (λ c. reaches n edge c t)
        (λ c i p. path_reaches n edge (path_snoc n edge (reaches_path n edge c b i s.from p) s))
        b s.from (not_itself b s.from) (path_reaches n edge (one s));
  }
    where
      not_itself : (b : ℕ) → b < n → reaches n edge b b ≡ false
      not_itself b h = not_so (reaches n edge b b) (λ p. k b (reaches_path n edge b b h h p))

  -- ---- with a rank
  module _ (rank : ℕ → ℕ) (r : Rank n edge rank) where
    -- each goto takes a path up by one at least
    path-climbs : {b t : ℕ} (p : GotoPath n edge b t) → rank b + visits p ≤ suc (rank t)
    unfolding visits
    path-climbs {b} {t} (one s) = omega (arith, r.rises b t s)
    path-climbs {b} (more {c = c} s p) = omega (arith, r.rises b c s, path-climbs p)

    path-rises : {b t : ℕ} → GotoPath n edge b t → rank b < rank t
    path-rises {b} {t} (one s) = r.rises b t s
    path-rises {b} (more {c = c} s p) = omega (arith, r.rises b c s, path-rises p)

    pub rank-no-cycle : NoCycle n edge
    rank-no-cycle b p = omega (arith, path-rises p)

    -- no path visits more than n blocks
    pub path-short : {b t : ℕ} (p : GotoPath n edge b t) → visits p ≤ n
    path-short {b} {t} p = omega (arith, path-climbs p, r.below t (path_to n edge p))

    -- what holds at a block as soon as it holds, with one step less, wherever the block has a goto to, holds if there are steps for the ranks that are left
    pub enough : (P : ℕ → ℕ → ℕ → Type 0) → ((f g b : ℕ) → b < n → ((t : ℕ) → Step n edge b t → P f g t) → P (suc f) (suc g) b)
        → (f g b : ℕ) → b < n → n ≤ f + rank b → n ≤ g + rank b → P f g b
    enough P k zero g b h l m = absurd (omega (arith, r.below b h))
    enough P k (suc f) zero b h l m = absurd (omega (arith, r.below b h))
    enough P k (suc f) (suc g) b h l m = k f g b h (λ t s. enough P k f g t s.to (omega (arith, r.rises b t s)) (omega (arith, r.rises b t s)))
