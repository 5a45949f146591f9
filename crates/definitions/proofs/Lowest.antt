-- The lowest number that passes a test, and counts of sets. Assumes nothing.
use mathlib.Core.Path.{◌≡◌, refl, sym, ◌∙◌}
use mathlib.Core.Bool.{Bool, true, false, cond}
use mathlib.Core.Logic.{⊎_elim}
use Prim.Native.Nat.{ℕ, zero, suc, ◌+◌, ◌≤◌, ◌<◌}
use native.Mathlib.Nat.{not-suc-le-zero, le_of_suc-le-suc}
use native.Mathlib.Omega.{arith}
use Rattle.definitions.specs.Batch.{count_to}
use Rattle.definitions.proofs.Tests.{clash, less_or, neither-less, last_or}
use Rattle.definitions.proofs.Counts.{count_same}
use Rattle.definitions.specs.Order.{lowest_of}

-- ---- the lowest
pub record Lowest (n : ℕ) (f : ℕ → Bool) (b : ℕ) : Type 0 where
  pub most : b ≤ n
  pub found : b < n → f b ≡ true
  pub none : (j : ℕ) → j < b → f j ≡ false

lowest_step : (n b : ℕ) (f : ℕ → Bool) (x : Bool) → f 0 ≡ x → Lowest n (λ k. f (suc k)) b → Lowest (suc n) f (cond x 0 (suc b))
lowest_step n b f true e l = record { most = omega arith; found = λ h. e; none = λ j h. absurd (not-suc-le-zero h) }
lowest_step n b f false e l = record { most = omega (arith, l.most); found = λ h. l.found (le_of_suc-le-suc h); none = below }
  where
    below : (j : ℕ) → j < suc b → f j ≡ false
    below zero h = e
    below (suc j) h = l.none j (le_of_suc-le-suc h)

pub lowest_does : (n : ℕ) (f : ℕ → Bool) → Lowest n f (lowest_of n f)
unfolding lowest_of
lowest_does zero f = record { most = omega arith; found = λ h. absurd (not-suc-le-zero h); none = λ j h. absurd (not-suc-le-zero h) }
lowest_does (suc n) f = lowest_step n (lowest_of n (λ k. f (suc k))) f (f 0) refl (lowest_does n (λ k. f (suc k)))

-- no lower number passes the same test
not_lower : {n a b : ℕ} {f g : ℕ → Bool} → ((j : ℕ) → j < n → f j ≡ g j) → Lowest n f a → Lowest n g b → a < b → ⊥
not_lower {n = n} {a = a} e l m h =
    let k : a < n = omega (arith, m.most) in
    clash (sym (e a k) ∙ l.found k) (m.none a h)

pub lowest-only : {n a b : ℕ} {f g : ℕ → Bool} → ((j : ℕ) → j < n → f j ≡ g j) → Lowest n f a → Lowest n g b → a ≡ b
lowest-only {a = a} {b = b} e l m = neither-less a b (not_lower e l m) (not_lower (λ j i. sym (e j i)) m l)

-- a number that passes: the lowest is one
pub lowest-in : (n j : ℕ) (f : ℕ → Bool) → j < n → f j ≡ true → lowest_of n f < n
lowest-in n j f h p = ⊎_elim (λ k. k) (λ k. absurd (clash p ((lowest_does n f).none j (omega arith)))) (less_or (lowest_of n f) n)

-- ---- counts
pub count_none : (n : ℕ) (s : ℕ → Bool) → ((b : ℕ) → s b ≡ false) → count_to n s ≡ 0
unfolding count_to
count_none zero s e = refl
count_none (suc n) s e = rw (count_none n s e, e n)

-- one number more
pub count_add : (n b : ℕ) (s u : ℕ → Bool) → b < n → s b ≡ false → u b ≡ true → ((c : ℕ) → (c ≡ b → ⊥) → u c ≡ s c) → count_to n u ≡ suc (count_to n s)
unfolding count_to
count_add zero b s u h p q o = absurd (not-suc-le-zero h)
count_add (suc n) b s u h p q o =
    ⊎_elim
    (λ e. let i : s n ≡ false = rw e at p in let j : u n ≡ true = rw e at q in
    rw (count_same n u s (λ c l. o c (λ d. omega arith)), i, j) (omega arith))
    (λ l. rw (count_add n b s u l p q o, o n (λ d. omega arith)) (omega arith))
    (last_or h)

-- a set with fewer than n numbers lacks one
pub count_lacks : (n : ℕ) (s : ℕ → Bool) → count_to n s < n → (b : ℕ) × (b < n) × (s b ≡ false)
unfolding count_to
count_lacks zero s h = absurd (not-suc-le-zero h)
count_lacks (suc n) s h = go (s n) refl h (count_lacks n s)
  where
    go : (x : Bool) → s n ≡ x → count_to n s + cond (s n) 1 0 < suc n → (count_to n s < n → (b : ℕ) × (b < n) × (s b ≡ false)) → (b : ℕ) × (b < suc n) × (s b ≡ false)
    go false e k f = (n, omega arith, e)
    go true e k f = let r = f (omega (arith, rw e at k)) in (r.0, omega (arith, r.1), r.2)
