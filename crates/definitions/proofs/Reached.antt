-- The computed closure is the smallest closed set. Assumes nothing.
use mathlib.Core.Path.{◌≡◌, sym, ◌∙◌}
use mathlib.Core.Bool.{Bool, true, ◌&&◌}
use mathlib.Core.Logic.{◌⊎◌, inl, inr, ⊎_elim}
use Prim.Native.Nat.{ℕ, zero, suc, ◌≤◌, ◌<◌}
use native.Mathlib.Omega.{arith}
use Rattle.definitions.specs.Batch.{count_to}
use Rattle.definitions.specs.Columns.{some, among, grown, growths, closure}
use Rattle.definitions.specs.Smallest.{Within, Closed, Smallest}
use Rattle.definitions.proofs.Tests.{or_left, or_right, or_case, and_both, and_parts, some_in, some_out, listed, less_or}
use Rattle.definitions.proofs.Counts.{count-full, no_larger}

-- ---- one growth
module _ (n : ℕ) (edge : ℕ → ℕ → Bool) (s : ℕ → Bool) where
  grown-keeps : (b : ℕ) → s b ≡ true → grown n edge s b ≡ true
  unfolding grown
  grown-keeps b h = or_left (s b) (some n (λ t. edge b t && s t)) h

  grown-by : (b t : ℕ) → t < n → edge b t ≡ true → s t ≡ true → grown n edge s b ≡ true
  unfolding grown
  grown-by b t l e h = or_right (s b) _ (some_in n t (λ t. edge b t && s t) l (and_both (edge b t) (s t) e h))

  -- what a growth adds is the start of an edge that ends in the set
  pub grown_case : (b : ℕ) → grown n edge s b ≡ true → (s b ≡ true) ⊎ ((t : ℕ) × (t < n) × (edge b t ≡ true) × (s t ≡ true))
  unfolding grown
  grown_case b h =
      ⊎_elim
      (λ p. inl p)
      (λ p. let r = some_out n (λ t. edge b t && s t) p in let q = and_parts (edge b r.0) (s r.0) r.2 in inr (r.0, r.1, q.0, q.1))
      (or_case (s b) (some n (λ t. edge b t && s t)) h)

pub grown_mono : (n : ℕ) (edge : ℕ → ℕ → Bool) (s u : ℕ → Bool) → Within n s u → Within n (grown n edge s) (grown n edge u)
grown_mono n edge s u w b h p =
    ⊎_elim
    (λ q. grown-keeps n edge u b (w b h q))
    (λ r. grown-by n edge u b r.0 r.1 r.2 (w r.0 r.1 r.3))
    (grown_case n edge s b p)

-- a set to which a growth adds nothing
abbrev pub Still : ℕ → (ℕ → ℕ → Bool) → (ℕ → Bool) → Type 0
Still n edge s = Within n (grown n edge s) s

-- ---- n growths
module _ (n : ℕ) (seed : ℕ → Bool) (edge : ℕ → ℕ → Bool) where
  -- the set after k growths
  abbrev after : ℕ → ℕ → Bool
  after k = among (growths k n seed edge)

  after_none : (b : ℕ) → b < n → after 0 b ≡ seed b
  unfolding growths
  after_none b h = listed n b seed h

  after_more : (k b : ℕ) → b < n → after (suc k) b ≡ grown n edge (after k) b
  unfolding growths
  after_more k b h = listed n b (grown n edge (after k)) h

  grows : (k : ℕ) → Within n (after k) (after (suc k))
  grows k b h p = after_more k b h ∙ grown-keeps n edge (after k) b p

  seeded : (k : ℕ) → Within n seed (after k)
  seeded zero b h p = after_none b h ∙ p
  seeded (suc k) b h p = grows k b h (seeded k b h p)

  -- a growth that added nothing is followed by growths that add nothing
  stays : (k : ℕ) → Within n (after (suc k)) (after k) → Still n edge (after (suc k))
  stays k w b h p = after_more k b h ∙ grown_mono n edge (after (suc k)) (after k) w b h p

  -- each growth adds a number, or the set stands still
  filling : (k : ℕ) → (k ≤ count_to n (after k)) ⊎ Still n edge (after k)
  filling zero = inl (omega arith)
  filling (suc k) = ⊎_elim full (λ w. inr (stays k (λ b h p. w b h (sym (after_more k b h) ∙ p)))) (filling k)
    where
      full : k ≤ count_to n (after k) → (suc k ≤ count_to n (after (suc k))) ⊎ Still n edge (after (suc k))
      full c =
          ⊎_elim
          (λ l. inl (omega arith))
          (λ l. inr (stays k (no_larger n (after k) (after (suc k)) (grows k) l)))
          (less_or (count_to n (after k)) (count_to n (after (suc k))))

  -- what holds of the seed and goes back along edges holds of the set
  module _ (P : ℕ → Type 0) (holds : (b : ℕ) → b < n → seed b ≡ true → P b) (back : (b t : ℕ) → b < n → t < n → edge b t ≡ true → P t → P b) where
    inside : (k b : ℕ) → b < n → after k b ≡ true → P b
    inside zero b h p = holds b h (sym (after_none b h) ∙ p)
    inside (suc k) b h p =
        ⊎_elim
        (λ q. inside k b h q)
        (λ r. back b r.0 h r.1 r.2 (inside k r.0 r.1 r.3))
        (grown_case n edge (after k) b (sym (after_more k b h) ∙ p))

    pub closure-all : (b : ℕ) → b < n → closure n seed edge b ≡ true → P b
    unfolding closure
    closure-all = inside n

  pub still_closed : (s : ℕ → Bool) → Within n seed s → Still n edge s → Closed n seed edge s
  still_closed s i w = record { holds = i; back = λ b t h l e p. w b h (grown-by n edge s b t l e p) }

  pub closure-smallest : Smallest n seed edge (closure n seed edge)
  unfolding closure
  closure-smallest = record {
    closed = ⊎_elim
        (λ c. record { holds = seeded n; back = λ b t h l e p. count-full n (after n) c b h })
        (λ w. still_closed (after n) (seeded n) w)
        (filling n);
    least = λ u c. inside (λ b. u b ≡ true) c.holds c.back n;
  }
