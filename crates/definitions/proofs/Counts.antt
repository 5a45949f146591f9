-- How many numbers below n a set holds, and that a line has so many columns. Assumes nothing.
use mathlib.Core.Path.{◌≡◌, refl}
use mathlib.Core.Bool.{Bool, true, false, cond, false≢true}
use mathlib.Core.List.{List, [], ◌∷◌}
use mathlib.Core.Logic.{⊎_elim}
use Prim.Native.Nat.{ℕ, zero, suc, ◌≤◌, ◌<◌}
use native.Mathlib.Nat.{not-suc-le-zero}
use native.Mathlib.Omega.{arith}
use lib.ListN.{length, length-append}
use Rattle.definitions.specs.Values.{Val}
use Rattle.definitions.specs.Smallest.{Within}
use Rattle.definitions.specs.Batch.{count_to, columns_of}
use Rattle.definitions.proofs.Tests.{last_or}

-- ---- a test as 1 or 0
one_le : (x : Bool) → cond x 1 0 ≤ 1
one_le true = omega arith
one_le false = omega arith

one_mono : (x y : Bool) → (x ≡ true → y ≡ true) → cond x 1 0 ≤ cond y 1 0
one_mono true true f = omega arith
one_mono true false f = absurd (false≢true (f refl))
one_mono false y f = omega arith

one_less : (x y : Bool) → x ≡ false → y ≡ true → cond x 1 0 < cond y 1 0
one_less x y p q = rw (p, q) (omega arith)

one-full : (x : Bool) → 1 ≤ cond x 1 0 → x ≡ true
one-full true h = refl
one-full false h = absurd (omega arith)

-- ---- the count
fewer : {n : ℕ} {s u : ℕ → Bool} → Within (suc n) s u → Within n s u
fewer w b h = w b (omega arith)

pub count_le : (n : ℕ) (s : ℕ → Bool) → count_to n s ≤ n
unfolding count_to
count_le zero s = omega arith
count_le (suc n) s = omega (arith, count_le n s, one_le (s n))

pub count_same : (n : ℕ) (s u : ℕ → Bool) → ((b : ℕ) → b < n → s b ≡ u b) → count_to n s ≡ count_to n u
unfolding count_to
count_same zero s u e = refl
count_same (suc n) s u e = rw (count_same n s u (λ b h. e b (omega arith)), e n (omega arith))

pub count_mono : (n : ℕ) (s u : ℕ → Bool) → Within n s u → count_to n s ≤ count_to n u
unfolding count_to
count_mono zero s u w = omega arith
count_mono (suc n) s u w = omega (arith, count_mono n s u (fewer w), one_mono (s n) (u n) (w n (omega arith)))

pub count_less : (n : ℕ) (s u : ℕ → Bool) → Within n s u → (b : ℕ) → b < n → s b ≡ false → u b ≡ true → count_to n s < count_to n u
unfolding count_to
count_less zero s u w b h p q = absurd (not-suc-le-zero h)
count_less (suc n) s u w b h p q =
    ⊎_elim
    (λ e. omega (arith, count_mono n s u (fewer w), one_less (s n) (u n) (rw e at p) (rw e at q)))
    (λ l. omega (arith, count_less n s u (fewer w) b l p q, one_mono (s n) (u n) (w n (omega arith))))
    (last_or h)

-- a set as large as n holds every number below n
pub count-full : (n : ℕ) (s : ℕ → Bool) → n ≤ count_to n s → (b : ℕ) → b < n → s b ≡ true
unfolding count_to
count-full zero s c b h = absurd (not-suc-le-zero h)
count-full (suc n) s c b h =
    ⊎_elim
    (λ e. rw e (one-full (s n) (omega (arith, count_le n s))))
    (λ l. count-full n s (omega (arith, one_le (s n))) b l)
    (last_or h)

-- a set within one that is no larger holds as much
pub no_larger : (n : ℕ) (s u : ℕ → Bool) → Within n s u → count_to n u ≤ count_to n s → Within n u s
no_larger n s u w c b h q = go (s b) refl
  where
    go : (x : Bool) → s b ≡ x → s b ≡ true
    go true e = e
    go false e = let l = count_less n s u w b h e q in absurd (omega arith)

-- a column stands before every later one, and below their number
pub count-before : (k n : ℕ) (s : ℕ → Bool) → k < n → s k ≡ true → count_to k s < count_to n s
unfolding count_to
count-before k zero s h p = absurd (not-suc-le-zero h)
count-before k (suc n) s h p = ⊎_elim (λ e. rw (e, rw e at p) (omega arith)) (λ l. omega (arith, count-before k n s l p)) (last_or h)

-- ---- the columns of a line
column_length : (x : Bool) (z : Val) → length (cond x (z ∷ []) []) ≡ cond x 1 0
column_length true z = refl
column_length false z = refl

pub columns-length : (v : ℕ) (f : ℕ → Bool) (vars : List Val) → length (columns_of v f vars) ≡ count_to v f
unfolding columns_of count_to
columns-length zero f vars = refl
columns-length (suc v) f vars = rw (length-append, columns-length v f vars, column_length (f v))
