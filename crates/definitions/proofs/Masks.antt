-- A mask below 2 ^ v holds what the set holds below v: bit k is variable k. Assumes nothing.
use mathlib.Core.Path.{◌≡◌, refl, sym, ap, ◌∙◌}
use mathlib.Core.Bool.{Bool, true, false, cond}
use mathlib.Core.Logic.{⊎_elim}
use Prim.Native.Nat.{ℕ, zero, suc, ◌+◌, ◌-◌, ◌*◌, ◌/◌, ◌%◌, ◌^◌, ◌≤◌, ◌<◌}
use native.Mathlib.Nat.{not-suc-le-zero, pow-suc, add_comm}
use native.Mathlib.Omega.{arith}
use lib.Dec.{eqb}
use lib.Pow.{high, low, field, mod-mod-pow}
use Rattle.definitions.specs.Plan.{mask_of, bit_of}
use Rattle.definitions.specs.Batch.{count_to}
use Rattle.definitions.proofs.Tests.{last_or}
use Rattle.definitions.proofs.Counts.{count_same}

-- bit k as a number: `bit_of` asks whether it is 1
abbrev bit : ℕ → ℕ → ℕ
bit m k = m / 2 ^ k % 2

-- ---- how large it is
cond_le : (x : Bool) (p : ℕ) → cond x p 0 ≤ p
cond_le true p = omega arith
cond_le false p = omega arith

pub mask_lt : (v : ℕ) (f : ℕ → Bool) → mask_of v f < 2 ^ v
unfolding mask_of
mask_lt zero f = omega arith
mask_lt (suc v) f = rw pow-suc (omega (arith, mask_lt v f, cond_le (f v) (2 ^ v)))

-- ---- it is read back
times_one : (x : Bool) (p : ℕ) → cond x p 0 ≡ cond x 1 0 * p
times_one true p = omega arith
times_one false p = omega arith

one-two : (x : Bool) → cond x 1 0 % 2 ≡ cond x 1 0
one-two true = refl
one-two false = refl

is_one : (x : Bool) → eqb (cond x 1 0) 1 ≡ x
is_one true = refl
is_one false = refl

-- the last variable stands above the rest
above : (v : ℕ) (f : ℕ → Bool) → mask_of (suc v) f ≡ cond (f v) 1 0 * 2 ^ v + mask_of v f
unfolding mask_of
above v f = ap (λ (x : ℕ). mask_of v f + x) (times_one (f v) (2 ^ v)) ∙ add_comm (mask_of v f) (cond (f v) 1 0 * 2 ^ v)

-- what stands above 2 ^ v leaves the bits below v as they are
bit-low : (n v k : ℕ) → k < v → bit (n % 2 ^ v) k ≡ bit n k
bit-low n v k l =
    let e : v - (k + 1) + 1 + k ≡ v = omega arith in
    rw e at (go (v - (k + 1)))
  where
    go : (j : ℕ) → bit (n % 2 ^ (j + 1 + k)) k ≡ bit n k
    go j = ap (λ (x : ℕ). x % 2) (field n (j + 1) k) ∙ mod-mod-pow (n / 2 ^ k) j 1

mask-bit : (v : ℕ) (f : ℕ → Bool) (k : ℕ) → k < v → bit (mask_of v f) k ≡ cond (f k) 1 0
mask-bit zero f k h = absurd (not-suc-le-zero h)
mask-bit (suc v) f k h = ⊎_elim top (λ l. lower l (mask-bit v f k l)) (last_or h)
  where
    top : k ≡ v → bit (mask_of (suc v) f) k ≡ cond (f k) 1 0
    top e = rw (e, above v f, high (cond (f v) 1 0) v (mask_lt v f)) (one-two (f v))

    rest : mask_of (suc v) f % 2 ^ v ≡ mask_of v f
    rest = rw (above v f) (low (cond (f v) 1 0) v (mask_lt v f))

    lower : k < v → bit (mask_of v f) k ≡ cond (f k) 1 0 → bit (mask_of (suc v) f) k ≡ cond (f k) 1 0
    lower l ih = sym (bit-low (mask_of (suc v) f) v k l) ∙ ap (λ (m : ℕ). bit m k) rest ∙ ih

-- bit k of the mask says whether the set holds k
pub read_back : (v : ℕ) (f : ℕ → Bool) (k : ℕ) → k < v → bit_of (mask_of v f) k ≡ f k
read_back v f k h = rw (mask-bit v f k h) (is_one (f k))

-- the number of ones below bit k is a column's place
pub mask-count : (v : ℕ) (f : ℕ → Bool) (k : ℕ) → k ≤ v → count_to k (bit_of (mask_of v f)) ≡ count_to k f
mask-count v f k h = count_same k _ _ (λ j l. read_back v f j (omega arith))
