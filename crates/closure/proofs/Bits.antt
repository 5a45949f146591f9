-- Masks as the loops make them, one variable more at a time, and the ones below a bit. Assumes nothing.
use mathlib.Core.Path.{◌≡◌, refl, ap, ap₂, ◌∙◌}
use mathlib.Core.Bool.{Bool, cond}
use Prim.Native.Nat.{ℕ, zero, suc, ◌+◌, ◌*◌, ◌/◌, ◌%◌, ◌^◌, ◌≤◌, ◌<◌}
use native.Mathlib.Nat.{pow-suc, one-mul, mul_comm, add_comm, mod-lt, mod-one}
use native.Mathlib.Numerals.{add-one}
use native.Mathlib.Omega.{arith}
use lib.Arith.{mod-mul}
use lib.Count.{ones, ones_cat}
use lib.Dec.{eqb, lit<}
use lib.Pow.{pow_mono, pow_pos, shl_exact}
use Rattle.definitions.specs.Plan.{mask_of, bit_of}
use Rattle.definitions.specs.Batch.{count_to}
use Rattle.definitions.proofs.Masks.{mask_lt}

-- ---- a mask
pub mask-none : (f : ℕ → Bool) → 0 ≡ mask_of 0 f
unfolding mask_of
mask-none f = refl

-- what `1 << k` is in w bits
pub power : (w k : ℕ) → k < w → 1 * 2 ^ k % 2 ^ w ≡ 2 ^ k
power w k h = shl_exact {a = 1} 1 k w (lit< tt) (omega arith) ∙ one-mul (2 ^ k)

pub mask-more : (k : ℕ) (f : ℕ → Bool) (old new : ℕ) (x : Bool) → k < 16 → old ≡ mask_of k f → x ≡ f k → new ≡ old + cond x (1 * 2 ^ k % 65536) 0 → new ≡ mask_of (k + 1) f
unfolding mask_of
mask-more k f old new x l m h n = rw (add-one, n, power 16 k l, m, h)

-- below 16 there is room for it
pub mask-room : (k : ℕ) (f : ℕ → Bool) (old : ℕ) → k < 16 → old ≡ mask_of k f → old + 1 * 2 ^ k % 65536 < 65536
mask-room k f old h m =
    let p : 2 ^ suc k ≤ 65536 = pow_mono h in
    rw (power 16 k h) (omega (arith, rw pow-suc at p, mask_lt k f))

-- ---- the ones below bit k
one-digit : (x : ℕ) → x < 2 → ones x ≡ cond (eqb x 1) 1 0
unfolding ones
one-digit zero h = refl
one-digit (suc zero) h = refl
one-digit (suc (suc x)) h = absurd (omega arith)

-- the lower k bits of n have as many ones as n has bits below k
pub ones_below : (n k : ℕ) → ones (n % 2 ^ k) ≡ count_to k (bit_of n)
unfolding count_to ones
ones_below n zero = ap ones (mod-one n)
ones_below n (suc k) =
    ap (λ (p : ℕ). ones (n % p)) (pow-suc 2 k ∙ mul_comm (2 ^ k) 2)
    ∙ ap ones (mod-mul n (lit< tt) (pow_pos k))
    ∙ ones_cat k (n / 2 ^ k % 2) (n % 2 ^ k) (mod-lt n (pow_pos k))
    ∙ add_comm (ones (n / 2 ^ k % 2)) (ones (n % 2 ^ k))
    ∙ ap₂ (λ (x y : ℕ). x + y) (ones_below n k) (one-digit (n / 2 ^ k % 2) (mod-lt (n / 2 ^ k) (lit< tt)))
