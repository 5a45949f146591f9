-- The token of each tag of a range, from a test that is computed over the range.
use Prim.Native.Nat.{ℕ, zero, suc, ◌<◌, ◌≤◌}
use native.Mathlib.Omega.{arith}
use native.Mathlib.Decide.{dec_lt}
use borrow.Author.Tests.{eqb-true, le-ltb, leb-true}
use mathlib.Core.Path.{◌≡◌, refl}
use mathlib.Core.Bool.{Bool, true, false, ◌&&◌, ◌||◌}
use lib.Dec.{eqb, ltb, leb}
use Rattle.evaluators.specs.Skip.{Token, token_of}

both : (a b : Bool) → a && b ≡ true → (a ≡ true) × (b ≡ true)
both true b e = (refl, e)
both false b e = let z : ◌≡◌ {A = ℕ} 0 1 = cc in absurd (omega arith)

-- the test holds of each number below n
abbrev pub all : (ℕ → Bool) → ℕ → Bool
all P zero = true
all P (suc n) = P n && all P n

all-at : (P : ℕ → Bool) (n : ℕ) → all P n ≡ true → (t : ℕ) → t < n → P t ≡ true
all-at P zero e t h = absurd (omega arith)
all-at P (suc n) e t h = go (dec_lt t n) (λ l. all-at P n (both (P n) (all P n) e).1 t l)
  where
    go : Dec (t < n) → (t < n → P t ≡ true) → P t ≡ true
    go (yes l) below = below l
    go (no l) below = let q : t ≡ n = omega arith in rw q (both (P n) (all P n) e).0

-- a part of a token is k for each tag from lo to below hi, those from x to y left out
abbrev pub is : (Token → ℕ) → ℕ → ℕ → ℕ → ℕ → ℕ → Bool
is f k lo x y t = ltb t lo || (leb x t && leb t y || eqb k (f (token_of t)))

pub token-is : (f : Token → ℕ) (k lo hi x y : ℕ) → all (is f k lo x y) hi ≡ true → (t : ℕ) → lo ≤ t → t < hi → (x ≤ t → t ≤ y → ⊥) → k ≡ f (token_of t)
token-is f k lo hi x y e t l h out = go (leb x t && leb t y) refl (rw (le-ltb t lo l) at (all-at (is f k lo x y) hi e t h))
  where
    go : (b : Bool) → leb x t && leb t y ≡ b → b || eqb k (f (token_of t)) ≡ true → k ≡ f (token_of t)
    go true q w = let z = both (leb x t) (leb t y) q in absurd (out (leb-true x t z.0) (leb-true t y z.1))
    go false q w = eqb-true k (f (token_of t)) w
