-- What is known of a reading that finds something: of each of its parts.
use Prim.Native.Nat.{ℕ, ◌+◌, ◌<◌, ◌≤◌}
use native.Mathlib.Omega.{arith}
use borrow.Author.Tests.{ltb-true, leb-true}
use mathlib.Core.Path.{◌≡◌, refl}
use mathlib.Core.Bool.{Bool, true, false, cond}
use mathlib.Core.List.{List}
use lib.Dec.{ltb, leb}
use lib.IntN.{ℤ}
use lib.ListN.{length, get_or}
use Rattle.definitions.specs.Grammar.{Got, got, refused, then, byte_at, one, two, constant_in, constant_at, below_at, variable_at, target_at}
use Rattle.definitions.specs.declared.Reason.{Reason}
use Rattle.definitions.specs.declared.Reason.TheVariants.{BadVariable, BadTarget, EndsEarly}

-- a refusal finds nothing
pub no_got : {A : Type 0} (k : Reason) (p : ℕ) (a : A) (n : ℕ) → refused k p ≡ got a n → ⊥
no_got k p a n e = let z : ◌≡◌ {A = ℕ} 0 1 = cc in omega arith

-- what is found after something else
pub then-got : {A B : Type 0} (g : Got A) (f : A → ℕ → Got B) (b : B) (m : ℕ) → then g f ≡ got b m → (a : A) × (n : ℕ) × (g ≡ got a n) × (f a n ≡ got b m)
then-got (got a n) f b m e = (a, n, refl, e)
then-got (refused k p) f b m e = absurd (no_got k p b m e)

-- one thing, and two, one after the other
pub one-got : {A B : Type 0} (make : A → B) (E : ℕ → Got A) (at : ℕ) (b : B) (m : ℕ) → one make E at ≡ got b m → (a : A) × (E at ≡ got a m) × (b ≡ make a)
one-got make E at b m e =
    let w = then-got (E at) (λ a n. got (make a) n) b m e in
    let q = w.3 in
    let same : w.1 ≡ m = cc in
    (w.0, rw same at w.2, cc)

pub two-got : {A B : Type 0} (make : A → A → B) (E : ℕ → Got A) (at : ℕ) (c : B) (m : ℕ) → two make E at ≡ got c m → (a : A) × (n : ℕ) × (b : A) × (E at ≡ got a n) × (E n ≡ got b m) × (c ≡ make a b)
two-got make E at c m e =
    let w = then-got (E at) (λ a n. then (E n) (λ b m. got (make a b) m)) c m e in
    let u = one-got (make w.0) E w.1 c m w.3 in
    (w.0, w.1, u.0, w.2, u.1, u.2)

-- what is found only where a test holds
if_got : {A : Type 0} (t : Bool) (x : A) (m : ℕ) (k : Reason) (p : ℕ) (a : A) (n : ℕ) → cond t (got x m) (refused k p) ≡ got a n → (t ≡ true) × (a ≡ x) × (n ≡ m)
if_got true x m k p a n e = (refl, cc, cc)
if_got false x m k p a n e = absurd (no_got k p a n e)

-- a byte is there
pub byte-got : {B : Type 0} (s : List ℕ) (at : ℕ) (f : ℕ → ℕ → Got B) (b : B) (m : ℕ) → then (byte_at s at) f ≡ got b m → (at < length s) × (f (get_or s at 0) (at + 1) ≡ got b m)
byte-got s at f b m e = go (ltb at (length s)) refl e
  where
    go : (t : Bool) → ltb at (length s) ≡ t → then (cond t (got (get_or s at 0) (at + 1)) (refused EndsEarly (length s))) f ≡ got b m → (at < length s) × (f (get_or s at 0) (at + 1) ≡ got b m)
    go true q e = (ltb-true at (length s) q, e)
    go false q e = absurd (no_got EndsEarly (length s) b m e)

-- the bytes that follow a tag
module _ (s : List ℕ) (at : ℕ) where
  pub constant-got : (z : ℤ) (n : ℕ) → constant_at s at ≡ got z n → (at + 4 ≤ length s) × (z ≡ constant_in s at) × (n ≡ at + 4)
  constant-got z n e = let w = if_got (leb (at + 4) (length s)) (constant_in s at) (at + 4) EndsEarly (length s) z n e in (leb-true (at + 4) (length s) w.0, w.1, w.2)

  below-got : (high : ℕ) (why : Reason) (k n : ℕ) → below_at high why s at ≡ got k n → (at < length s) × (get_or s at 0 < high) × (k ≡ get_or s at 0) × (n ≡ at + 1)
  below-got high why k n e =
      let b = byte-got s at (λ k n. cond (ltb k high) (got k n) (refused why at)) k n e in
      let w = if_got (ltb (get_or s at 0) high) (get_or s at 0) (at + 1) why at k n b.1 in
      (b.0, ltb-true (get_or s at 0) high w.0, w.1, w.2)

  pub variable_got : (v k n : ℕ) → variable_at v s at ≡ got k n → (at < length s) × (get_or s at 0 < v) × (k ≡ get_or s at 0) × (n ≡ at + 1)
  variable_got v = below-got v BadVariable

  pub target_got : (blocks k n : ℕ) → target_at blocks s at ≡ got k n → (at < length s) × (get_or s at 0 < blocks) × (k ≡ get_or s at 0) × (n ≡ at + 1)
  target_got blocks = below-got blocks BadTarget
