-- Lists that are written one after the other, bytes that are spelt in others from one place up to another, and a constant's four bytes, both ways. Assumes nothing.
use Prim.Native.Nat.{ℕ, zero, suc, ◌+◌, ◌-◌, ◌*◌, ◌/◌, ◌%◌, ◌<◌}
use native.Mathlib.Nat.{add-zero, zero-add, add-mul-mod_self_left, mod-eq_of_lt, add-mul-div_left, div-eq_of_lt}
use native.Mathlib.Numerals.{add-one}
use native.Mathlib.Omega.{arith}
use mathlib.Core.Path.{◌≡◌, refl, sym, ap, ◌∙◌}
use mathlib.Core.Bool.{Bool, true, false, cond, ◌||◌, or-false}
use mathlib.Core.List.{List, [], ◌∷◌, ◌++◌, append_assoc, append-nil}
use lib.Dec.{ltb}
use lib.IntN.{ℤ, pos, negsuc}
use lib.ListN.{length, get_or, drop, length-append}
use lib.Seq.{drop-cons, drop-length, get_or-append_seam}
use borrow.Author.Tests.{ltb-true, ltb-false, lt-ltb, le-ltb}
use Rattle.definitions.specs.Values.{value, fault, settled}
use Rattle.definitions.specs.declared.Kind.TheVariants.{OutOfRange}
use Rattle.definitions.specs.Grammar.{twos, word_of}
use Rattle.definitions.specs.Spelling.{unsigned, le32, in_turn}
use Rattle.definitions.specs.Limits.{InRange, Every}

-- ---- one after the other
pub every_append : {A : Type 0} (P : A → Type 0) (xs ys : List A) → Every P xs → Every P ys → Every P (xs ++ ys)
unfolding Every
every_append P [] ys h g = g
every_append P (x ∷ xs) ys h g = (h.0, every_append P xs ys h.1 g)

pub every_at : {A : Type 0} (P : A → Type 0) (xs : List A) (i : ℕ) (d : A) → Every P xs → i < length xs → P (get_or xs i d)
unfolding Every
every_at P [] i d h l = absurd (omega arith)
every_at P (x ∷ xs) zero d h l = h.0
every_at P (x ∷ xs) (suc i) d h l = every_at P xs i d h.1 (omega arith)

pub in_turn-append : {A : Type 0} (bytes : A → List ℕ) (xs ys : List A) → in_turn bytes (xs ++ ys) ≡ in_turn bytes xs ++ in_turn bytes ys
unfolding in_turn
in_turn-append bytes [] ys = refl
in_turn-append bytes (x ∷ xs) ys = rw (in_turn-append bytes xs ys) (sym (append_assoc (bytes x) (in_turn bytes xs) (in_turn bytes ys)))

pub in_turn_last : {A : Type 0} (bytes : A → List ℕ) (xs : List A) (x : A) → in_turn bytes (xs ++ (x ∷ [])) ≡ in_turn bytes xs ++ bytes x
unfolding in_turn
in_turn_last bytes xs x = in_turn-append bytes xs (x ∷ []) ∙ ap (λ (ys : List ℕ). in_turn bytes xs ++ ys) (append-nil (bytes x))

-- ---- the bytes xs are spelt in s from `at` up to n
abbrev pub Spelt : List ℕ → ℕ → List ℕ → ℕ → Type 0
Spelt s at [] n = at ≡ n
Spelt s at (x ∷ xs) n = (at < length s) × (get_or s at 0 ≡ x) × Spelt s (at + 1) xs n

module _ (s : List ℕ) where
  pub joined : (xs ys : List ℕ) (at m n : ℕ) → Spelt s at xs m → Spelt s m ys n → Spelt s at (xs ++ ys) n
  joined [] ys at m n h g = rw h g
  joined (x ∷ xs) ys at m n h g = (h.0, h.1, joined xs ys (at + 1) m n h.2 g)

  pub parted : (xs ys : List ℕ) (at n : ℕ) → Spelt s at (xs ++ ys) n → (m : ℕ) × Spelt s at xs m × Spelt s m ys n
  parted [] ys at n h = (at, refl, h)
  parted (x ∷ xs) ys at n h = let p = parted xs ys (at + 1) n h.2 in (p.0, (h.0, h.1, p.1), p.2)

  pub spelt_as : (xs ys : List ℕ) (at n : ℕ) → xs ≡ ys → Spelt s at ys n → Spelt s at xs n
  spelt_as xs ys at n e h = rw e h

  -- what is left of s
  spelt_drop : (xs : List ℕ) (at n : ℕ) → Spelt s at xs n → drop at s ≡ xs ++ drop n s
  spelt_drop [] at n h = rw h
  spelt_drop (x ∷ xs) at n h = drop-cons s at 0 h.0 ∙ rw (h.1, ← add-one at, spelt_drop xs (at + 1) n h.2)

  -- only s is spelt in s from its beginning to its end
  pub spelt_whole : (xs : List ℕ) → Spelt s 0 xs (length s) → s ≡ xs
  spelt_whole xs h = spelt_drop xs 0 (length s) h ∙ rw drop-length (append-nil xs)

-- what stands after others is spelt there, so s is spelt in s
spelt_after : (ps xs : List ℕ) → Spelt (ps ++ xs) (length ps) xs (length ps + length xs)
spelt_after ps [] = sym (add-zero (length ps))
spelt_after ps (x ∷ xs) =
    let e : (ps ++ (x ∷ [])) ++ xs ≡ ps ++ (x ∷ xs) = append_assoc ps (x ∷ []) xs in
    let l : length (ps ++ (x ∷ [])) ≡ length ps + 1 = length-append ps (x ∷ []) in
    let n : length ps + 1 + length xs ≡ length ps + suc (length xs) = omega arith in
    (omega (arith, length-append ps (x ∷ xs)), get_or-append_seam ps x xs 0, rw (e, l, n) at (spelt_after (ps ++ (x ∷ [])) xs))

pub spelt_self : (s : List ℕ) → Spelt s 0 s (length s)
spelt_self s = rw (zero-add (length s)) at (spelt_after [] s)

-- ---- four bytes of a number
pub word_of_lem : (n : ℕ) → word_of (n % 256) (n / 256 % 256) (n / 65536 % 256) (n / 16777216) ≡ n
word_of_lem n = omega arith

low_byte : (a w : ℕ) → a < 256 → (a + 256 * w) % 256 ≡ a
low_byte a w h = add-mul-mod_self_left a 256 w ∙ mod-eq_of_lt h

high-bytes : (a w : ℕ) → a < 256 → (a + 256 * w) / 256 ≡ w
high-bytes a w h = add-mul-div_left a w {y = 256} (omega arith) ∙ ap (λ (k : ℕ). k + w) (div-eq_of_lt h) ∙ omega arith

pub of_word : (a b c d : ℕ) → a < 256 → b < 256 → c < 256 → d < 256 → le32 (word_of a b c d) ≡ a ∷ b ∷ c ∷ d ∷ []
of_word a b c d h i j k =
    let n = word_of a b c d in
    let e : n ≡ a + 256 * (b + 256 * (c + 256 * d)) = omega arith in
    let third : n / 65536 ≡ n / 256 / 256 = omega arith in
    let fourth : n / 16777216 ≡ n / 256 / 256 / 256 = omega arith in
    rw (third, fourth, e, low_byte a (b + 256 * (c + 256 * d)) h, high-bytes a (b + 256 * (c + 256 * d)) h, low_byte b (c + 256 * d) i, high-bytes b (c + 256 * d) i, low_byte c d j, high-bytes c d j)

-- ---- two's complement
-- how far the range reaches, up and down
reach : (n : ℕ) → n < 2147483648 → InRange (pos n) × InRange (negsuc n)
unfolding settled
reach n h = let l = le-ltb 2147483647 n (omega arith) in (rw l, rw l)

-- what the test lets through it found no fault with
let_through : (t : Bool) (z : ℤ) → cond t (fault OutOfRange) (value z) ≡ value z → t ≡ false
let_through true z e = let q : ◌≡◌ {A = ℕ} 0 1 = cc in absurd (omega arith)
let_through false z e = refl

pub reached : (z : ℤ) → InRange z → (unsigned z < 4294967296) × (twos (unsigned z) ≡ z)
unfolding settled twos
reached (pos n) h =
    let l = ltb-false 2147483647 n (let_through (ltb 2147483647 n) (pos n) h) in
    (omega arith, rw (lt-ltb n 2147483648 (omega arith)))
reached (negsuc n) h =
    let l = ltb-false 2147483647 n (rw or-false at (let_through (ltb 2147483647 n || false) (negsuc n) h)) in
    let a = le-ltb (4294967296 - (n + 1)) 2147483648 (omega arith) in
    let b = lt-ltb (4294967296 - (n + 1)) 4294967296 (omega arith) in
    (omega arith, rw (a, b) (ap negsuc (omega arith)))

pub twos-is : (n : ℕ) → n < 4294967296 → (unsigned (twos n) ≡ n) × InRange (twos n)
unfolding twos
twos-is n l = go (ltb n 2147483648) refl
  where
    go : (b : Bool) → ltb n 2147483648 ≡ b → (unsigned (twos n) ≡ n) × InRange (twos n)
    go true e = rw e (refl, (reach n (ltb-true n 2147483648 e)).0)
    go false e =
        let h = ltb-false n 2147483648 e in
        rw (e, lt-ltb n 4294967296 l) (omega arith, (reach (4294967296 - suc n) (omega arith)).1)
