-- Laws of tests: `||`, `&&`, one or the other of two numbers, and a test of every number below n. Assumes nothing.
use mathlib.Core.Path.{◌≡◌, refl, sym, ap, ◌∙◌}
use mathlib.Core.Bool.{Bool, true, false, ◌&&◌, ◌||◌, false≢true}
use mathlib.Core.Logic.{◌⊎◌, inl, inr, ⊎_elim}
use Prim.Native.Nat.{ℕ, zero, suc, ◌+◌, ◌≤◌, ◌<◌}
use native.Mathlib.Nat.{not-suc-le-zero, le_of_suc-le-suc, eq-or-lt_of_le, zero-add, add-zero}
use native.Mathlib.Omega.{arith}
use lib.ListN.{get_or}
use lib.Dec.{ltb}
use borrow.Author.Tests.{ltb-true, ltb-false}
use Rattle.definitions.specs.Columns.{some, from, among}

pub or_left : (x y : Bool) → x ≡ true → (x || y) ≡ true
or_left x y h = rw h

pub or_right : (x y : Bool) → y ≡ true → (x || y) ≡ true
or_right true y h = refl
or_right false y h = h

pub or_case : (x y : Bool) → (x || y) ≡ true → (x ≡ true) ⊎ (y ≡ true)
or_case true y h = inl refl
or_case false y h = inr h

pub and_both : (x y : Bool) → x ≡ true → y ≡ true → (x && y) ≡ true
and_both x y g h = rw (g, h)

pub and_parts : (x y : Bool) → (x && y) ≡ true → (x ≡ true) × (y ≡ true)
and_parts true y h = (refl, h)
and_parts false y h = absurd (false≢true h)

pub clash : {x : Bool} → x ≡ true → x ≡ false → ⊥
clash p q = false≢true (sym q ∙ p)

pub not_so : (x : Bool) → (x ≡ true → ⊥) → x ≡ false
not_so true h = absurd (h refl)
not_so false h = refl

pub must_be : (x : Bool) → (x ≡ false → ⊥) → x ≡ true
must_be true h = refl
must_be false h = absurd (h refl)

pub both_ways : (x y : Bool) → (x ≡ true → y ≡ true) → (y ≡ true → x ≡ true) → x ≡ y
both_ways true y f g = sym (f refl)
both_ways false true f g = g refl
both_ways false false f g = refl

-- ---- numbers
pub less_or : (a b : ℕ) → (a < b) ⊎ (b ≤ a)
less_or a b = go (ltb a b) refl
  where
    go : (x : Bool) → ltb a b ≡ x → (a < b) ⊎ (b ≤ a)
    go true e = inl (ltb-true a b e)
    go false e = inr (ltb-false a b e)

pub neither-less : (a b : ℕ) → (a < b → ⊥) → (b < a → ⊥) → a ≡ b
neither-less a b f g = ⊎_elim (λ h. absurd (f h)) (λ h. ⊎_elim (λ k. absurd (g k)) (λ k. omega arith) (less_or b a)) (less_or a b)

pub same_or : (a b : ℕ) → (a ≡ b) ⊎ (a ≡ b → ⊥)
same_or a b = ⊎_elim (λ h. inr (λ e. omega arith)) (λ h. ⊎_elim (λ k. inr (λ e. omega arith)) (λ k. inl (omega arith)) (less_or b a)) (less_or a b)

pub last_or : {t n : ℕ} → t < suc n → (t ≡ n) ⊎ (t < n)
last_or h = eq-or-lt_of_le (le_of_suc-le-suc h)

-- ---- some number below n passes
pub some_in : (n t : ℕ) (f : ℕ → Bool) → t < n → f t ≡ true → some n f ≡ true
unfolding some
some_in zero t f h p = absurd (not-suc-le-zero h)
some_in (suc n) t f h p =
    ⊎_elim (λ e. or_right (some n f) (f n) (rw e at p)) (λ l. or_left (some n f) (f n) (some_in n t f l p)) (last_or h)

pub some_out : (n : ℕ) (f : ℕ → Bool) → some n f ≡ true → (t : ℕ) × (t < n) × (f t ≡ true)
unfolding some
some_out zero f h = absurd (false≢true h)
some_out (suc n) f h =
    ⊎_elim
    (λ p. let r = some_out n f p in (r.0, omega (arith, r.1), r.2))
    (λ p. (n, omega arith, p))
    (or_case (some n f) (f n) h)

pub some-none : (n : ℕ) (f : ℕ → Bool) → ((t : ℕ) → t < n → f t ≡ false) → some n f ≡ false
some-none n f h = not_so (some n f) (λ p. let r = some_out n f p in clash r.2 (h r.0 r.1))

pub some_same : (n : ℕ) (f g : ℕ → Bool) → ((t : ℕ) → t < n → f t ≡ g t) → some n f ≡ some n g
unfolding some
some_same zero f g h = refl
some_same (suc n) f g h = rw (some_same n f g (λ t l. h t (omega arith)), h n (omega arith))

-- ---- the list of a test's answers
from_at : (n i b : ℕ) (f : ℕ → Bool) → b < n → get_or (from n i f) b false ≡ f (i + b)
unfolding from
from_at zero i b f h = absurd (not-suc-le-zero h)
from_at (suc n) i zero f h = rw add-zero
from_at (suc n) i (suc b) f h = from_at n (suc i) b f (le_of_suc-le-suc h) ∙ ap f (omega arith)

pub listed : (n b : ℕ) (f : ℕ → Bool) → b < n → among (from n 0 f) b ≡ f b
listed n b f h = from_at n 0 b f h ∙ ap f (zero-add b)
