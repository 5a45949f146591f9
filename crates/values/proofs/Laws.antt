-- Laws of the integers that the proofs share: which exact results fit a width, and what a result in range settles to.
use mathlib.Core.Path.{◌≡◌, refl, sym, ap, ◌∙◌}
use mathlib.Core.Bool.{Bool, true, false, cond, ◌||◌}
use Prim.Native.Nat.{ℕ, zero, suc, ◌+◌, ◌-◌, ◌*◌, ◌/◌, ◌≤◌, ◌<◌}
use native.Mathlib.Nat.{mul-zero, div-le_self, div-one, div-le_of_le-mul, mod-add-div}
use native.Mathlib.Omega.{arith}
use mathlib.Core.Logic.{◌⊎◌, inl, inr}
use lib.IntN.{ℤ, pos, negsuc, neg_ℤ, ◌-ℤ◌, ◌*ℤ◌, neg_ℤ-+ℤ}
use lib.Signed.{mag, lt_z, quot_z, rem_z, mag_rem}
use mir.Syntax.{w32}
use mir.Val.{SFits, of_z, to_z}
use mir.Facts.{to_z-of_z}
use mir.ValLaws.{sfits_le}
use borrow.Author.Tests.{ltb-false, lt-ltb, le-ltb, ne_eqb}
use Rattle.definitions.specs.Values.{Out, value, fault, outcome_of, settled, divided, lowest, highest}
use Rattle.definitions.specs.Grammar.{twos}
use Rattle.definitions.specs.declared.Kind.{Kind}
use Rattle.definitions.specs.declared.Kind.TheVariants.{ZeroDivisor, OutOfRange}
use Rattle.std.specs.Prelude.{Option, Some, None, Result, ok_or}
use Rattle.std.specs.Option.{SomeIff}

-- ---- what a number settles to
in_range : (z : ℤ) → lt_z z lowest ≡ false → lt_z highest z ≡ false → SFits w32 z
in_range (pos n) p q = omega (arith, ltb-false 2147483647 n q)
in_range (negsuc n) p q = omega (arith, ltb-false 2147483647 n p)

pub settled-fits : {z : ℤ} → SFits w32 z → settled z ≡ value z
unfolding settled
settled-fits {z = pos n} f = simp (le-ltb 2147483647 n (omega arith))
settled-fits {z = negsuc n} f = simp (le-ltb 2147483647 n (omega arith))

settled-out : {z : ℤ} → (SFits w32 z → ⊥) → settled z ≡ fault OutOfRange
unfolding settled
settled-out {z} h = go (lt_z z lowest) (lt_z highest z) refl refl
  where
    go : (s t : Bool) → lt_z z lowest ≡ s → lt_z highest z ≡ t → cond (s || t) (fault OutOfRange) (value z) ≡ fault OutOfRange
    go true t p q = refl
    go false true p q = refl
    go false false p q = absurd (h (in_range z p q))

-- an operator of the library that gives what is in range, and else `None`
pub settles : (z : ℤ) (o : Option ℤ) {r : Result ℤ Kind} → SomeIff o (SFits w32 z) z → r ≡ ok_or o OutOfRange → r ≡ outcome_of (settled z)
settles z (Some x) h e = rw (e, h.1) (ap outcome_of (sym (settled-fits h.0)))
settles z None h e = rw e (ap outcome_of (sym (settled-out h)))

-- ---- quotient and remainder
pub by_zero : {y : ℤ} (o : Out Kind ℤ) → SFits w32 y → of_z w32 y ≡ 0 → divided y o ≡ fault ZeroDivisor
by_zero {y} o f e = rw (sym (to_z-of_z f) ∙ ap (to_z w32) e)

pub by-other : (y : ℤ) {o : Out Kind ℤ} → (of_z w32 y ≡ 0 → ⊥) → divided y o ≡ o
by-other (pos n) h = rw (ne_eqb n 0 h)
by-other (negsuc n) h = rw (ne_eqb (suc n) 0 (λ e. omega arith))

-- the number that has the bits n
pub named : {z : ℤ} {n : ℕ} → SFits w32 z → of_z w32 z ≡ n → z ≡ to_z w32 n
named f e = sym (to_z-of_z f) ∙ ap (to_z w32) e

mag_neg : (q : ℕ) → mag (neg_ℤ (pos q)) ≤ q - 1
mag_neg zero = omega arith
mag_neg (suc q) = omega arith

-- outside the corner: what the two tests say where not both hold
pub outside : {A B : Type 0} → (A × (B → ⊥)) ⊎ (A → ⊥) → A → B → ⊥
outside (inl p) a b = p.1 b
outside (inr q) a b = q a

-- a quotient fits there
pub quotient_fits : (x y : ℤ) → SFits w32 x → (of_z w32 x ≡ 2147483648 → of_z w32 y ≡ 4294967295 → ⊥) → SFits w32 (quot_z x y)
quotient_fits (pos a) (pos b) f h = omega (arith, div-le_self a b)
quotient_fits (pos a) (negsuc b) f h = omega (arith, mag_neg (a / suc b), div-le_self a (suc b))
quotient_fits (negsuc a) (pos b) f h = omega (arith, mag_neg (suc a / b), div-le_self (suc a) b)
quotient_fits (negsuc a) (negsuc zero) f h =
    let k : a ≡ 2147483647 → ⊥ = λ e. h (omega arith) refl in
    omega (arith, div-one (suc a))
quotient_fits (negsuc a) (negsuc (suc b)) f h = omega (arith, div-le_of_le-mul (suc (suc b)) {m = suc a} {n = 1073741824} (omega arith))

less : (a n r : ℕ) → r + n ≡ a → pos a -ℤ pos n ≡ pos r
less a zero r e = ap pos (omega arith)
less a (suc n) r e = rw (le-ltb a (suc n) (omega arith)) (ap pos (omega arith))

more : (a n r : ℕ) → r + n ≡ suc a → negsuc a -ℤ neg_ℤ (pos n) ≡ neg_ℤ (pos r)
more a n r e = sym (neg_ℤ-+ℤ (pos (suc a)) (neg_ℤ (pos n))) ∙ ap neg_ℤ (less (suc a) n r e)

times_neg : (b q : ℕ) → pos b *ℤ neg_ℤ (pos q) ≡ neg_ℤ (pos (b * q))
times_neg b zero = rw mul-zero
times_neg b (suc q) = refl

neg_times_neg : (b q : ℕ) → negsuc b *ℤ neg_ℤ (pos q) ≡ pos (suc b * q)
neg_times_neg b zero = rw mul-zero
neg_times_neg b (suc q) = refl

-- x minus y times the quotient is the remainder with the sign of x
pub remainder_law : (x y : ℤ) → x -ℤ y *ℤ quot_z x y ≡ rem_z x y
remainder_law (pos a) (pos b) = less a _ _ (mod-add-div a b)
remainder_law (pos a) (negsuc b) = rw neg_times_neg (less a _ _ (mod-add-div a (suc b)))
remainder_law (negsuc a) (pos b) = rw times_neg (more a _ _ (mod-add-div (suc a) b))
remainder_law (negsuc a) (negsuc b) = more a _ _ (mod-add-div (suc a) (suc b))

pub remainder-fits : (x y : ℤ) → SFits w32 x → SFits w32 (rem_z x y)
remainder-fits x y f = sfits_le (mag_rem x y) f

-- ---- two's complement
pub twos_is : (n : ℕ) → n < 4294967296 → to_z w32 n ≡ twos n
unfolding twos
twos_is n h = simp (lt-ltb n 4294967296 h)
