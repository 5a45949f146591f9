-- An array that a loop writes from the front, one number after the other. Assumes nothing.
use mathlib.Core.Path.{◌≡◌, ◌∙◌}
use mathlib.Core.List.{List}
use Prim.Native.Nat.{ℕ, ◌+◌, ◌<◌}
use native.Mathlib.Omega.{arith}
use borrow.Author.Count.{below_more}
use lib.ListN.{length, get_or, set, length-set}
use lib.Seq.{get_or-set_same, get_or-set_other}

-- after b numbers R holds of what stands at each below b
pub record Held {A : Type 0} (d : A) (size b : ℕ) (R : ℕ → A → Type 0) (new : List A) : Type 0 where
  pub long : length new ≡ size
  pub below : (i : ℕ) → i < b → R i (get_or new i d)

pub held-set : {A : Type 0} (d : A) (size : ℕ) (R : ℕ → A → Type 0) (b : ℕ) (new : List A) (v : A) → b < size → Held d size b R new → R b v
    → Held d size (b + 1) R (set new b v)
held-set d size R b new v h w r = record {
  long = length-set new b v ∙ w.long;
  below = below_more _ b
      (λ i l. let o : i ≡ b → ⊥ = omega arith in rw get_or-set_other (w.below i l))
      (let s : b < length new = omega (arith, w.long) in rw get_or-set_same r);
}

-- the same where f stands there
abbrev pub Written : {A : Type 0} → A → ℕ → ℕ → (ℕ → A) → List A → Type 0
Written d size b f new = Held d size b (λ i x. x ≡ f i) new

module _ {A : Type 0} (d : A) (size : ℕ) (f : ℕ → A) where
  pub written_none : (new : List A) → length new ≡ size → Written d size 0 f new
  written_none new e = record { long = e; below = λ i l. absurd (omega arith) }

  pub written-set : (b : ℕ) (new : List A) (v : A) → b < size → Written d size b f new → v ≡ f b → Written d size (b + 1) f (set new b v)
  written-set = held-set d size (λ i x. x ≡ f i)
