-- Laws of a write into a list that is laid out in parts, and of reads of a part. Assumes nothing.
use mathlib.Core.Path.{◌≡◌, sym, ap, ◌∙◌}
use Prim.Native.Nat.{ℕ, ◌+◌, ◌-◌, ◌≤◌, ◌<◌}
use native.Mathlib.Omega.{arith}
use mathlib.Core.List.{List, ◌++◌, append_assoc}
use lib.ListN.{length, take, drop, get_or, length-append, length-take, length-drop, take-append-drop}
use lib.Seq.{take-append_seam, drop-append-add, take_at, drop_at, drop-drop, length-take-le, get_or-drop, get_or-take}
use Rattle.buffers.specs.Words.{over}

module _ {A : Type 0} where
  -- ---- writes
  pub over-is : (d : List A) (at : ℕ) (t : List A) (n : ℕ) → at + length t ≡ n → over d at t ≡ take at d ++ (t ++ drop n d)
  unfolding over
  over-is d at t n e = rw e

  -- at a seam
  pub over_seam : (x y t : List A) (n : ℕ) → length x ≡ n → over (x ++ y) n t ≡ x ++ (t ++ drop (length t) y)
  unfolding over
  over_seam x y t n e = rw (← e, take-append_seam, drop-append-add)

  -- a part in the middle, replaced by one as long
  pub over_mid : (x y z t : List A) (n : ℕ) → length x ≡ n → length t ≡ length y → over (x ++ (y ++ z)) n t ≡ x ++ (t ++ z)
  over_mid x y z t n e h = over_seam x (y ++ z) t n e ∙ ap (λ (l : List A). x ++ (t ++ l)) (drop_at y z (length t) (sym h))

  -- what stands up to the end of a write
  pub take_over_all : (d : List A) (at : ℕ) (t : List A) → at ≤ length d → take (at + length t) (over d at t) ≡ take at d ++ t
  unfolding over
  take_over_all d at t h =
      let l : length (take at d ++ t) ≡ at + length t = length-append (take at d) t ∙ omega (arith, length-take-le at d h) in
      rw (← append_assoc (take at d) t (drop (at + length t) d)) (take_at (take at d ++ t) (drop (at + length t) d) (at + length t) l)

  -- ---- reads
  pub part_mid : (x y z : List A) (a n : ℕ) → length x ≡ a → length y ≡ n → take n (drop a (x ++ (y ++ z))) ≡ y
  part_mid x y z a n e h = rw (drop_at x (y ++ z) a e) (take_at y z n h)

  pub part_get : (d x : List A) (a n i : ℕ) (z : A) → take n (drop a d) ≡ x → i < n → get_or d (a + i) z ≡ get_or x i z
  part_get d x a n i z e h = sym (get_or-drop a d i z) ∙ sym (get_or-take n (drop a d) i z h) ∙ ap (λ (y : List A). get_or y i z) e

  pub part-fits : (d x : List A) (a n : ℕ) → take n (drop a d) ≡ x → length x ≡ n → 0 < n → a + n ≤ length d
  part-fits d x a n e h k = omega (arith, simp (length-take, length-drop) at (ap length e))

  -- a part of a part
  pub part-part : (d x y z : List A) (a n i m : ℕ) → take n (drop a d) ≡ x ++ (y ++ z) → length x ≡ i → length y ≡ m → take m (drop (a + i) d) ≡ y
  part-part d x y z a n i m e hx hy =
      let r : List A = drop n (drop a d) in
      let w : drop a d ≡ x ++ (y ++ (z ++ r)) =
      sym (take-append-drop n (drop a d)) ∙ ap (λ (l : List A). l ++ r) e ∙ append_assoc x (y ++ z) r ∙ ap (λ (l : List A). x ++ l) (append_assoc y z r) in
      ap (take m) (sym (drop-drop i a d) ∙ ap (drop i) w) ∙ part_mid x y (z ++ r) i m hx hy

  -- what is equal from a on is equal from n on
  pub drop_later : (a n : ℕ) (d d' : List A) → a ≤ n → drop a d ≡ drop a d' → drop n d ≡ drop n d'
  drop_later a n d d' h e =
      let m : a + (n - a) ≡ n = omega arith in
      ap (λ (k : ℕ). drop k d) (sym m) ∙ sym (drop-drop (n - a) a d) ∙ ap (drop (n - a)) e ∙ drop-drop (n - a) a d' ∙ ap (λ (k : ℕ). drop k d') m
