-- Laws of writes into a list, at any element type. Assumes nothing.
--     over-set                          a store is a write of one element
--     over-next, over_pair              writes one right after the other are one write
--     over-start                        a write from the start on
--     length_over, take-over, drop-over what lies before and beyond a write stays
--     paste-all                         a copy element by element is one write
--     over_mid                          a write to a part, by the library, is one write
use mathlib.Core.Path.{◌≡◌, refl, sym, ap, ◌∙◌}
use Prim.Native.Nat.{ℕ, ◌+◌, ◌-◌, ◌≤◌, ◌<◌}
use native.Mathlib.Nat.{zero-add}
use native.Mathlib.Omega.{arith}
use native.Mathlib.Numerals.{add-one}
use mathlib.Core.List.{List, [], ◌∷◌, ◌++◌, append_assoc}
use lib.ListN.{length, take, drop, set, length-append, length-drop}
use lib.Seq.{paste, take-length, take_at, drop_at, drop-drop, set_split, length-take-le}
use borrow.Rule.Slice.PartMut.{put_mid}
use Rattle.buffers.specs.Words.{over}

module _ {A : Type 0} where
  pub length_over : (d : List A) (at : ℕ) (s : List A) → at + length s ≤ length d → length (over d at s) ≡ length d
  unfolding over
  length_over d at s h = simp (length-append, length-drop) (omega (arith, length-take-le at d (omega arith)))

  -- what lies beyond a write
  pub drop-over : (d : List A) (at : ℕ) (s : List A) (n : ℕ) → at + length s ≤ n → at ≤ length d → drop n (over d at s) ≡ drop n d
  unfolding over
  drop-over d at s n h l =
      let p : List A = take at d ++ s in
      let m = at + length s in
      let lp : length p ≡ m = length-append (take at d) s ∙ omega (arith, length-take-le at d l) in
      let w : over d at s ≡ p ++ drop m d = sym (append_assoc (take at d) s (drop m d)) in
      let e : n ≡ m + (n - m) = omega arith in
      rw (e, ← drop-drop (n - m) m (over d at s), w, drop_at p (drop m d) m lp) (drop-drop (n - m) m d)

  pub over-start : (d s : List A) → over d 0 s ≡ s ++ drop (length s) d
  unfolding over
  over-start d s = rw (zero-add (length s))

  pub over-set : (d : List A) (i : ℕ) (v : A) → i < length d → set d i v ≡ over d i (v ∷ [])
  unfolding over
  over-set d i v h = set_split d i v h ∙ rw (← add-one i)

  pub over-next : (d : List A) (at : ℕ) (s : List A) (n : ℕ) (t : List A) → n ≡ at + length s → at + length s ≤ length d
      → over (over d at s) n t ≡ over d at (s ++ t)
  unfolding over
  over-next d at s n t e h =
      let p : List A = take at d ++ s in
      let lp : length p ≡ n = length-append (take at d) s ∙ omega (arith, length-take-le at d (omega arith)) in
      let w : over d at s ≡ p ++ drop n d = rw e (sym (append_assoc (take at d) s (drop (at + length s) d))) in
      let tk : take n (over d at s) ≡ p = rw w (take_at p (drop n d) n lp) in
      let em : n + length t ≡ at + length (s ++ t) = omega (arith, length-append s t) in
      let dr : drop (n + length t) (over d at s) ≡ drop (at + length (s ++ t)) d =
      drop-over d at s (n + length t) (omega arith) (omega arith) ∙ ap (λ (m : ℕ). drop m d) em in
      rw (tk, dr) (append_assoc (take at d) s (t ++ drop (at + length (s ++ t)) d) ∙ ap (λ (l : List A). take at d ++ l) (sym (append_assoc s t (drop (at + length (s ++ t)) d))))

  -- two stores in a row
  pub over_pair : (d : List A) (at : ℕ) (a b : A) → at + 2 ≤ length d → set (set d at a) (at + 1) b ≡ over d at (a ∷ b ∷ [])
  over_pair d at a b h =
      let l = length_over d at (a ∷ []) (omega arith) in
      rw (over-set d at a (omega arith)) (over-set (over d at (a ∷ [])) (at + 1) b (omega (arith, l)) ∙ over-next d at (a ∷ []) (at + 1) (b ∷ []) refl (omega arith))

  -- a copy, element by element, that has come to its end
  pub paste-all : (d : List A) (at : ℕ) (s : List A) {i : ℕ} → i ≡ length s → paste d at s i ≡ over d at s
  unfolding over
  paste-all d at s e = rw (e, take-length, append_assoc)

  -- a write to the part of k elements from index at on, by the library
  pub over_mid : (d : List A) (at k : ℕ) (t s : List A) → t ≡ s → k ≡ length s → put_mid at k d t ≡ over d at s
  unfolding over
  over_mid d at k t s w e = rw (drop-drop k at d, w, e)
