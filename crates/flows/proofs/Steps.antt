-- The loops over the tags: what one tag more says. Assumes nothing.
use Prim.Native.Nat.{ℕ, ◌<◌, ◌≤◌}
use mathlib.Core.Path.{◌≡◌, refl, sym, ap, ◌∙◌}
use mathlib.Core.Bool.{Bool, true, false, false≢true, cond, not, ◌&&◌, ◌||◌}
use mathlib.Core.List.{List, [], ◌∷◌, ◌++◌}
use Rattle.std.specs.List.{list_any}
use lib.Dec.{leb, eqb}
use borrow.Author.Tests.{ne_eqb, le-leb, lt-leb}
use Rattle.flows.specs.Marks.{Mark, carries, mark_of, marks_of, has, reads_first}
use Rattle.flows.proofs.Spans.{either}

-- ---- whether a tag with this operand is among them
module _ (tag x : ℕ) (carried : carries tag ≡ true) where
  itself : (y : ℕ) → mark_of tag y ≡ (tag, y) ∷ []
  unfolding mark_of carries
  itself y = go carried
    where
      P : ℕ → Type 0
      P u = carries u ≡ true → mark_of u y ≡ (u, y) ∷ []

      go : P tag
      go =
          either P tag 0x02 (λ e. refl) λ a.
          either P tag 0x20 (λ e. refl) λ b.
          either P tag 0x30 (λ e. refl) λ c.
          either P tag 0x31 (λ e. refl) λ d.
          λ e. absurd (false≢true (simp (ne_eqb tag 0x02 a, ne_eqb tag 0x20 b, ne_eqb tag 0x30 c, ne_eqb tag 0x31 d) at e))

  has_mark : (t y : ℕ) (ms : List Mark) → has tag x (mark_of t y ++ ms) ≡ (eqb t tag && eqb y x || has tag x ms)
  unfolding has mark_of
  has_mark t y ms = either (λ u. has tag x (mark_of u y ++ ms) ≡ (eqb u tag && eqb y x || has tag x ms)) t tag (rw (itself y)) λ n. rw (ne_eqb t tag n) (go n (eqb t 0x02 || leb 0x20 t))
    where
      go : (t ≡ tag → ⊥) → (b : Bool) → has tag x (cond b ((t, cond (carries t) y 0) ∷ []) [] ++ ms) ≡ has tag x ms
      go n true = rw (ne_eqb t tag n)
      go n false = refl

  pub has-any : (ts : List (ℕ × ℕ)) → list_any (λ m. eqb m.0 tag && eqb m.1 x) ts ≡ has tag x (marks_of ts)
  unfolding has
  has-any [] = refl
  has-any (m ∷ ms) = rw (has_mark m.0 m.1 (marks_of ms), has-any ms)

-- ---- whether variable k is read first
module _ (k : ℕ) where
  or_cond : (b c : Bool) → (b || c) ≡ cond b true c
  or_cond true c = refl
  or_cond false c = refl

  -- a tag at its place: a read, the start of a statement or an ending, or neither
  abbrev At : ℕ → ℕ → Bool → List Mark → Bool
  At t y on ms = cond (eqb t 0x02 && eqb y k) true (cond (leb 0x20 t) (not on && reads_first k (eqb t 0x20 && eqb y k) ms) (reads_first k on ms))

  first_mark : (t y : ℕ) (on : Bool) (ms : List Mark) → reads_first k on (mark_of t y ++ ms) ≡ At t y on ms
  unfolding reads_first mark_of carries
  first_mark t y on ms = either P t 0x02 (or_cond (eqb y k) (reads_first k on ms)) λ n. either P t 0x20 refl λ m. rw (ne_eqb t 0x02 n, ne_eqb t 0x20 m) (go _ m (leb 0x20 t) refl)
    where
      P : ℕ → Type 0
      P u = reads_first k on (mark_of u y ++ ms) ≡ At u y on ms

      go : (x : ℕ) → (t ≡ 0x20 → ⊥) → (b : Bool) → leb 0x20 t ≡ b → reads_first k on (cond b ((t, x) ∷ []) [] ++ ms) ≡ cond b (not on && reads_first k false ms) (reads_first k on ms)
      go x m true e = rw (e, ne_eqb t 0x20 m)
      go x m false e = refl

  -- whether it is, by the tags that are left
  abbrev pub First : Bool → List (ℕ × ℕ) → Bool
  First on ts = reads_first k on (marks_of ts)

  module _ (on whole : Bool) (ts : List (ℕ × ℕ)) (so_far : whole ≡ First on ts) where
    pub first-none : ts ≡ [] → false ≡ whole
    unfolding reads_first
    first-none e = sym (so_far ∙ ap (First on) e)

    module _ (t y : ℕ) (rest : List (ℕ × ℕ)) (more : ts ≡ (t, y) ∷ rest) where
      first : whole ≡ At t y on (marks_of rest)
      first = so_far ∙ ap (First on) more ∙ first_mark t y on (marks_of rest)

      module _ (reads : Bool) (is : reads ≡ (eqb t 0x02 && eqb y k)) where
        pub first-here : reads ≡ true → true ≡ whole
        first-here e = sym (first ∙ rw (← is, e))

        module _ (unread : reads ≡ false) where
          pub first-shielded : 0x20 ≤ t → on ≡ true → false ≡ whole
          first-shielded h e = sym (first ∙ rw (← is, unread, le-leb 0x20 t h, e))

          pub first_part : 0x20 ≤ t → on ≡ false → (sets : Bool) → sets ≡ (eqb t 0x20 && eqb y k) → whole ≡ First sets rest
          first_part h e sets f = first ∙ rw (← is, unread, ← f, le-leb 0x20 t h, e)

          pub first-inside : t < 0x20 → whole ≡ First on rest
          first-inside h = first ∙ rw (← is, unread, lt-leb 0x20 t h)
