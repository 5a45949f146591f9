-- A row of tags goes on where a part of it ends: what a part holds, joined part by part. Assumes nothing.
use Prim.Native.Nat.{ℕ, zero, suc, ◌+◌, ◌<◌, ◌≤◌}
use native.Mathlib.Omega.{arith}
use mathlib.Core.Path.{◌≡◌, refl, ◌∙◌}
use mathlib.Core.Bool.{Bool, true, false, cond}
use mathlib.Core.List.{List, [], ◌∷◌, ◌++◌, append_assoc, append-nil}
use lib.Dec.{ltb, eqb}
use lib.ListN.{length, get_or}
use borrow.Author.Tests.{lt-ltb, le-ltb, eqb-true, eqb-false}
use Rattle.flows.specs.Marks.{Mark, carries, tag_width, mark_of, tags_for, tags_in, marks_of, marks_for, marks_in}

-- a byte is this one, or another
pub either : (P : ℕ → Type 0) (t c : ℕ) → P c → ((t ≡ c → ⊥) → P t) → P t
either P t c p f = go (eqb t c) refl
  where
    go : (b : Bool) → eqb t c ≡ b → P t
    go true e = rw (eqb-true t c e) p
    go false e = f (eqb-false t c e)

-- ---- one tag after the other

pub tag_width_bounds : (t : ℕ) → (1 ≤ tag_width t) × (tag_width t ≤ 5)
unfolding tag_width
tag_width_bounds t = go (eqb t 0x01) (carries t)
  where
    go : (a b : Bool) → (1 ≤ cond a 5 (cond b 2 1)) × (cond a 5 (cond b 2 1) ≤ 5)
    go true b = omega arith
    go false true = omega arith
    go false false = omega arith

-- a bound that is large enough is as good as any other
enough : (f g : ℕ) (s : List ℕ) (at to : ℕ) → to ≤ at + f → to ≤ at + g → tags_for f s at to ≡ tags_for g s at to
unfolding tags_for
enough zero zero s at to h k = refl
enough zero (suc g) s at to h k = rw (le-ltb at to (omega arith))
enough (suc f) zero s at to h k = rw (le-ltb at to (omega arith))
enough (suc f) (suc g) s at to h k =
    let w = tag_width_bounds (get_or s at 0) in
    rw (enough f g s (at + tag_width (get_or s at 0)) to (omega arith) (omega arith))

pub tags-more : (s : List ℕ) (at to : ℕ) → at < to → tags_in s at to ≡ (get_or s at 0, get_or s (at + 1) 0) ∷ tags_in s (at + tag_width (get_or s at 0)) to
unfolding tags_for
tags-more s at zero h = absurd (omega arith)
tags-more s at (suc n) h =
    let w = tag_width_bounds (get_or s at 0) in
    rw (lt-ltb at (suc n) h, enough n (suc n) s (at + tag_width (get_or s at 0)) (suc n) (omega arith) (omega arith))

pub tags-none : (s : List ℕ) (at to : ℕ) → to ≤ at → tags_in s at to ≡ []
unfolding tags_for
tags-none s at zero h = refl
tags-none s at (suc n) h = rw (le-ltb at (suc n) h)

marks-are : (f : ℕ) (s : List ℕ) (at to : ℕ) → marks_for f s at to ≡ marks_of (tags_for f s at to)
unfolding tags_for marks_for
marks-are zero s at to = refl
marks-are (suc f) s at to = rw (marks-are f s (at + tag_width (get_or s at 0)) to) (go (ltb at to))
  where
    go : (b : Bool) → cond b (mark_of (get_or s at 0) (get_or s (at + 1) 0) ++ marks_of (tags_for f s (at + tag_width (get_or s at 0)) to)) [] ≡ marks_of (cond b ((get_or s at 0, get_or s (at + 1) 0) ∷ tags_for f s (at + tag_width (get_or s at 0)) to) [])
    go true = refl
    go false = refl

pub marks-tags : (s : List ℕ) (at to : ℕ) → marks_in s at to ≡ marks_of (tags_in s at to)
marks-tags s at to = marks-are to s at to

marks-more : (s : List ℕ) (at to : ℕ) → at < to → marks_in s at to ≡ mark_of (get_or s at 0) (get_or s (at + 1) 0) ++ marks_in s (at + tag_width (get_or s at 0)) to
marks-more s at to h = rw (marks-tags s at to, tags-more s at to h, ← marks-tags s (at + tag_width (get_or s at 0)) to)

marks-none : (s : List ℕ) (at to : ℕ) → to ≤ at → marks_in s at to ≡ []
marks-none s at to h = rw (marks-tags s at to, tags-none s at to h)

-- ---- a part from a place to another, and what counts of its tags
pub record Spans (s : List ℕ) (at n : ℕ) (ms : List Mark) : Type 0 where
  pub grows : at ≤ n
  pub within : n ≤ length s
  pub splits : (to : ℕ) → n ≤ to → marks_in s at to ≡ ms ++ marks_in s n to

module _ (s : List ℕ) (at : ℕ) where
  pub joined : (n m : ℕ) (ms ns : List Mark) → Spans s at n ms → Spans s n m ns → Spans s at m (ms ++ ns)
  joined n m ms ns a b = record {
    grows = omega (arith, a.grows, b.grows);
    within = b.within;
    splits = λ to h.
        rw (append_assoc ms ns (marks_in s m to), ← b.splits to h) (a.splits to (omega (arith, b.grows)));
  }

  pub all : (n : ℕ) (ms : List Mark) → Spans s at n ms → marks_in s at n ≡ ms
  all n ms a = a.splits n (omega arith) ∙ rw (marks-none s n n (omega arith)) (append-nil ms)

  -- a tag with its operand or constant
  pub tag_spans : (t w : ℕ) → get_or s at 0 ≡ t → tag_width t ≡ w → at + w ≤ length s → Spans s at (at + w) (mark_of t (get_or s (at + 1) 0))
  tag_spans t w e f h =
      let p = tag_width_bounds t in
      record {
        grows = omega arith;
        within = h;
        splits = λ to k. rw (← f, ← e) (marks-more s at to (omega arith));
      }
