-- A rule's bytes as a row of tags, read from the left with no regard to what holds what, and what the tags alone tell.
use Rattle.std.specs.Prelude.{ℕ, zero, suc, ◌+◌, Bool, false, cond, not, ◌&&◌, ◌||◌, List, [], ◌∷◌, ◌++◌, ltb, leb, eqb, get_or}

-- a tag and its operand, a variable or a block; 0 where it has none
abbrev pub Mark : Type 0
Mark = ℕ × ℕ

-- whether a variable's or a block's byte follows the tag
unfoldable pub carries : ℕ → Bool
carries t = eqb t 0x02 || (eqb t 0x20 || (eqb t 0x30 || eqb t 0x31))

-- how many bytes on the next tag stands
unfoldable pub tag_width : ℕ → ℕ
tag_width t = cond (eqb t 0x01) 5 (cond (carries t) 2 1)

-- the tags from a place up to another, each with the byte after it. The first number bounds how many there are
unfoldable pub tags_for : ℕ → List ℕ → ℕ → ℕ → List (ℕ × ℕ)
tags_for zero s at to = []
tags_for (suc f) s at to = cond (ltb at to) ((get_or s at 0, get_or s (at + 1) 0) ∷ tags_for f s (at + tag_width (get_or s at 0)) to) []

-- each tag takes a byte
abbrev pub tags_in : List ℕ → ℕ → ℕ → List (ℕ × ℕ)
tags_in s at to = tags_for to s at to

-- the tags that count here are the variables, the statements and the endings; x is the byte after the tag
unfoldable pub mark_of : ℕ → ℕ → List Mark
mark_of t x = cond (eqb t 0x02 || leb 0x20 t) ((t, cond (carries t) x 0) ∷ []) []

-- what counts of a row of tags
abbrev pub marks_of : List (ℕ × ℕ) → List Mark
marks_of [] = []
marks_of (t ∷ ts) = mark_of t.0 t.1 ++ marks_of ts

-- what counts of the tags from a place up to another. The first number bounds how many tags there are
unfoldable pub marks_for : ℕ → List ℕ → ℕ → ℕ → List Mark
marks_for zero s at to = []
marks_for (suc f) s at to = cond (ltb at to) (mark_of (get_or s at 0) (get_or s (at + 1) 0) ++ marks_for f s (at + tag_width (get_or s at 0)) to) []

-- each tag takes a byte
abbrev pub marks_in : List ℕ → ℕ → ℕ → List Mark
marks_in s at to = marks_for to s at to

-- the same of the bytes of block b, by the places where the blocks begin
abbrev pub part_in : List ℕ → List ℕ → ℕ → List Mark
part_in s places b = marks_in s (get_or places b 0) (get_or places (b + 1) 0)

-- whether one of them has this tag and this operand
unfoldable pub has : ℕ → ℕ → List Mark → Bool
has tag x [] = false
has tag x (m ∷ ms) = (eqb m.0 tag && eqb m.1 x) || has tag x ms

-- whether variable k is read before it is set. The flag says that the set of k is on: it shields from the next statement, or the ending, on
unfoldable pub reads_first : ℕ → Bool → List Mark → Bool
reads_first k on [] = false
reads_first k on (m ∷ ms) =
    cond (leb 0x20 m.0)
    (not on && reads_first k (eqb m.0 0x20 && eqb m.1 k) ms)
    (eqb m.0 0x02 && eqb m.1 k || reads_first k on ms)
