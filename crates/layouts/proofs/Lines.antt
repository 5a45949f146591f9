-- Laws of a line and a record as the code reads and writes them. Assumes nothing.
use mathlib.Core.Path.{◌≡◌, refl, sym, ap, ◌∙◌}
use mathlib.Core.Bool.{Bool, true, false}
use Prim.Native.Nat.{ℕ, suc, ◌+◌, ◌≤◌, ◌<◌}
use native.Mathlib.Omega.{arith}
use native.Mathlib.Numerals.{add-one}
use native.Mathlib.Nat.{add-zero}
use mathlib.Core.List.{List, [], ◌∷◌, ◌++◌, append-nil}
use lib.IntN.{pos}
use lib.ListN.{length, take, drop, get_or, set, replicate, length-set, take-append-drop}
use lib.Seq.{get_or-drop}
use mir.Syntax.{w32}
use mir.Val.{to_z}
use mir.Facts.{to_z_pos}
use Rattle.buffers.specs.Words.{over}
use Rattle.buffers.proofs.Laws.{over-set, over-next, over_pair, length_over}
use Rattle.definitions.specs.Values.{Word, Val, as_word, values_in, words_of, unset}
use Rattle.definitions.specs.Grammar.{most_variables}
use Rattle.definitions.specs.Batch.{record_size, line_size, count_to, columns_of}
use Rattle.definitions.specs.Finder.{most_rows, most_quota}
use Rattle.definitions.specs.Calls.{most_budget}
use Rattle.definitions.proofs.Values.{words-length, words_append, value-at, values-set}
use Rattle.definitions.proofs.Counts.{count-before, columns-length}
use Rattle.columns.specs.OnPlan.{spread}

-- ---- the columns, one variable after the other
module _ (f : ℕ → Bool) where
  -- the words of the columns among the first k variables
  abbrev words : ℕ → List Word → List Word
  words k vars = words_of (columns_of k f (values_in vars))

  words_count : (k : ℕ) (vars : List Word) → length (words k vars) ≡ count_to k f
  words_count k vars = words-length (columns_of k f (values_in vars)) ∙ columns-length k f (values_in vars)

  -- d₀ with the columns among the first k variables put in from at on, which gives d
  abbrev pub ColumnsPut : List Word → ℕ → List Word → List Word → ℕ → Type 0
  ColumnsPut d₀ at vars d k = (length d ≡ length d₀) × (d ≡ over d₀ at (words k vars))

  pub put_none : (d : List Word) (at : ℕ) (vars : List Word) → ColumnsPut d at vars d 0
  unfolding columns_of over
  put_none d at vars = (refl, sym (ap (λ (n : ℕ). take at d ++ drop n d) (add-zero at) ∙ take-append-drop at d))

  -- the next variable is a column
  pub put_one : (d₀ d d' : List Word) (at k v n : ℕ) (vars : List Word) (z : Word) → k < v → at + count_to v f ≤ length d₀ → f k ≡ true → n ≡ count_to k f → z ≡ get_or vars k (pos 0)
      → d' ≡ set d (at + n) z → ColumnsPut d₀ at vars d k → ColumnsPut d₀ at vars d' (k + 1)
  unfolding columns_of
  put_one d₀ d d' at k v n vars z h l e en ez ed p =
      let c = words_count k vars in
      let b = count-before k v f h e in
      let next : words (suc k) vars ≡ words k vars ++ (get_or vars k (pos 0) ∷ []) =
      rw (e, words_append (columns_of k f (values_in vars)) (get_or (values_in vars) k unset ∷ [])) (ap (λ (x : Val). words k vars ++ (as_word x ∷ [])) (value-at vars k)) in (
        rw ed (length-set d (at + n) z ∙ p.0),
        rw (ed, en, ez, add-one, next, p.1) (
            over-set (over d₀ at (words k vars)) (at + count_to k f) (get_or vars k (pos 0)) (omega (arith, length_over d₀ at (words k vars) (omega arith)))
            ∙ over-next d₀ at (words k vars) (at + count_to k f) (get_or vars k (pos 0) ∷ []) (omega arith) (omega arith)
            ),
      )

  -- or it is not
  pub put_skip : (d₀ d d' : List Word) (at k : ℕ) (vars : List Word) → f k ≡ false → d' ≡ d → ColumnsPut d₀ at vars d k → ColumnsPut d₀ at vars d' (k + 1)
  unfolding columns_of
  put_skip d₀ d d' at k vars e ed p = rw (ed, add-one, e, append-nil) p

  -- the variables of a line's columns, likewise
  pub spread_none : (cols : List Val) → values_in (replicate most_variables (pos 0)) ≡ spread 0 f cols
  unfolding spread
  spread_none cols = refl

  pub spread-one : (d vars vars' : List Word) (at k n : ℕ) (z : Word) → f k ≡ true → n ≡ count_to k f → z ≡ get_or d (at + n) (pos 0) → vars' ≡ set vars k z → values_in vars ≡ spread k f (values_in (drop at d)) → values_in vars' ≡ spread (k + 1) f (values_in (drop at d))
  unfolding spread
  spread-one d vars vars' at k n z e en ez ev p = rw (ev, values-set vars k z, p, add-one, e, value-at (drop at d) (count_to k f), get_or-drop, ez, en)

  pub spread_skip : (vars vars' : List Word) (cols : List Val) (k : ℕ) → f k ≡ false → vars' ≡ vars → values_in vars ≡ spread k f cols → values_in vars' ≡ spread (k + 1) f cols
  unfolding spread
  spread_skip vars vars' cols k e ev p = rw (ev, add-one, e) p

-- ---- what the stores of a line and of a record leave

-- a store right after a write
store_next : (d : List Word) (at : ℕ) (s : List Word) (n : ℕ) (x : Word) → n ≡ at + length s → n < length d → set (over d at s) n x ≡ over d at (s ++ (x ∷ []))
store_next d at s n x e h = over-set (over d at s) n x (omega (arith, length_over d at s (omega arith))) ∙ over-next d at s n (x ∷ []) e (omega arith)

-- three stores, one after the other
three : (d : List Word) (at : ℕ) (a b c : Word) → at + 3 ≤ length d → set (set (set d at a) (at + 1) b) (at + 2) c ≡ over d at (a ∷ b ∷ c ∷ [])
three d at a b c h = rw (over_pair d at a b (omega arith)) (store_next d at (a ∷ b ∷ []) (at + 2) c refl (omega arith))

pub line_law : (d : List Word) (at row block begun : ℕ) (cols d' : List Word) → row < most_rows → block < 256 → begun ≤ most_budget → at + line_size 0 ≤ length d
    → d' ≡ over (set (set (set d at (to_z w32 row)) (at + 1) (to_z w32 block)) (at + 2) (to_z w32 begun)) (at + line_size 0) cols → d' ≡ over d at (pos row ∷ pos block ∷ pos begun ∷ cols)
line_law d at row block begun cols d' hr hb hg h e =
    let w1 : to_z w32 row ≡ pos row = to_z_pos w32 (omega arith) in
    let w2 : to_z w32 block ≡ pos block = to_z_pos w32 (omega arith) in
    let w3 : to_z w32 begun ≡ pos begun = to_z_pos w32 (omega arith) in
    e ∙ rw (w1, w2, w3, three d at (pos row) (pos block) (pos begun) (omega arith)) (over-next d at (pos row ∷ pos block ∷ pos begun ∷ []) (at + line_size 0) cols refl (omega arith))

-- a record's words before its labels
head : (d : List Word) (at : ℕ) (a b c p : Word) → at + record_size 0 ≤ length d → set (set (set (set d at a) (at + 1) b) (at + 2) c) (at + 3) p ≡ over d at (a ∷ b ∷ c ∷ p ∷ [])
head d at a b c p h =
    rw (three d at a b c (omega arith)) (store_next d at (a ∷ b ∷ c ∷ []) (at + 3) p refl (omega arith))

pub record_law : (d : List Word) (at status begun count place : ℕ) (labels zeros d' d'' : List Word) → status < 256 → begun ≤ most_budget → count ≤ most_quota → place < 65536 → length labels ≡ count → at + record_size 0 + count ≤ length d
    → d' ≡ over (set (set (set (set d at (to_z w32 status)) (at + 1) (to_z w32 begun)) (at + 2) (to_z w32 count)) (at + 3) (to_z w32 place)) (at + record_size 0) labels → d'' ≡ over d' (at + record_size 0 + count) zeros
    → d'' ≡ over d at (pos status ∷ pos begun ∷ pos count ∷ pos place ∷ (labels ++ zeros))
record_law d at status begun count place labels zeros d' d'' hs hb hc hp hl h e e' =
    let w1 : to_z w32 status ≡ pos status = to_z_pos w32 (omega arith) in
    let w2 : to_z w32 begun ≡ pos begun = to_z_pos w32 (omega arith) in
    let w3 : to_z w32 count ≡ pos count = to_z_pos w32 (omega arith) in
    let w4 : to_z w32 place ≡ pos place = to_z_pos w32 (omega arith) in
    let one : d' ≡ over d at (pos status ∷ pos begun ∷ pos count ∷ pos place ∷ labels) =
    e ∙ rw (w1, w2, w3, w4, head d at (pos status) (pos begun) (pos count) (pos place) (omega arith)) (over-next d at (pos status ∷ pos begun ∷ pos count ∷ pos place ∷ []) (at + record_size 0) labels refl (omega arith)) in
    e' ∙ rw one (over-next d at (pos status ∷ pos begun ∷ pos count ∷ pos place ∷ labels) (at + record_size 0 + count) zeros (omega arith) (omega arith))
