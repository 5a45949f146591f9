-- Laws of the finder's definitions. Assumes nothing.
use mathlib.Core.Path.{◌≡◌, refl}
use Prim.Native.Nat.{ℕ, zero, suc, ◌+◌, ◌-◌, ◌*◌, ◌^◌, ◌≤◌, ◌<◌}
use native.Mathlib.Omega.{arith}
use mathlib.Core.Bool.{Bool, true, false}
use mathlib.Core.List.{List}
use lib.IntN.{pos, negsuc}
use lib.ListN.{length, get_or}
use lib.Dec.{eqb}
use lib.Signed.{mag}
use mir.Syntax.{w32}
use mir.Val.{of_z}
use mathlib.Core.Logic.{⊎_elim}
use denote.Ref.{Bor}
use borrow.Author.Tests.{ne_eqb}
use Rattle.std.specs.Prelude.{Option, None, Some, MatchOption}
use Rattle.std.proofs.lemmas.Grind.{common_steps}
use Rattle.definitions.specs.Values.{Word}
use Rattle.definitions.specs.Batch.{record_size, line_size}
use Rattle.definitions.specs.Finder.{is_number, part_of, is_line, line_index, line_part, found_in, most_rows}
use Rattle.definitions.proofs.Tests.{less_or}
use Rattle.finder.specs.Limits.{within}

-- a word's bits are a small number's exactly if the word is that number
pub bits-number : (x : Word) (n : ℕ) → mag x < 2 ^ 31 → n < most_rows → eqb (of_z w32 x) n ≡ is_number x n
unfolding is_number
bits-number (pos a) n h l = refl
bits-number (negsuc a) n h l = ne_eqb (2 ^ 32 - suc a) n (λ (e : 2 ^ 32 - suc a ≡ n). omega arith)

-- ---- the lines

pub if_whole : (work : List Word) (w row i : ℕ) (r : Bool) → i * w + w ≤ length work → r ≡ is_number (get_or work (i * w) (pos 0)) row → r ≡ is_line work w row i
if_whole work w row i r h e = grind (arith, common_steps)

module _ (work : List Word) (w row : ℕ) where
  abbrev line : ℕ → Bool
  line = is_line work w row

  -- no line is one
  index-none : (i n : ℕ) → ((k : ℕ) → i ≤ k → k < i + n → line k ≡ false) → line_index work w row i n ≡ i + n
  unfolding line_index
  index-none i zero h = omega arith
  index-none i (suc n) h = grind (arith, common_steps, index-none (i + 1) n)

  -- line j is the first
  index-first : (i n j : ℕ) → i ≤ j → j < i + n → line j ≡ true → ((k : ℕ) → i ≤ k → k < j → line k ≡ false) → j ≡ line_index work w row i n
  unfolding line_index
  index-first i zero j l u e h = absurd (omega arith)
  index-first i (suc n) j l u e h =
      ⊎_elim
      (λ (p : i < j). rw (h i (omega arith) p) (index-first (i + 1) n j (omega arith) (omega arith) e (λ k q r. h k (omega arith) r)))
      (λ (p : j ≤ i). let q : j ≡ i = omega arith in rw (← q, e) refl)
      (less_or i j)

  -- what a search through the lines answers
  pub index-is : (rows : ℕ) (r : Option ℕ) → MatchOption r ((k : ℕ) → 0 ≤ k → k < rows → line k ≡ false) (λ j. (0 ≤ j) × (j < rows) × (line j ≡ true) × ((k : ℕ) → 0 ≤ k → k < j → line k ≡ false))
      → MatchOption r (line_index work w row 0 rows ≡ rows) (λ j. (j ≡ line_index work w row 0 rows) × (j < rows))
  index-is rows None h = grind (arith, index-none 0 rows)
  index-is rows (Some j) h = (grind (arith, index-first 0 rows j), h.1)

  -- where it ends before, it stands at a line
  pub hit : (i n : ℕ) → line_index work w row i n < i + n → line (line_index work w row i n) ≡ true
  unfolding line_index
  hit i zero h = absurd (omega arith)
  hit i (suc n) h = grind (arith, common_steps, hit (i + 1) n)

  -- and that line is whole
  pub line-whole : (rows : ℕ) → line_index work w row 0 rows < rows → line_index work w row 0 rows * w + w ≤ length work
  line-whole rows h = grind (arith, common_steps, hit 0 rows)

-- the part of that line, or an empty one
pub line-found : (work : Bor (List Word)) (rows w row i : ℕ) → i ≡ line_index work.now w row 0 rows → i < rows → part_of work (i * w) w ≡ line_part work rows w row
unfolding line_part
line-found work rows w row i e h = grind (arith, common_steps)

-- ---- the finder's answers

module _ (result work : Bor (List Word)) (rows quota columns row : ℕ) where
  pub found-line : within rows quota columns row (length result.now) ≡ true → is_number (get_or result.now (row * record_size quota) (pos 0)) 0 ≡ true
      → line_part work rows (line_size columns) row ≡ found_in result work rows quota columns row
  unfolding found_in within
  found-line e s = grind (arith, common_steps)

  pub found_record : within rows quota columns row (length result.now) ≡ true → is_number (get_or result.now (row * record_size quota) (pos 0)) 0 ≡ false
      → part_of result (row * record_size quota) (record_size quota) ≡ found_in result work rows quota columns row
  unfolding found_in within
  found_record e s = grind (arith, common_steps)
