-- What the finder's contract promises: one outcome alone, and an empty part exactly in the cases that document 01 lists. Assumes nothing.
use mathlib.Core.Path.{◌≡◌, refl, sym, ap, ◌∙◌}
use Prim.Native.Nat.{ℕ, zero, suc, ◌+◌, ◌*◌, ◌≤◌, ◌<◌}
use native.Mathlib.Omega.{arith}
use mathlib.Core.Bool.{Bool, true, false}
use mathlib.Core.List.{List, []}
use lib.IntN.{pos, negsuc}
use lib.ListN.{length, get_or}
use denote.Ref.{Bor}
use mathlib.Core.Logic.{⊎_elim}
use borrow.Author.Tests.{eqb-true}
use Rattle.std.proofs.lemmas.Grind.{common_steps}
use Rattle.definitions.specs.Values.{Word}
use Rattle.definitions.specs.Batch.{record_size, line_size}
use Rattle.definitions.specs.Finder.{is_number, Part, is_line, line_index, line_part, found_in, most_rows, most_quota, most_columns}
use Rattle.definitions.proofs.Tests.{and_parts, less_or}
use Rattle.layouts.proofs.Sizes.{item_in}
use Rattle.finder.specs.Limits.{within}
use Rattle.finder.proofs.Finds.{hit, line-whole}

-- no second part meets the contract
pub one-part : (result work : Bor (List Word)) (rows quota columns row : ℕ) (p p' : Part) → p ≡ found_in result work rows quota columns row → p' ≡ found_in result work rows quota columns row → p ≡ p'
one-part result work rows quota columns row p p' e e' = e ∙ sym e'

-- why a row has no part
pub data Missing (result work : List Word) (rows quota columns row : ℕ) : Type 0 where
  not_below : rows ≤ row → Missing result work rows quota columns row
  many_rows : most_rows < rows → Missing result work rows quota columns row
  high_quota : most_quota < quota → Missing result work rows quota columns row
  many_columns : most_columns < columns → Missing result work rows quota columns row
  short_result : length result < rows * record_size quota → Missing result work rows quota columns row
  no_line : get_or result (row * record_size quota) (pos 0) ≡ pos 0
      → ((i : ℕ) → i < rows → i * line_size columns + line_size columns ≤ length work → get_or work (i * line_size columns) (pos 0) ≡ pos row → ⊥)
      → Missing result work rows quota columns row

-- ---- words and lines

is-number : (x : Word) (n : ℕ) → is_number x n ≡ true → x ≡ pos n
unfolding is_number
is-number (pos a) n h = ap pos (eqb-true a n h)
is-number (negsuc a) n h = cc

module _ (work : List Word) (w row : ℕ) where
  -- where the search ends at the last line, no line is one
  missed : (i n : ℕ) → i + n ≤ line_index work w row i n → (j : ℕ) → i ≤ j → j < i + n → is_line work w row j ≡ true → ⊥
  unfolding line_index
  missed i zero h j l u t = omega arith
  missed i (suc n) h j l u t = grind (arith, common_steps, missed (i + 1) n)

module _ (result work : Bor (List Word)) (rows quota columns row : ℕ) where
  abbrev status : Word
  status = get_or result.now (row * record_size quota) (pos 0)

  abbrev found : List Word
  found = (found_in result work rows quota columns row).1

  abbrev index : ℕ
  index = line_index work.now (line_size columns) row 0 rows

  -- ---- each case gives an empty part

  no_line_lem : status ≡ pos 0 → rows ≤ index → found ≡ []
  unfolding found_in line_part is_number
  no_line_lem s h = grind (arith, common_steps)

  missing : ((i : ℕ) → i < rows → i * line_size columns + line_size columns ≤ length work.now → get_or work.now (i * line_size columns) (pos 0) ≡ pos row → ⊥) → rows ≤ index
  missing h =
      ⊎_elim
      (λ l. let t = hit work.now (line_size columns) row 0 rows (omega arith) in absurd (h index l (line-whole work.now (line_size columns) row rows l) (is-number _ row (and_parts _ _ t).1)))
      (λ l. l)
      (less_or index rows)

  pub empty_if : Missing result.now work.now rows quota columns row → found ≡ []
  unfolding found_in
  empty_if (not_below h) = grind (arith, common_steps)
  empty_if (many_rows h) = grind (arith, common_steps)
  empty_if (high_quota h) = grind (arith, common_steps)
  empty_if (many_columns h) = grind (arith, common_steps)
  empty_if (short_result h) = grind (arith, common_steps)
  empty_if (no_line s h) = no_line_lem s (missing h)

  -- ---- and there is no other

  -- a part that is within the limits and is found is not empty
  record_there : within rows quota columns row (length result.now) ≡ true → is_number status 0 ≡ false → found ≡ [] → ⊥
  unfolding within found_in line_part
  record_there w s e = grind (arith, common_steps, item_in row rows (record_size quota))

  line_there : within rows quota columns row (length result.now) ≡ true → status ≡ pos 0 → index < rows → found ≡ [] → ⊥
  unfolding within found_in line_part is_number
  line_there w s l e = grind (arith, common_steps, line-whole)

  kept : within rows quota columns row (length result.now) ≡ true → found ≡ [] → Missing result.now work.now rows quota columns row
  unfolding is_number
  kept w e = go (is_number status 0) refl
    where
      go : (b : Bool) → is_number status 0 ≡ b → Missing result.now work.now rows quota columns row
      go false s = absurd (record_there w s e)
      go true s =
          let z = is-number status 0 s in
          ⊎_elim (λ l. absurd (line_there w z l e)) (λ l. no_line z (λ i h whole is. missed work.now (line_size columns) row 0 rows (omega arith) i (omega arith) (omega arith) (grind (arith, common_steps)))) (less_or index rows)

  within_all : row < rows → rows ≤ most_rows → quota ≤ most_quota → columns ≤ most_columns → rows * record_size quota ≤ length result.now → within rows quota columns row (length result.now) ≡ true
  unfolding within
  within_all a b c d f = grind (arith, common_steps)

  pub only_if : found ≡ [] → Missing result.now work.now rows quota columns row
  only_if e =
      ⊎_elim (λ a. ⊎_elim (λ h. many_rows h) (λ b. ⊎_elim (λ h. high_quota h) (λ c. ⊎_elim (λ h. many_columns h) (λ d. ⊎_elim (λ h. short_result h) (λ f. kept (within_all a b c d f) e)
      (less_or (length result.now) (rows * record_size quota))) (less_or most_columns columns)) (less_or most_quota quota)) (less_or most_rows rows))
      (λ h. not_below h)
      (less_or row rows)
