-- What the two buffers say of a row that stands in them. Assumes nothing.
use mathlib.Core.Path.{◌≡◌, refl, sym, ap, ◌∙◌}
use mathlib.Core.Bool.{Bool, true}
use Prim.Native.Nat.{ℕ, zero, suc, ◌+◌, ◌-◌, ◌*◌, ◌≤◌, ◌<◌}
use native.Mathlib.Omega.{arith}
use mathlib.Core.List.{List, [], ◌∷◌}
use lib.IntN.{pos, nat_abs}
use lib.ListN.{length, take, drop, get_or, replicate, length-append, length-replicate}
use lib.Seq.{take_at, get_or-append-add, get_or-drop}
use lib.Signed.{non_neg}
use Rattle.buffers.proofs.Laws.{over-start, length_over}
use Rattle.definitions.specs.Values.{Word, Val, number, values_in, words_of}
use Rattle.definitions.specs.Rule.{Rule}
use Rattle.definitions.specs.Grammar.{most_variables}
use Rattle.definitions.specs.Columns.{flow_of, LC}
use Rattle.definitions.specs.Plan.{bit_of}
use Rattle.definitions.specs.Direct.{State}
use Rattle.definitions.specs.Batch.{record_size, record_of, line_size, count_to, columns_of}
use Rattle.definitions.specs.Finder.{most_rows, most_quota}
use Rattle.definitions.proofs.Values.{words-length, value-at, word_at}
use Rattle.definitions.proofs.Masks.{read_back, mask-count}
use Rattle.definitions.proofs.Counts.{columns-length, count-before}
use Rattle.columns.specs.OnPlan.{spread}
use Rattle.columns.specs.Row.{Sound}
use Rattle.columns.specs.Alike.{Alike}
use Rattle.columns.proofs.Sets.{columns-at, columns-same, spread_at, spread-length}
use Rattle.layouts.specs.Layout.{width, line_in, in_array, Known}
use Rattle.layouts.specs.Rows.{SomeRowAt}
use Rattle.layouts.specs.declared.Layout.{Layout}
use Rattle.layouts.proofs.Buffers.{part_get, part-fits, part-part}
use Rattle.definitions.specs.Direct.{status_number, fault_place}

-- ---- sizes
pub line-length : (r : Rule) (k : ℕ) (s : State) → length (line_in r k s) ≡ width r
line-length r k s = omega (arith, words-length (columns_of r.variables (LC (flow_of r)) s.vars), columns-length r.variables (LC (flow_of r)) s.vars)

pub record_length : (r : Rule) (q n : ℕ) (s : State) → Sound r q n s → length (record_of q s) ≡ record_size q
record_length r q n s h = omega (arith, words-length s.labels, length-append (words_of s.labels) (replicate (q - length s.labels) (pos 0)), length-replicate (q - length s.labels) (pos 0), h.labels-few)

-- sets that agree below v have the same columns
columns-set : (v : ℕ) (f g : ℕ → Bool) (vars : List Val) → ((k : ℕ) → k < v → f k ≡ g k) → columns_of v f vars ≡ columns_of v g vars
unfolding columns_of
columns-set zero f g vars h = refl
columns-set (suc v) f g vars h = rw (columns-set v f g vars (λ k l. h k (omega arith)), h v (omega arith))

-- ---- the mask is the LC columns
module _ {r : Rule} {l : Layout} (k : Known r l) where
  pub mask_at : (i : ℕ) → i < r.variables → bit_of l.lc i ≡ LC (flow_of r) i
  mask_at i h = rw k.mask (read_back r.variables (LC (flow_of r)) i h)

  pub mask-place : (i : ℕ) → i ≤ r.variables → count_to i (bit_of l.lc) ≡ count_to i (LC (flow_of r))
  mask-place i h = rw k.mask (mask-count r.variables (LC (flow_of r)) i h)

  -- all columns
  pub mask-all : count_to l.variables (bit_of l.lc) ≡ count_to r.variables (LC (flow_of r))
  mask-all = rw k.variables (mask-place r.variables (omega arith))

  -- a line's columns, by the mask and by LC, from variables that agree there
  pub columns-mask : (x y : List Val) → Alike r.variables (LC (flow_of r)) x y → columns_of l.variables (bit_of l.lc) y ≡ columns_of r.variables (LC (flow_of r)) x
  columns-mask x y w =
      rw k.variables (columns-set r.variables (bit_of l.lc) (LC (flow_of r)) y mask_at)
      ∙ sym (columns-same (LC (flow_of r)) r.variables x y w.same)

pub as_number : (z : Word) (n : ℕ) → z ≡ pos n → non_neg z ≡ true
as_number z n e = rw e

-- labels that were fetched into an array of zeros
pub fetched : (n : ℕ) (x : List Word) → length x ≡ n → take n (in_array x) ≡ x
fetched n x h = rw (over-start (replicate most_variables (pos 0)) x) (take_at x (drop (length x) (replicate most_variables (pos 0))) n h)

pub fetched-length : (n : ℕ) (x : List Word) → length x ≡ n → n ≤ most_quota → length (in_array x) ≡ most_quota
fetched-length n x h l = length_over (replicate most_variables (pos 0)) 0 x (omega arith)

module _ {l : Layout} {from : ℕ} {out work : List Word} (p : SomeRowAt l from out work) where
  abbrev q : ℕ
  q = l.quota

  abbrev place : ℕ
  place = p.at.row * record_size q

  pub line-fits : from + width p.rule ≤ length work
  line-fits = part-fits work (line_in p.rule p.at.row p.at.state) from (width p.rule) p.at.line (line-length p.rule p.at.row p.at.state) (omega arith)

  pub record_fits : place + record_size q ≤ length out
  record_fits = part-fits out (record_of q p.at.state) place (record_size q) p.at.record' (record_length p.rule q _ p.at.state p.at.sound) (omega arith)

  get_line : (i : ℕ) → i < width p.rule → get_or work (from + i) (pos 0) ≡ get_or (line_in p.rule p.at.row p.at.state) i (pos 0)
  get_line i h = part_get work (line_in p.rule p.at.row p.at.state) from (width p.rule) i (pos 0) p.at.line h

  get_record : (i : ℕ) → i < record_size q → get_or out (place + i) (pos 0) ≡ get_or (record_of q p.at.state) i (pos 0)
  get_record i h = part_get out (record_of q p.at.state) place (record_size q) i (pos 0) p.at.record' h

  pub get_row : get_or work from (pos 0) ≡ pos p.at.row
  get_row =
      let e : from + 0 ≡ from = omega arith in
      rw (← e) (get_line 0 (omega arith))

  pub get_block : get_or work (from + 1) (pos 0) ≡ pos p.at.state.block
  get_block = get_line 1 (omega arith)

  -- what is read of the record, at the row that was read
  module _ (row : ℕ) (e : row ≡ nat_abs (get_or work from (pos 0))) where
    pub is_row : row ≡ p.at.row
    is_row = e ∙ ap nat_abs get_row

    pub row-few : row ≤ most_rows
    row-few = omega (arith, is_row, p.at.few)

    module _ (at : ℕ) (ea : at ≡ row * record_size q) where
      at_place : at ≡ place
      at_place = ea ∙ ap (λ (n : ℕ). n * record_size q) is_row

      pub row_fits : at + record_size q ≤ length out
      row_fits = rw at_place record_fits

      pub get-begun : get_or out (at + 1) (pos 0) ≡ pos p.at.state.begun
      get-begun = rw at_place (get_record 1 (omega arith))

      pub get-count : get_or out (at + 2) (pos 0) ≡ pos (length p.at.state.labels)
      get-count = rw at_place (get_record 2 (omega arith))

      pub get-labels : (count : ℕ) → count ≡ nat_abs (get_or out (at + 2) (pos 0)) → take count (drop (at + record_size 0) out) ≡ words_of p.at.state.labels
      get-labels count c =
          let s = p.at.state in
          rw at_place (part-part out (pos (status_number s.finish) ∷ pos s.begun ∷ pos (length s.labels) ∷ pos (fault_place s.finish) ∷ []) (words_of s.labels) (replicate (q - length s.labels) (pos 0)) place (record_size q) (record_size 0) count p.at.record' refl (words-length s.labels ∙ sym (c ∙ ap nat_abs get-count)))

  -- the columns of the line are those of the row's variables
  pub get_vars : (vars : List Word) → values_in vars ≡ spread l.variables (bit_of l.lc) (values_in (drop (from + line_size 0) work)) → Alike p.rule.variables (LC (flow_of p.rule)) p.at.state.vars (values_in vars)
  get_vars vars e =
      let r = p.rule in
      let s = p.at.state in
      let f : ℕ → Bool = LC (flow_of r) in
      let few = p.known.proper.few in
      record {
        left = omega (arith, p.at.sound.vars-all);
        right = rw e (omega (arith, spread-length (bit_of l.lc) (values_in (drop (from + line_size 0) work)) l.variables, few));
        same = λ k h t.
            let c = count-before k r.variables f h t in
            let a : from + line_size 0 + count_to k f ≡ from + (line_size 0 + count_to k f) = omega arith in
            let cols = columns_of r.variables f s.vars in
            let rest = drop (from + line_size 0) work in
            let place = count_to k (bit_of l.lc) in
            let there : get_or (words_of cols) (count_to k f) (pos 0) ≡ get_or rest place (pos 0) =
            sym (get_or-append-add (pos p.at.row ∷ pos s.block ∷ pos s.begun ∷ []) (words_of cols) (count_to k f) (pos 0))
            ∙ sym (get_line (line_size 0 + count_to k f) (omega arith))
            ∙ ap (λ (i : ℕ). get_or work i (pos 0)) (sym a)
            ∙ sym (get_or-drop (from + line_size 0) work place (pos 0) ∙ ap (λ (i : ℕ). get_or work (from + line_size 0 + i) (pos 0)) (mask-place p.known k (omega arith))) in
            sym (columns-at f r.variables k s.vars h t) ∙ sym (word_at cols (count_to k f)) ∙ ap number there ∙ sym (value-at rest place)
            ∙ sym (rw (e, p.known.variables) (spread_at (bit_of l.lc) (values_in rest) r.variables k few h (mask_at p.known k h ∙ t)));
      }
