-- The rows at their start. Assumes nothing.
use mathlib.Core.Path.{◌≡◌, refl, sym, ap, subst, ◌∙◌}
use Prim.Native.Nat.{ℕ, zero, suc, ◌+◌, ◌-◌, ◌*◌, ◌≤◌, ◌<◌}
use native.Mathlib.Omega.{arith}
use native.Mathlib.Numerals.{add-one}
use mathlib.Core.List.{List, [], ◌∷◌, ◌++◌, append_assoc, append-nil}
use lib.IntN.{pos}
use lib.ListN.{length, take, drop, get_or, replicate, length-append, length-take, length-drop, length-replicate, replicate-append-replicate}
use lib.Seq.{drop-drop, get_or-drop}
use Rattle.buffers.specs.Words.{over}
use Rattle.buffers.proofs.Laws.{over-start}
use Rattle.definitions.specs.Values.{Word, Val, number, values_in, unset}
use Rattle.definitions.specs.Rule.{Rule}
use Rattle.definitions.specs.Columns.{flow_of, LC}
use Rattle.definitions.specs.Plan.{bit_of}
use Rattle.definitions.specs.Direct.{State, start}
use Rattle.definitions.specs.Batch.{record_size, record_of, records_of, lines_from, live_of, most_of, start_at, starts_of, columns_of, line_words}
use Rattle.definitions.proofs.Values.{values_length, values-append, value-at}
use Rattle.definitions.specs.Grammar.{most_variables}
use Rattle.columns.specs.Proper.{Proper}
use Rattle.columns.specs.Row.{SoundNow}
use Rattle.columns.specs.Alike.{Alike}
use Rattle.columns.proofs.Rows.{start-sound}
use Rattle.layouts.specs.Layout.{width, line_in, lines_in, in_array}
use Rattle.layouts.specs.declared.Layout.{Layout}
use Rattle.layouts.proofs.Sizes.{item_in}
use Rattle.layouts.proofs.Buffers.{over-is, over_seam}
use Rattle.layouts.proofs.Looks.{line-length, columns-mask, mask-all}
use Rattle.tables.specs.Table.{EachRow}
use Rattle.tables.specs.Runs.{ToStart, Started}
use Rattle.tables.proofs.Rows.{records-append, lines-append, live-append, lines-length, each_snoc, most-append}

module _ (r : Rule) (values : List Word) where
  pub starts-length : (n : ℕ) → length (starts_of r values n) ≡ n
  unfolding starts_of
  starts-length zero = refl
  starts-length (suc n) = length-append (starts_of r values n) (start_at r values n ∷ []) ∙ omega (arith, starts-length n)

  pub starts-live : (n : ℕ) → live_of (starts_of r values n) ≡ n
  unfolding starts_of live_of
  starts-live zero = refl
  starts-live (suc n) = live-append (starts_of r values n) (start_at r values n ∷ []) ∙ omega (arith, starts-live n)

  pub starts-most : (n : ℕ) → most_of (starts_of r values n) ≡ 0
  unfolding starts_of most_of
  starts-most zero = refl
  starts-most (suc n) = most-append (starts_of r values n) (start_at r values n ∷ []) ∙ omega (arith, starts-most n)

  -- what holds of each row at its start
  pub starts-each : (P : ℕ → State → Type 0) → ((i : ℕ) → P i (start_at r values i)) → (n : ℕ) → EachRow P 0 (starts_of r values n)
  unfolding starts_of EachRow
  starts-each P h zero = tt
  starts-each P h (suc n) = each_snoc P 0 (starts_of r values n) (start_at r values n) (starts-each P h n) (
      let e : n ≡ 0 + length (starts_of r values n) = omega (arith, starts-length n) in
      subst (λ (i : ℕ). P i (start_at r values n)) e (h n)
      )

  pub starts-sound : Proper r → (q n : ℕ) → EachRow (λ _ s. SoundNow r q s) 0 (starts_of r values n)
  starts-sound ok q = starts-each (λ _ s. SoundNow r q s) (λ i. start-sound r q ok (values_in (take r.arguments (drop (i * r.arguments) values))) (omega (arith, ok.given, values_length (take r.arguments (drop (i * r.arguments) values)), length-take r.arguments (drop (i * r.arguments) values))))

  -- the records are zeros
  zeros : (q n : ℕ) → record_of q (start_at r values n) ≡ replicate (record_size q) (pos 0)
  zeros q n =
      let e : q - 0 ≡ q = omega arith in
      let f : suc (suc (suc (suc q))) ≡ record_size q = omega arith in
      rw e (ap (λ (m : ℕ). replicate m (pos 0)) f)

  starts-records : (q n : ℕ) → records_of q (starts_of r values n) ≡ replicate (n * record_size q) (pos 0)
  unfolding starts_of records_of
  starts-records q zero =
      let e : 0 ≡ 0 * record_size q = omega arith in
      ap (λ (m : ℕ). replicate m (pos 0)) e
  starts-records q (suc n) =
      let e : n * record_size q + record_size q ≡ suc n * record_size q = omega arith in
      records-append q (starts_of r values n) (start_at r values n ∷ [])
      ∙ rw (starts-records q n, append-nil (record_of q (start_at r values n)), zeros q n, replicate-append-replicate) (ap (λ (m : ℕ). replicate m (pos 0)) e)

  pub starts-out : (q n : ℕ) (out out' : List Word) (size : ℕ) → size ≡ n * record_size q → out' ≡ over out 0 (replicate size (pos 0)) → out' ≡ records_of q (starts_of r values n) ++ drop (n * record_size q) out
  starts-out q n out out' size es e =
      e ∙ ap (λ (m : ℕ). over out 0 (replicate m (pos 0))) es
      ∙ over-is out 0 (replicate (n * record_size q) (pos 0)) (n * record_size q) (omega (arith, length-replicate (n * record_size q) (pos 0))) ∙ rw (starts-records q n)

  -- the lines, one row after the other
  starts-next : (n : ℕ) → lines_in r 0 (starts_of r values (n + 1)) ≡ lines_in r 0 (starts_of r values n) ++ line_in r n (start_at r values n)
  unfolding starts_of lines_from
  starts-next n =
      let z : 0 + length (starts_of r values n) ≡ n = omega (arith, starts-length n) in
      rw add-one (lines-append r 0 (starts_of r values n) (start_at r values n ∷ []) ∙ rw (z, append-nil (line_in r n (start_at r values n))))

  pub starts-wide : (n : ℕ) → length (lines_in r 0 (starts_of r values n)) ≡ n * width r
  starts-wide n = lines-length r 0 (starts_of r values n) ∙ rw (starts-live n)

-- ---- words that are followed by zeros
zero-at : (m k : ℕ) → get_or (replicate m (pos 0)) k (pos 0) ≡ pos 0
zero-at zero k = refl
zero-at (suc m) zero = refl
zero-at (suc m) (suc k) = zero-at m k

unset-at : (m k : ℕ) → get_or (replicate m unset) k unset ≡ unset
unset-at zero k = refl
unset-at (suc m) zero = refl
unset-at (suc m) (suc k) = unset-at m k

padded : (xs ys : List Val) (k : ℕ) → ((i : ℕ) → get_or ys i unset ≡ unset) → get_or (xs ++ ys) k unset ≡ get_or xs k unset
padded [] ys k h = h k
padded (x ∷ xs) ys zero h = refl
padded (x ∷ xs) ys (suc k) h = padded xs ys k h

-- the variables of a row at its start, as the words of its arguments are fetched
start-alike : (r : Rule) (ok : Proper r) (ws : List Word) → length ws ≤ r.variables → Alike r.variables (LC (flow_of r)) (start r (values_in ws)).vars (values_in (in_array ws))
start-alike r ok ws h =
    let args = values_in ws in
    let zeros = drop (length ws) (replicate most_variables (pos 0)) in
    let size = values_length ws in
    rw (over-start (replicate most_variables (pos 0)) ws, values-append ws zeros) record {
      left = omega (arith, size, length-append args (replicate (r.variables - length args) unset), length-replicate (r.variables - length args) unset);
      right = omega (arith, ok.few, size, length-append args (values_in zeros), values_length zeros, length-drop (length ws) (replicate most_variables (pos 0)));
      same = λ k _ _.
          padded args (replicate (r.variables - length args) unset) k (unset-at (r.variables - length args))
          ∙ sym (padded args (values_in zeros) k (λ i. value-at zeros i ∙ ap number (get_or-drop (length ws) (replicate most_variables (pos 0)) i (pos 0) ∙ zero-at most_variables (length ws + i))));
    }

fetched-start : (r : Rule) → Proper r → (values vars : List Word) (a n : ℕ) → a ≡ r.arguments → vars ≡ in_array (take a (drop (n * a) values))
    → Alike r.variables (LC (flow_of r)) (start_at r values n).vars (values_in vars)
fetched-start r ok values vars a n ea ev =
    rw (ev, ea) (start-alike r ok (take r.arguments (drop (n * r.arguments) values)) (omega (arith, ok.given, length-take r.arguments (drop (n * r.arguments) values))))

-- ---- what the code puts into the working buffer
module _ {l : Layout} {rows : ℕ} {values : List Word} {work : List Word} (p : ToStart l rows values work) where
  abbrev r : Rule
  r = p.rule

  -- before the first line
  pub starts_none : Started r values 0 work work
  unfolding starts_of lines_from
  starts_none =
      let e : 0 ≡ 0 * width r = omega arith in
      ap (λ (n : ℕ). drop n work) e

  module _ (n : ℕ) (h : n < rows) where
    pub line-fits : n * l.size + l.size ≤ length work
    line-fits = omega (arith, item_in n rows l.size h, p.table)

    -- a fresh line
    fresh : (vars : List Word) → vars ≡ in_array (take l.arguments (drop (n * l.arguments) values)) → line_words n 0 0 (columns_of l.variables (bit_of l.lc) (values_in vars)) ≡ line_in r n (start_at r values n)
    fresh vars e =
        ap (line_words n 0 0) (columns-mask p.known (start_at r values n).vars (values_in vars) (fetched-start r p.known.proper values vars l.arguments n p.known.arguments e))

    -- one more line
    pub starts-line : (now now' vars : List Word) → Started r values n work now
        → vars ≡ in_array (take l.arguments (drop (n * l.arguments) values)) → now' ≡ over now (n * l.size) (line_words n 0 0 (columns_of l.variables (bit_of l.lc) (values_in vars)))
        → Started r values (n + 1) work now'
    starts-line now now' vars e ev ew =
        let x : List Word = line_in r n (start_at r values n) in
        let y : List Word = lines_in r 0 (starts_of r values n) in
        let z : n * width r + length x ≡ (n + 1) * width r = omega (arith, line-length r n (start_at r values n)) in
        ew ∙ ap (λ (c : List Word). over now (n * l.size) c) (fresh vars ev) ∙ ap (λ (m : ℕ). over now (n * m) x) p.known.size' ∙ rw e (over_seam y (drop (n * width r) work) x (n * width r) (starts-wide r values n))
        ∙ sym (append_assoc y x (drop (length x) (drop (n * width r) work)))
        ∙ rw (← starts-next r values n, drop-drop, z)

-- what a fresh line rests on
pub ruleset of_starts = (line-fits, mask-all)
