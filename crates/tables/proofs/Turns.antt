-- One row's turn: read, carried on, written. Assumes nothing.
use mathlib.Core.Path.{◌≡◌, refl, sym, ap, ◌∙◌}
use mathlib.Core.Bool.{Bool, true, false}
use Prim.Native.Nat.{ℕ, zero, suc, ◌+◌, ◌*◌, ◌≤◌, ◌<◌}
use native.Mathlib.Omega.{arith}
use mathlib.Core.List.{List}
use lib.ListN.{length, take}
use Rattle.buffers.specs.Words.{over}
use Rattle.definitions.specs.Values.{Word, values_in, words_of}
use Rattle.definitions.specs.Rule.{Rule}
use Rattle.definitions.specs.Columns.{flow_of, LC}
use Rattle.definitions.specs.Plan.{bit_of}
use Rattle.definitions.specs.Direct.{State, Round, jumped, finished, joined, advance, after_from, after, goes_on}
use Rattle.definitions.specs.Batch.{record_size, record_words, record_of, count_to, line_size, line_words, columns_of}
use Rattle.definitions.specs.Finder.{most_rows, most_quota, most_columns}
use Rattle.definitions.specs.Calls.{most_budget}
use Rattle.definitions.proofs.Values.{words-again, words-length}
use Rattle.definitions.proofs.Counts.{count_le}
use Rattle.columns.specs.Proper.{Proper}
use Rattle.columns.specs.Row.{Sound}
use Rattle.columns.proofs.Rows.{round_of, advance-on, advance-done, after-done, after-sound, after-now}
use Rattle.carries.specs.Carry.{InHand, ProgressTo}
use Rattle.carries.specs.declared.Progress.{Progress}
use Rattle.layouts.specs.Layout.{Known}
use Rattle.layouts.specs.Rows.{RowAt, SomeRowAt, RowRead}
use Rattle.layouts.specs.declared.Layout.{Layout}
use Rattle.layouts.specs.declared.Row.{Row}
use Rattle.layouts.proofs.Sizes.{lines-low}
use Rattle.layouts.proofs.Looks.{line-fits, record_fits, mask-all, columns-mask}
use Rattle.tables.specs.Table.{Turned}
use Rattle.tables.specs.Runs.{Runs, rule_of, budget_in, step_of}
use Rattle.tables.specs.declared.Run.{Run}
use Rattle.tables.proofs.Rows.{Stepwise}

-- ---- N rounds are a step
module _ (r : Rule) (q : ℕ) where
  joined-more : (s : State) (R : Round) → s.begun ≤ (joined s R).begun
  joined-more s (jumped b env ls) = omega arith
  joined-more s (finished how ls) = omega arith

  advance-more : (s : State) → s.begun ≤ (advance r q s).begun
  advance-more s = go (goes_on s.finish) refl
    where
      go : (b : Bool) → goes_on s.finish ≡ b → s.begun ≤ (advance r q s).begun
      go true e = rw (advance-on r q s e) (joined-more s (round_of r q s))
      go false e = rw (advance-done r q s e) (omega arith)

  after_more : (n : ℕ) (s : State) → s.begun ≤ (after r q n s).begun
  unfolding after_from
  after_more zero s = omega arith
  after_more (suc n) s = omega (arith, after_more n s, advance-more (after r q n s))

  -- row i by its own N i
  pub step : Proper r → (N : ℕ → ℕ) → Stepwise r q (λ i. after r q (N i))
  step ok N = record { done = λ i s e. after-done r q (N i) s e; sound = λ i s h. after-now r q ok s h (N i); begun = λ i s. after_more (N i) s }

pub steps : {run : Run} → Runs run → Stepwise (rule_of run) run.layout.quota (step_of run)
steps {run} h = step (rule_of run) run.layout.quota h.known.proper (budget_in run)

-- the place of a line is a small number
pub line_low : {r : Rule} {l : Layout} → Known r l → (i : ℕ) → i ≤ most_rows → i * l.size ≤ most_rows * line_size most_columns
line_low {r} {l} kn i h = lines-low i l.size h (omega (arith, kn.size', kn.proper.few, count_le r.variables (LC (flow_of r))))

-- ---- a turn
abbrev pub some-row : {r : Rule} {l : Layout} {from : ℕ} {out work : List Word} → Known r l → RowAt r l.quota from out work → SomeRowAt l from out work
some-row {r} kn k = record { rule = r; known = kn; at = k }

-- a row that was read and carried on: its numbers are within their limits, and its record and its line within the buffers
pub record Fits (l : Layout) (from : ℕ) (out work : List Word) (row : Row) (c : Progress) : Type 0 where
  pub row' : row.row < most_rows
  pub begun : row.begun + c.rounds ≤ most_budget
  pub count : c.count ≤ l.quota
  pub quota : l.quota ≤ most_quota
  pub columns : l.variables ≤ most_columns
  pub record' : row.row * record_size l.quota + record_size l.quota ≤ length out
  pub line : from + line_size (count_to l.variables (bit_of l.lc)) ≤ length work

module _ {l : Layout} {from : ℕ} {out work : List Word} {p : SomeRowAt l from out work} {row : Row} (lk : RowRead l from out work p row) where
  abbrev r : Rule
  r = p.rule

  abbrev q : ℕ
  q = l.quota

  abbrev s : State
  s = p.at.state

  pub count-in : row.count ≤ q
  count-in = omega (arith, lk.count, p.at.sound.labels-few)

  abbrev pub in_hand : InHand r q row.block (take row.count row.labels) row.vars
  in_hand = record { state = s; sound = p.at.sound; going = p.at.going; block' = lk.block; labels' = lk.labels'; vars' = lk.vars' }

  -- the budget of the row that was read is its own
  module _ (f : ℕ → ℕ) {N : ℕ} (own : N ≡ f row.row) {c : Progress} {labels vars : List Word} (w : ProgressTo r s (after r q N s) c labels vars) where
    abbrev s' : State
    s' = after r q (f p.at.row) s

    here : ProgressTo r s s' c labels vars
    here = rw (own ∙ ap f lk.row) at w

    sound' : Sound r q (s.begun + f p.at.row) s'
    sound' = after-sound r q p.known.proper s.begun s p.at.sound (f p.at.row)

    begun-is : row.begun + c.rounds ≡ s'.begun
    begun-is = ap (λ (n : ℕ). n + c.rounds) lk.begun ∙ here.begun

    pub fits : s.begun + f p.at.row ≤ most_budget → Fits l from out work row c
    fits h =
        record {
          row' = omega (arith, lk.row, p.at.few);
          begun = omega (arith, begun-is, sound'.began);
          count = omega (arith, here.count, sound'.labels-few);
          quota = p.known.quota;
          columns = omega (arith, p.known.variables, p.known.proper.few);
          record' = rw lk.row (record_fits p);
          line = omega (arith, line-fits p, mask-all p.known);
        }

    -- the record
    module _ (at : ℕ) (ea : at ≡ row.row * record_size q) (out' : List Word)
        (eo : out' ≡ over out at (record_words q c.finish (row.begun + c.rounds) (length (take c.count labels)) (take c.count labels))) where
      its-record : out' ≡ over out (p.at.row * record_size q) (record_of q s')
      its-record =
          let ls : take c.count labels ≡ words_of s'.labels = sym (words-again (take c.count labels)) ∙ ap words_of here.labels' in
          eo ∙ rw (ea, lk.row, begun-is, here.finish, ls, words-length s'.labels)

      -- it has ended
      pub turned-off : (to : ℕ) → goes_on c.finish ≡ false → Turned r q p.at.row to s' out work (record { finish = c.finish; begun = row.begun + c.rounds }) out' work
      turned-off to z = record {
        finish' = here.finish;
        begun' = begun-is;
        record' = its-record;
        line = rw (ap goes_on (sym here.finish) ∙ z);
      }

      -- it goes on
      pub turned_on : (to : ℕ) (work' : List Word) → goes_on c.finish ≡ true → work' ≡ over work to (line_words row.row c.block (row.begun + c.rounds) (columns_of l.variables (bit_of l.lc) (values_in vars)))
          → Turned r q p.at.row to s' out work (record { finish = c.finish; begun = row.begun + c.rounds }) out' work'
      turned_on to work' z ew =
          let on : goes_on s'.finish ≡ true = ap goes_on (sym here.finish) ∙ z in
          record {
            finish' = here.finish;
            begun' = begun-is;
            record' = its-record;
            line = rw on (ew ∙ rw (lk.row, here.block on, begun-is, columns-mask p.known s'.vars (values_in vars) (here.vars' on)));
          }
