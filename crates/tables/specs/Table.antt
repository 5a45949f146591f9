-- The rows of a batch in its two buffers, as the code finds and leaves them. Each of these holds for every rows that stand there.
use Rattle.std.specs.Prelude.{ℕ, ◌+◌, ◌*◌, ◌≤◌, ◌≡◌, true, cond, List, [], ◌∷◌, ◌++◌, length, take, drop}
use Prim.{Unit}
use Rattle.buffers.specs.Words.{over}
use Rattle.definitions.specs.Values.{Word}
use Rattle.definitions.specs.Rule.{Rule}
use Rattle.definitions.specs.Direct.{State, goes_on}
use Rattle.definitions.specs.Batch.{Budgets, common, each, map_from, record_size, record_of, records_of, live_of, most_of}
use Rattle.definitions.specs.Finder.{most_rows}
use Rattle.definitions.specs.Calls.{most_budget}
use Rattle.columns.specs.Row.{SoundNow}
use Rattle.layouts.specs.Layout.{width, line_in, lines_in}
use Rattle.layouts.specs.Rows.{RowAt}
use Rattle.tables.specs.declared.Budgets as told
use Rattle.tables.specs.declared.Budgets.TheVariants.{Common, Each}
use Rattle.tables.specs.declared.Stage.{Stage}
use Rattle.tables.specs.declared.Standing.{Standing}

-- ---- the budgets of a call, as the code has them
abbrev pub budgets_in : told.Budgets → Budgets
budgets_in (Common N) = common N
budgets_in (Each Ns) = each Ns.now

-- ---- one row

-- a row that stands in the two buffers, and may begin as many rounds more as N says of its number
pub record RowMayBegin (N : ℕ → ℕ) (r : Rule) (q from : ℕ) (out work : List Word) : Type 0 where
  pub at : RowAt r q from out work
  pub room : at.state.begun + N at.row ≤ most_budget

-- what is left when row `row` has gone on to s: its record, and its line at `to` if it still goes on
pub record Turned (r : Rule) (q row to : ℕ) (s : State) (out work : List Word) (g : Stage) (out' work' : List Word) : Type 0 where
  pub finish' : g.finish ≡ s.finish
  pub begun' : g.begun ≡ s.begun
  pub record' : out' ≡ over out (row * record_size q) (record_of q s)
  pub line : work' ≡ cond (goes_on s.finish) (over work to (line_in r row s)) work

-- ---- all rows, which are numbered from k on

-- what holds of each row and its number
unfoldable pub EachRow : (ℕ → State → Type 0) → ℕ → List State → Type 0
EachRow P k [] = Unit {0}
EachRow P k (s ∷ ss) = P k s × EachRow P (k + 1) ss

-- rows that stand in the two buffers: all records, and the table of the unfinished rows
pub record Table (r : Rule) (q live : ℕ) (out work : List Word) : Type 0 where
  pub rows : List State
  pub tail : List Word
  pub few : length rows ≤ most_rows
  pub sound : EachRow (λ _ s. SoundNow r q s) 0 rows
  pub records : out ≡ records_of q rows ++ tail
  pub lines : take (live * width r) work ≡ lines_in r 0 rows
  pub count : live ≡ live_of rows

-- such rows, of which row i, while it goes on, may begin N i rounds more
pub record RowsMayBegin (N : ℕ → ℕ) (r : Rule) (q live : ℕ) (out work : List Word) : Type 0 where
  pub table : Table r q live out work
  pub room : EachRow (λ i s. goes_on s.finish ≡ true → s.begun + N i ≤ most_budget) 0 table.rows

-- what is left when row i has gone on by g i
pub record AfterPass (r : Rule) (q : ℕ) (b : Standing) (out work : List Word) (t : Table r q b.live out work) (g : ℕ → State → State) (a : Standing) (out' work' : List Word) : Type 0 where
  pub records : out' ≡ records_of q (map_from g 0 t.rows) ++ t.tail
  pub lines : take (a.live * width r) work' ≡ lines_in r 0 (map_from g 0 t.rows)
  pub beyond : drop (b.live * width r) work' ≡ drop (b.live * width r) work
  pub count : a.live ≡ live_of (map_from g 0 t.rows)
  pub greatest : b.most ≡ most_of t.rows → a.most ≡ most_of (map_from g 0 t.rows)
