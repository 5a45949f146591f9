-- A whole call: its tests, and the rows from their start on. Assumes nothing.
use mathlib.Core.Path.{◌≡◌, sym, ap, ◌∙◌}
use mathlib.Core.Bool.{true}
use Prim.Native.Nat.{ℕ, ◌+◌, ◌-◌, ◌*◌, ◌≤◌}
use native.Mathlib.Omega.{arith}
use mathlib.Core.List.{List, ◌++◌, append_assoc}
use lib.IntN.{pos}
use lib.ListN.{length, drop, replicate, length-append, length-replicate}
use lib.Seq.{take_at, drop_at}
use Rattle.buffers.specs.Words.{over}
use Rattle.definitions.specs.Values.{Word}
use Rattle.definitions.specs.Rule.{Rule}
use Rattle.definitions.specs.Columns.{flow_of, LC}
use Rattle.definitions.specs.Direct.{State, after, goes_on}
use Rattle.definitions.specs.Batch.{Budgets, budget_of, record_size, records_of, live_of, starts_of, states_of, table_of}
use Rattle.definitions.specs.Finder.{most_rows}
use Rattle.definitions.specs.Calls.{most_budget}
use Rattle.columns.specs.Proper.{Proper}
use Rattle.columns.specs.Row.{SoundNow}
use Rattle.layouts.specs.Layout.{width, lines_in, Known}
use Rattle.layouts.specs.declared.Layout.{Layout}
use Rattle.layouts.proofs.Buffers.{over-is}
use Rattle.tables.specs.Table.{Table, RowsMayBegin, AfterPass}
use Rattle.tables.specs.Runs.{Allowed, ToStart, Started, RowsRun}
use Rattle.tables.specs.declared.Standing.{Standing}
use Rattle.tables.proofs.Rows.{each_map, map-length, lines-length, live-less, records-length}
use Rattle.tables.proofs.Starts.{starts-out, starts-each, starts-length, starts-live, starts-most, starts-sound, starts-wide}
use Rattle.tables.proofs.Turns.{step}

module _ (r : Rule) (ok : Proper r) (values : List Word) (rows : ℕ) (bs : Budgets) (q : ℕ) where
  abbrev N : ℕ → ℕ
  N = budget_of bs

  abbrev starts : List State
  starts = starts_of r values rows

  abbrev go_on : ℕ → State → State
  go_on i = after r q (N i)

  abbrev states : List State
  states = states_of r values rows bs q

  pub many : length states ≡ rows
  many = map-length go_on 0 starts ∙ starts-length r values rows

  pub records-size : length (records_of q states) ≡ rows * record_size q
  records-size =
      records-length r q 0 states (each_map (λ _ s. SoundNow r q s) (λ _ s. SoundNow r q s) go_on (step r q ok N).sound 0 starts (starts-sound r values ok q rows))
      ∙ ap (λ (n : ℕ). n * record_size q) many

  pub live-few : live_of states ≤ rows
  live-few = omega (arith, live-less go_on (step r q ok N).done 0 starts, starts-live r values rows)

  pub table-size : length (table_of r.variables (LC (flow_of r)) states) ≡ rows * width r
  table-size =
      let zs : List Word = replicate ((length states - live_of states) * width r) (pos 0) in
      let all : live_of states + (length states - live_of states) ≡ rows = omega (arith, many, live-few) in
      length-append (lines_in r 0 states) zs
      ∙ omega (arith, lines-length r 0 states, length-replicate ((length states - live_of states) * width r) (pos 0), ap (λ (k : ℕ). k * width r) all)

-- the two buffers with the rows at their start
pub record Laid (r : Rule) (values : List Word) (rows q : ℕ) (out work out1 work1 : List Word) : Type 0 where
  pub few : rows ≤ most_rows
  pub records : out1 ≡ records_of q (starts_of r values rows) ++ drop (rows * record_size q) out
  pub lines : Started r values rows work work1

pub laid : {r : Rule} {l : Layout} {rows : ℕ} {bs : Budgets} {values work work1 : List Word} (out out1 : List Word) → Known r l → Allowed l rows bs (length values) (length out) (length work)
    → (size : ℕ) → size ≡ rows * record_size l.quota → out1 ≡ over out 0 (replicate size (pos 0)) → ((p : ToStart l rows values work) → Started p.rule values rows work work1) → Laid r values rows l.quota out work out1 work1
laid {r} {l} {rows} {values = values} out out1 kn al size es eo put = record {
  few = al.rows_few;
  records = starts-out r values l.quota rows out out1 size es eo;
  lines = put (record { rule = r; known = kn; few = al.rows_few; given = al.given; table = al.table });
}

module _ {r : Rule} {values : List Word} {rows q : ℕ} {out work out1 work1 : List Word} (ok : Proper r) (k : Laid r values rows q out work out1 work1) where
  abbrev at-start : List State
  at-start = starts_of r values rows

  abbrev pub table : Table r q rows out1 work1
  table = record {
    rows = at-start;
    tail = drop (rows * record_size q) out;
    few = omega (arith, starts-length r values rows, k.few);
    sound = starts-sound r values ok q rows;
    records = k.records;
    lines = rw k.lines (take_at (lines_in r 0 at-start) (drop (rows * width r) work) (rows * width r) (starts-wide r values rows));
    count = sym (starts-live r values rows);
  }

  module _ (bs : Budgets) where
    abbrev steps : ℕ → State → State
    steps i = after r q (budget_of bs i)

    abbrev pub may-begin : ((n : ℕ) → budget_of bs n ≤ most_budget) → RowsMayBegin (budget_of bs) r q rows out1 work1
    may-begin h = record { table = table; room = starts-each r values (λ i s. goes_on s.finish ≡ true → s.begun + budget_of bs i ≤ most_budget) (λ i _. omega (arith, h i)) rows }

    module _ {a : Standing} {out2 work2 : List Word} (p : AfterPass r q (record { live = rows; most = 0 }) out1 work1 table steps a out2 work2) where
      abbrev live : ℕ
      live = a.live

      abbrev left : List State
      left = states_of r values rows bs q

      pub fewer : live ≤ rows
      fewer = omega (arith, p.count, live-few r ok values rows bs q)

      -- with the rest of the table cleared
      pub ran : (size : ℕ) (work3 : List Word) → size ≡ width r → work3 ≡ over work2 (live * size) (replicate ((rows - live) * size) (pos 0)) → RowsRun r values rows bs q out work a.most out2 work3
      ran size work3 es ec =
          let zs : List Word = replicate ((rows - live) * width r) (pos 0) in
          let e' : work3 ≡ over work2 (live * width r) zs = rw es at ec in
          let d : drop (rows * width r) work2 ≡ drop (rows * width r) work = p.beyond ∙ rw k.lines (drop_at (lines_in r 0 at-start) (drop (rows * width r) work) (rows * width r) (starts-wide r values rows)) in
          let all : live + (rows - live) ≡ rows = omega (arith, fewer) in
          let n : live * width r + length zs ≡ rows * width r = omega (arith, length-replicate ((rows - live) * width r) (pos 0), ap (λ (k : ℕ). k * width r) all) in
          let w : work3 ≡ lines_in r 0 left ++ (zs ++ drop (rows * width r) work) = e' ∙ over-is work2 (live * width r) zs (rows * width r) n ∙ rw (p.lines, d) in
          record {
            most' = p.greatest (sym (starts-most r values rows));
            records = p.records ∙ rw (records-size r ok values rows bs q);
            table = w ∙ sym (append_assoc (lines_in r 0 left) zs (drop (rows * width r) work)) ∙ rw (table-size r ok values rows bs q, many r ok values rows bs q, p.count);
          }
