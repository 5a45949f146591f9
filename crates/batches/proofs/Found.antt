-- What the finder hands back after a call that was not refused: the direct run's record of a row that has ended, the line of one that has not, each where
-- it lies in the caller's buffers. Assumes nothing.
use Prim.Native.Nat.{ℕ, ◌+◌, ◌*◌, ◌≤◌}
use native.Mathlib.Omega.{arith}
use mathlib.Core.Path.{◌≡◌, refl, sym, ap, ◌∙◌}
use mathlib.Core.Bool.{true, false}
use mathlib.Core.List.{List, append_assoc}
use lib.IntN.{pos}
use lib.ListN.{length, drop, get_or, length-append, length-drop}
use denote.Ref.{Bor}
use borrow.Author.Tests.{lt-ltb, le-leb}
use Rattle.definitions.specs.Values.{Word, Val}
use Rattle.definitions.specs.Rule.{Rule}
use Rattle.definitions.specs.Grammar.{got}
use Rattle.definitions.specs.Columns.{flow_of, LC}
use Rattle.definitions.specs.Plan.{planned}
use Rattle.definitions.specs.Direct.{State, goes_on, start, after}
use Rattle.definitions.specs.Batch.{record_size, line_size, record_of, line_of, live_of, states_of}
use Rattle.definitions.specs.Finder.{Part, is_number, found_in, most_rows, most_quota, most_columns}
use Rattle.definitions.specs.Calls.{Batch, columns, table_in}
use Rattle.definitions.proofs.Counts.{count_le}
use Rattle.layouts.specs.Layout.{lines_in}
use Rattle.finder.specs.Limits.{within}
use Rattle.finder.proofs.Finds.{found-line, found_record}
use Rattle.layouts.proofs.Buffers.{part_get}
use Rattle.batches.proofs.Accepted.{is-proper}
use Rattle.batches.proofs.Promises.{Called, record_at, rounds_of, direct}
use Rattle.batches.proofs.Exactly.{run_exactly, done-within}
use Rattle.batches.proofs.Searches.{address_of, its-line}
use Rattle.std.specs.Prelude.{Ok}
use Rattle.definitions.specs.Direct.{status_number}
use Rattle.definitions.proofs.Ends.{zero-is}

-- ---- the promises

-- some batch holds a row with these arguments at place k, its call was not refused, and in the two buffers that it left the row is looked for
pub record Sought (plan : List ℕ) (r : Rule) (args : List Val) (N q k : ℕ) : Type 0 where
  pub result : Bor (List Word)
  pub work : Bor (List Word)
  pub called : Called plan r args N q k result.now
  pub table : called.table ≡ work.now

-- what `find` hands back then
abbrev pub found_for : {plan : List ℕ} {r : Rule} {args : List Val} {N q k : ℕ} → Sought plan r args N q k → Part
found_for {r = r} {q = q} {k = k} a = found_in a.result a.work a.called.batch.rows q (columns r) k

module _ (plan : List ℕ) (r : Rule) (n : ℕ) (accepted : planned plan ≡ got r n) (args : List Val) (N q : ℕ) where
  -- the row's direct run
  abbrev its : State
  its = after r q N (start r args)

  module _ (k : ℕ) (a : Sought plan r args N q k) where
    abbrev batch : Batch
    batch = a.called.batch

    record-words : record_at q k a.result.now ≡ record_of q its
    record-words = direct plan r n accepted args q N k a.result.now a.called

    status-word : get_or a.result.now (k * record_size q) (pos 0) ≡ pos (status_number its.finish)
    status-word =
        let e : k * record_size q + 0 ≡ k * record_size q = omega arith in
        rw (← e) (part_get a.result.now (record_of q its) (k * record_size q) (record_size q) 0 (pos 0) record-words (omega arith))

    inside : within batch.rows q (columns r) k (length a.result.now) ≡ true
    unfolding within
    inside =
        let c = a.called in
        let l = done-within c.quota ((run_exactly batch c.out c.work (Ok c.most) a.result.now c.table c.ran (Ok c.most)).0 refl) in
        let kept : length c.out ≤ length a.result.now = omega (arith, simp (length-append, length-drop) at (ap length c.ran.result)) in
        let narrow : columns r ≤ most_columns = omega (arith, count_le r.variables (LC (flow_of r)), (is-proper plan r n accepted).few) in
        rw (lt-ltb k batch.rows c.within, le-leb batch.rows most_rows l.0, le-leb q most_quota l.1.0, le-leb (columns r) most_columns narrow, le-leb (batch.rows * record_size q) (length a.result.now) (omega arith))

    -- a row that has ended: its record, where it stands in the result buffer
    pub ended-found : goes_on its.finish ≡ false → found_for a ≡ (address_of a.result (k * record_size q), record_of q its)
    unfolding is_number
    ended-found z =
        sym (found_record a.result a.work batch.rows q (columns r) k inside (ap (λ (x : Word). is_number x 0) status-word ∙ zero-is its.finish ∙ z))
        ∙ ap (λ (x : List Word). (address_of a.result (k * record_size q), x)) record-words

    -- how many rows before it are unfinished
    abbrev pub lines_before : ℕ
    lines_before = live_of (states_of r batch.values k batch.budgets q)

    -- an unfinished row: its line, where it stands in the working buffer
    pub unfinished-found : goes_on its.finish ≡ true → found_for a ≡ (address_of a.work (lines_before * line_size (columns r)), line_of r.variables (LC (flow_of r)) k its)
    unfolding is_number table_in
    unfinished-found z =
        let c = a.called in
        let w = sym (rw (ap planned c.plan' ∙ accepted) at c.ran.working) ∙ a.table in
        sym (found-line a.result a.work batch.rows q (columns r) k inside (ap (λ (x : Word). is_number x 0) status-word ∙ zero-is its.finish ∙ z))
        ∙ its-line r batch.values args batch.rows batch.budgets batch.quota N q k a.work _ (sym (append_assoc (lines_in r 0 (states_of r batch.values batch.rows batch.budgets batch.quota)) _ _) ∙ w) c.budget c.quota c.args' c.within z

    -- a line's third word is its record's second
    pub line-rounds : goes_on its.finish ≡ true → get_or (found_for a).1 2 (pos 0) ≡ rounds_of (record_at q k a.result.now)
    line-rounds z = rw (unfinished-found z, record-words)

  -- a line does not depend on the row's neighbours, and of its words only the first depends on the row's place
  pub line-alone : (k k' : ℕ) (a : Sought plan r args N q k) (a' : Sought plan r args N q k') → goes_on its.finish ≡ true → drop 1 (found_for a).1 ≡ drop 1 (found_for a').1
  line-alone k k' a a' z = rw (unfinished-found k a z, unfinished-found k' a' z)
