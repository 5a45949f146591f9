-- A row is read, carried on, and written.
use mathlib.Core.Path.{sym, ◌∙◌}
use native.Mathlib.Omega.{arith}
use lib.ListN.{length-take}
use Rattle.tables.specs.Runs.{budget_in}
use Rattle.tables.proofs.Turns.{some-row, Fits, count-in, in_hand, fits, turned_on, turned-off}
use Rattle.tables.proofs.Run.turn.Goals as goal
use Rattle.tables.proofs.Run.turn.Goals.{After-carry-c}

-- where the row stands once it is carried on
gone : (c : After-carry-c) → Fits c.args.self.now.layout c.args.m.from c.args.out.now c.args.work.now c.read_row-row.result c.carry-c.result
gone c =
    let k = c.requires.row_may_begin in
    let lk = c.read_row-row.ensures (some-row c.requires.running.0.known k.at) in
    fits lk (budget_in c.args.self.now) c.of-budget.ensures (c.carry-c.ensures (in_hand lk)) k.room

pub carry-c-requires-clause-count_le_quota : goal.carry-c-requires-clause-count_le_quota
carry-c-requires-clause-count_le_quota c =
    let kn = c.requires.running.0.known in
    let lk = c.read_row-row.ensures (some-row kn c.requires.row_may_begin.at) in
    (count-in lk, omega (arith, lk.room, kn.quota))

pub carry-c-requires-clause-in_hand : goal.carry-c-requires-clause-in_hand
carry-c-requires-clause-in_hand c = in_hand (c.read_row-row.ensures (some-row c.requires.running.0.known c.requires.row_may_begin.at))

pub overflow_add-begun : goal.overflow_add-begun
overflow_add-begun c = let g = gone (goal.at.overflow_add-begun c).After-carry-c in omega arith

pub record_at-at-requires : goal.record_at-at-requires
record_at-at-requires c = let g = gone (goal.at.record_at-at-requires c).After-carry-c in (omega arith, g.quota)

pub slice_bounds-labels-end : goal.slice_bounds-labels-end
slice_bounds-labels-end c = let g = gone (goal.at.slice_bounds-labels-end c).After-carry-c in omega arith

pub slice_bounds-put_record-end : goal.slice_bounds-put_record-end
slice_bounds-put_record-end c = let g = gone (goal.at.slice_bounds-put_record-end c).After-carry-c in omega (arith, length-take c.carry-c.result.count c.carry-c.new.labels)

pub put_record-requires : goal.put_record-requires
put_record-requires c =
    let g = gone (goal.at.put_record-requires c).After-carry-c in
    (g.begun, (omega (arith, length-take c.carry-c.result.count c.carry-c.new.labels), (g.quota, omega arith)))

pub put_line-requires : goal.put_line-requires
put_line-requires c = let g = gone (goal.at.put_line-requires c).After-carry-c in (g.row', (g.begun, (g.columns, omega arith)))

pub returns-then-goes_on : goal.returns-then-goes_on
returns-then-goes_on c =
    λ k.
    let lk = c.read_row-row.ensures (some-row c.requires.running.0.known k) in
    turned_on lk (budget_in c.args.self.now) c.of-budget.ensures (c.carry-c.ensures (in_hand lk)) _ c.record_at-at.ensures _ (rw c.told.ensures at c.put_record.ensures) _ _ (sym c.goes_on.ensures ∙ c.if-goes_on.true) c.put_line.ensures

pub returns-else-goes_on : goal.returns-else-goes_on
returns-else-goes_on c =
    λ k.
    let lk = c.read_row-row.ensures (some-row c.requires.running.0.known k) in
    turned-off lk (budget_in c.args.self.now) c.of-budget.ensures (c.carry-c.ensures (in_hand lk)) _ c.record_at-at.ensures _ (rw c.told.ensures at c.put_record.ensures) _ (sym c.goes_on.ensures ∙ c.if-goes_on.false)
