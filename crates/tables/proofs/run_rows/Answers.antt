-- The rows at their start, one pass by the budget, the rest of the table cleared.
use Prim.Native.Nat.{ℕ, ◌+◌, ◌-◌, ◌*◌, ◌≤◌}
use mathlib.Core.Path.{◌≡◌, ap}
use native.Mathlib.Omega.{arith}
use Rattle.tables.specs.Table.{budgets_in}
use Rattle.tables.proofs.Turns.{line_low}
use Rattle.tables.proofs.Runs.{laid, table, may-begin, fewer, ran}
use Rattle.tables.proofs.run_rows.Goals as goal
use Rattle.tables.proofs.run_rows.Goals.{After-pass-s}

pub pass-s-requires-clause-rows_may_begin : goal.pass-s-requires-clause-rows_may_begin
pass-s-requires-clause-rows_may_begin c =
    let kn = c.requires.running.1 in
    let k = laid c.args.out.now _ kn c.requires.allowed _ c.record_at.ensures c.clear_at.ensures c.put_starts.ensures in
    may-begin kn.proper k (budgets_in c.args.budgets) c.requires.allowed.budgets-low

-- what the pass left
passed : (c : After-pass-s) → c.pass-s.result.live ≤ c.args.rows
passed c =
    let kn = c.requires.running.1 in
    let k = laid c.args.out.now _ kn c.requires.allowed _ c.record_at.ensures c.clear_at.ensures c.put_starts.ensures in
    fewer kn.proper k (budgets_in c.args.budgets) (c.pass-s.ensures (table kn.proper k))

pub overflow_mul-live : goal.overflow_mul-live
overflow_mul-live c =
    omega (arith, line_low c.requires.running.1 c.pass-s.result.live (omega (arith, c.requires.allowed.rows_few, passed (goal.at.overflow_mul-live c).After-pass-s)))

pub overflow_sub-rows : goal.overflow_sub-rows
overflow_sub-rows c = omega (arith, passed (goal.at.overflow_sub-rows c).After-pass-s)

pub clear_at-requires-2 : goal.clear_at-requires-2
clear_at-requires-2 c =
    let a = c.args in
    let live = c.pass-s.result.live in
    let all : live + (a.rows - live) ≡ a.rows = omega (arith, passed (goal.at.clear_at-requires-2 c).After-pass-s) in
    omega (arith, ap (λ (n : ℕ). n * a.l.size) all, c.requires.allowed.table, c.pass-s.auto.work, c.put_starts.auto.work)

pub returns : goal.returns
returns c =
    let kn = c.requires.running.1 in
    let k = laid c.args.out.now _ kn c.requires.allowed _ c.record_at.ensures c.clear_at.ensures c.put_starts.ensures in
    ran kn.proper k (budgets_in c.args.budgets) (c.pass-s.ensures (table kn.proper k)) _ _ kn.size' c.clear_at-2.ensures
