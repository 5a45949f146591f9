-- Between two turns: the lines written stand at the front, those still to read behind.
use Prim.Native.Nat.{◌≤◌}
use Rattle.tables.specs.Table.{Table}
use Rattle.tables.specs.Runs.{rule_of, step_of}
use Rattle.tables.proofs.Passes.{Between}
use Rattle.tables.proofs.Run.pass.Given as goal

abbrev pub invariant-loop-i : goal.invariant-loop-i
invariant-loop-i l =
    (l.live ≤ l.i)
    × ((t : Table (rule_of l.self) l.self.layout.quota l.fn.before.live l.initial.out l.initial.work)
    → Between (rule_of l.self) l.self.layout.quota (step_of l.self) l.fn.before l.initial.out l.initial.work t l.i l.live l.most l.out l.work)
