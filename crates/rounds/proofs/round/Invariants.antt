-- `rounds::round` meets its contract. The loop's invariant: the walk that is left gives what the whole walk gives.
use Prim.Native.Nat.{◌-◌}
use Rattle.rounds.specs.Round.{Going}
use Rattle.rounds.proofs.round.Given as goal

abbrev pub invariant-loop : goal.invariant-loop
invariant-loop l = Going l.plan l.quota l.block l.count l.initial.vars l.initial.labels (l.end - l.counter) l.b l.n l.vars l.labels
