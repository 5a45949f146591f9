-- `blocks::run_body` meets its contract. The loop's invariant: the statements left, from where it stands, give what all of them give. The
-- measure is what is left of the length. Each turn and each return is a law of `Stepping`.
use Prim.Native.Nat.{◌-◌}
use lib.ListN.{length}
use Rattle.rounds.specs.Run.{BlockHere}
use Rattle.rounds.proofs.Stepping.{Rest}
use Rattle.rounds.proofs.blocks.run_body.Given as goal

abbrev pub invariant-loop-i : goal.invariant-loop-i
invariant-loop-i l = (h : BlockHere l.v l.s l.at) → Rest l.v l.s l.at h l.quota l.initial.count l.initial.vars l.initial.labels l.vars l.labels l.i l.count

abbrev pub decreases-loop-i : goal.decreases-loop-i
decreases-loop-i l = length l.s - l.i
