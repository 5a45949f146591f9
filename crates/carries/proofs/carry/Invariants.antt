-- After each turn the row stands where the direct run's does after as many rounds.
use mathlib.Core.Path.{◌≡◌}
use lib.ListN.{take}
use Rattle.definitions.specs.Direct.{after}
use Rattle.plans.specs.Accepted.{rule_in}
use Rattle.carries.specs.Carry.{InHand, ProgressTo}
use Rattle.carries.proofs.carry.Given as goal

abbrev pub invariant-loop-n : goal.invariant-loop-n
invariant-loop-n l =
    (l.c.rounds ≡ l.n)
    × ((k : InHand (rule_in l.plan) l.quota l.initial.c.block (take l.initial.c.count l.initial.labels) l.initial.vars) → ProgressTo (rule_in l.plan) k.state (after (rule_in l.plan) l.quota l.n k.state) l.c l.labels l.vars)
