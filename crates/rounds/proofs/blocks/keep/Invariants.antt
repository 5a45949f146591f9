-- `blocks::keep` meets its contract. The loop's invariant: the variables below k are kept by their bits.
use mathlib.Core.Path.{◌≡◌}
use Rattle.columns.specs.OnPlan.{kept}
use Rattle.definitions.specs.Values.{values_in}
use Rattle.definitions.specs.Plan.{bit_of}
use Rattle.rounds.proofs.blocks.keep.Given as goal

abbrev pub invariant-loop-k : goal.invariant-loop-k
invariant-loop-k l = values_in l.vars ≡ kept l.k (bit_of l.mask) (values_in l.initial.vars)
