-- After k turns the columns among the first k variables are spread out.
use mathlib.Core.Path.{◌≡◌}
use lib.ListN.{drop}
use Rattle.definitions.specs.Values.{values_in}
use Rattle.definitions.specs.Plan.{bit_of}
use Rattle.columns.specs.OnPlan.{spread}
use Rattle.layouts.proofs.columns_at.Given as goal

abbrev pub invariant-loop-k : goal.invariant-loop-k
invariant-loop-k l = values_in l.vars ≡ spread l.k (bit_of l.l.lc) (values_in (drop l.at l.work))
