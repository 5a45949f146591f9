-- `blocks::keep` meets its contract. The loop's invariant: the variables below k are kept by their bits.
use mathlib.Core.Path.{◌≡◌, refl, ◌∙◌}
use native.Mathlib.Omega.{arith}
use Rattle.columns.specs.OnPlan.{kept}
use Rattle.definitions.specs.Values.{values_in}
use Rattle.rounds.proofs.Keeping.{kept_out-words, kept_in}
use Rattle.rounds.proofs.blocks.keep.Goals as goal
use Rattle.rounds.proofs.blocks.keep.Goals.{then-mask-k-eq0, else-mask-k-eq0}

pub loop-k-init : goal.loop-k-init
unfolding kept
loop-k-init c = refl

pub loop-k-preserved : goal.loop-k-preserved
loop-k-preserved c =
    let env = values_in c.args.vars.now in
    elim c.if-mask-k-eq0.branch [
      | then-mask-k-eq0 w ↦ rw w.vars-is (kept_out-words c.args.mask c.loop-k.k env c.loop-k.vars w.if-mask-k-eq0.true c.loop-k.invariant)
      | else-mask-k-eq0 w ↦ rw w.vars-is (c.loop-k.invariant ∙ kept_in c.args.mask c.loop-k.k env w.if-mask-k-eq0.false)
    ]

pub returns : goal.returns
returns c = let e : c.loop-k.k ≡ c.args.v = omega arith in rw e at c.loop-k.invariant
