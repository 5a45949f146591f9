-- `closure::sweep` meets its contract. What a turn adds or leaves is a law of `Sweeps`.
use Prim.Native.Nat.{◌-◌}
use mathlib.Core.Path.{sym, ◌∙◌}
use mathlib.Core.Bool.{true, false}
use mathlib.Core.Logic.{inl, inr}
use lib.ListN.{length-set}
use lib.Seq.{get_or-set_same, get_or-set_other}
use native.Mathlib.Omega.{arith}
use Rattle.closure.proofs.Sweeps.{sweep_stay, sweep_add}
use Rattle.closure.proofs.sweep.Goals as goal
use Rattle.closure.proofs.sweep.Goals.{else-not-set-b-via-then-not-set-b+else-feeds, else-not-set-b-via-else-not-set-b}

pub loop-b-preserved-then-feeds : goal.loop-b-preserved-then-feeds
loop-b-preserved-then-feeds c = (
  simp length-set c.loop-b.invariant.0,
  sweep_add _ _ _ c.loop-b.b _ _ _ (omega arith) (omega arith) c.loop-b.invariant.1 c.if-not-set-b.true (sym c.feeds.ensures ∙ c.if-feeds.true)
      (get_or-set_same c.loop-b.set (c.loop-b.b - 1) true false (omega arith)) (λ i o. get_or-set_other c.loop-b.set (c.loop-b.b - 1) i true false o),
)

pub loop-b-preserved : goal.loop-b-preserved
loop-b-preserved c = (
  c.loop-b.invariant.0,
  sweep_stay _ _ _ c.loop-b.b _ _ (omega arith) c.loop-b.invariant.1
      (elim c.else-not-set-b.branch [
        | else-not-set-b-via-then-not-set-b+else-feeds w ↦ inr (sym w.feeds.ensures ∙ w.if-feeds.false)
        | else-not-set-b-via-else-not-set-b w ↦ inl w.if-not-set-b.false
      ]),
)
