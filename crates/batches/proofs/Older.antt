-- A run under a plan from before K3 that the new sets change: 15, and no word of either buffer moves. Assumes nothing.
use Prim.Native.Nat.{ℕ}
use mathlib.Core.Path.{◌≡◌, ap, ◌∙◌}
use mathlib.Core.List.{List}
use Rattle.definitions.specs.Values.{Word}
use Rattle.definitions.specs.Rule.{Rule}
use Rattle.definitions.specs.Grammar.{got, rule_of}
use Rattle.definitions.specs.Plan.{plan_of, planned}
use Rattle.definitions.specs.Calls.{Batch, Ran}
use Rattle.definitions.specs.Refusals.{Reply}
use Rattle.plans.specs.Older.{older_plan}
use Rattle.plans.proofs.Older.{changed_refused}
use Rattle.batches.proofs.Promises.{one_outcome}
use Rattle.batches.proofs.Replies.{ran_unplanned}
use Rattle.definitions.specs.declared.Reason.TheVariants.{NotPlan}
use Rattle.definitions.specs.Refusals.{refusal}

pub older_run : (b : Batch) (out work : List Word) (reply : Reply) (o w : List Word) → Ran b out work reply o w
    → (s : List ℕ) (r : Rule) (n : ℕ) → rule_of s ≡ got r n → (plan_of r s ≡ older_plan r s → ⊥) → b.plan ≡ older_plan r s
    → (reply ≡ refusal NotPlan 0) × (o ≡ out) × (w ≡ work)
older_run b out work reply o w ran s r n e differs same =
    one_outcome b out work reply (refusal NotPlan 0) o out w work ran (ran_unplanned b out work NotPlan 0 (ap planned same ∙ changed_refused s r n e differs))
