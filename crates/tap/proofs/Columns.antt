-- What `columns` tells: exactly whether the bytes are some rule's plan, and the room that a run under it needs. Assumes nothing.
use Prim.Native.Nat.{ℕ, ◌+◌, ◌*◌, ◌≤◌, ◌<◌}
use native.Mathlib.Omega.{arith}
use mathlib.Core.Path.{◌≡◌, refl, sym, ap, ◌∙◌}
use mathlib.Core.List.{List}
use lib.ListN.{length}
use Rattle.definitions.specs.Values.{Word}
use Rattle.definitions.specs.Rule.{Rule}
use Rattle.definitions.specs.Grammar.{Got, got, refused}
use Rattle.definitions.specs.Columns.{flow_of, LC}
use Rattle.definitions.specs.Plan.{carried, planned}
use Rattle.definitions.specs.Batch.{line_size}
use Rattle.definitions.specs.Calls.{Batch, Ran, columns, columns_reply}
use Rattle.definitions.specs.Refusals.{Reply}
use Rattle.definitions.proofs.Counts.{count_le}
use Rattle.readers.proofs.Accepted.{rule-in}
use Rattle.rules.proofs.Uncycled.{rule-parsed}
use Rattle.plans.specs.Accepted.{PlanOf}
use Rattle.plans.proofs.Accepted.{is-plan}
use Rattle.plans.proofs.Planned.{plan-exactly}
use Rattle.batches.specs.Replies.{UnderRule, misfit, high, high_row, short_out, short_work, done, ToRun, no_plan, under}
use Rattle.batches.proofs.Exactly.{run_exactly}
use Rattle.tap.specs.Packed.{half, packed, Clear}
use Rattle.std.specs.Prelude.{Ok}
use Rattle.definitions.specs.declared.Reason.TheVariants.{NoRoom, Misfit, OverLimit, NotPlan}
use Rattle.definitions.specs.Refusals.{number_of, refusal}
use Rattle.definitions.specs.declared.Reason.{Reason}

-- the answer is small
pub clear-columns : (plan : List ℕ) {x : Reply} → x ≡ columns_reply (planned plan) → Clear x
unfolding columns_reply Clear
clear-columns plan e = rw e (go (planned plan) refl)
  where
    go : (p : Got Rule) → planned plan ≡ p → Clear (columns_reply p)
    go (got r n) i = omega (arith, count_le r.variables (LC (flow_of r)), (rule-in (carried plan) r n (rule-parsed (carried plan) r n ((is-plan plan r n).0 i).rule)).variables-to)
    go (refused k p) i = (omega arith, (omega arith, omega arith))

module _ (plan : List ℕ) where
  pub columns_of_lem : (r : Rule) → PlanOf plan r → columns_reply (planned plan) ≡ Ok (columns r)
  unfolding columns_reply
  columns_of_lem r h = ap columns_reply ((plan-exactly plan r).1 h).1

  pub columns-none : ((r : Rule) → PlanOf plan r → ⊥) → columns_reply (planned plan) ≡ refusal NotPlan 0
  unfolding columns_reply
  columns-none h = go (planned plan) refl
    where
      go : (p : Got Rule) → planned plan ≡ p → columns_reply p ≡ refusal NotPlan 0
      go (got r n) e = absurd (h r ((plan-exactly plan r).0 (n, e)))
      go (refused k p) e = refl

-- another refusal than 12 at 1 has another answer
other : (k : Reason) (p : ℕ) → refusal k p ≡ refusal NoRoom 1 → number_of k * half + p ≡ 12 * half + 1
unfolding packed
other k p e = ap packed e

-- a working buffer with room for so many columns is never refused as too short
module _ {b : Batch} {out work out' work' : List Word} {r : Reply} {n : ℕ} where
  pub room-enough : Ran b out work r out' work' → columns_reply (planned b.plan) ≡ Ok n → b.rows * line_size n ≤ length work → r ≡ refusal NoRoom 1 → ⊥
  room-enough ran told room e = go (refusal NoRoom 1) refl ((run_exactly b out work r out' work' ran (refusal NoRoom 1)).0 e)
    where
      row : (s : Rule) (q : Reply) → q ≡ refusal NoRoom 1 → columns s ≡ n → UnderRule b s (length out) (length work) q → ⊥
      row s _ d c (misfit h) = omega (arith, other Misfit 0 d)
      row s _ d c (high f h) = omega (arith, other OverLimit 0 d)
      row s _ d c (high_row {n = m} f l h) = omega (arith, other OverLimit m d)
      row s _ d c (short_out f l h) = omega (arith, other NoRoom 0 d)
      row s _ d c (short_work f l o h) = let z : length work < b.rows * line_size n = rw (← c) h in omega arith
      row s _ d c (done f l o w) = let z : ◌≡◌ {A = ℕ} 0 1 = cc in omega arith

      go : (q : Reply) → q ≡ refusal NoRoom 1 → ToRun b (length out) (length work) q → ⊥
      go _ d (no_plan h) = omega (arith, other NotPlan 0 d)
      go q d (under {r = s} p h) = row s q d (let e : Ok (columns s) ≡ Ok n = sym (columns_of_lem b.plan s p) ∙ told in cc) h
