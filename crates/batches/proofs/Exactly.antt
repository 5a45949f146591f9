-- A run gives each reply exactly if its row of the table holds. Assumes nothing.
use Prim.Native.Nat.{ℕ, ◌*◌, ◌≤◌, ◌<◌}
use mathlib.Core.Path.{◌≡◌, refl, sym, ap, ◌∙◌}
use mathlib.Core.Bool.{Bool, true, false, not, ◌||◌}
use mathlib.Core.Logic.{◌↔◌, ◌⊎◌, inl, inr}
use mathlib.Core.List.{List}
use native.Mathlib.Omega.{arith}
use lib.Dec.{eqb, ltb}
use lib.ListN.{length}
use borrow.Author.Tests.{eqb-true, eqb-false, eq-eqb, ne_eqb, lt-ltb, le-ltb}
use Rattle.definitions.specs.Values.{Word}
use Rattle.definitions.specs.Rule.{Rule}
use Rattle.definitions.specs.Grammar.{Got, got, refused}
use Rattle.definitions.specs.Plan.{planned}
use Rattle.definitions.specs.Batch.{record_size, line_size}
use Rattle.definitions.specs.Finder.{most_rows, most_quota}
use Rattle.definitions.specs.Calls.{Batch, Ran, brought, as_many, ran_reply, run_reply, columns}
use Rattle.definitions.specs.Refusals.{Reply}
use Rattle.definitions.proofs.Tests.{or_right, less_or}
use Rattle.plans.proofs.Planned.{plan-exactly}
use Rattle.batches.proofs.Budgets.{first-is, over_or, is-over, is_none, is-counted, is-miscounted, counted_or}
use Rattle.batches.specs.Replies.{Counted, Fitting, NoneOver, FirstOver, UnderRule, misfit, high, high_row, short_out, short_work, done, ToRun, no_plan, under}
use Rattle.std.specs.Prelude.{Ok}
use Rattle.definitions.specs.declared.Reason.TheVariants.{NotPlan}
use Rattle.definitions.specs.Refusals.{refusal}
use Rattle.definitions.specs.declared.Reason.{Reason}

same_or : (a b : ℕ) → (a ≡ b) ⊎ (a ≡ b → ⊥)
same_or a b = go (eqb a b) refl
  where
    go : (x : Bool) → eqb a b ≡ x → (a ≡ b) ⊎ (a ≡ b → ⊥)
    go true e = inl (eqb-true a b e)
    go false e = inr (eqb-false a b e)

-- ---- under a rule
module _ (b : Batch) (r : Rule) (out work : ℕ) where
  -- some row of the table holds
  some-row : (q : Reply) × UnderRule b r out work q
  some-row =
      go (less_or most_rows b.rows) (same_or (length b.values) (b.rows * r.arguments)) (counted_or b.rows b.budgets) (less_or most_quota b.quota) (over_or (brought b.budgets))
      (less_or out (b.rows * record_size b.quota)) (less_or work (b.rows * line_size (columns r)))
    where
      go : (most_rows < b.rows) ⊎ (b.rows ≤ most_rows) → (length b.values ≡ b.rows * r.arguments) ⊎ (length b.values ≡ b.rows * r.arguments → ⊥)
          → Counted b.rows b.budgets ⊎ (Counted b.rows b.budgets → ⊥) → (most_quota < b.quota) ⊎ (b.quota ≤ most_quota)
          → ((n : ℕ) × FirstOver (brought b.budgets) n) ⊎ NoneOver (brought b.budgets)
          → (out < b.rows * record_size b.quota) ⊎ (b.rows * record_size b.quota ≤ out) → (work < b.rows * line_size (columns r)) ⊎ (b.rows * line_size (columns r) ≤ work)
          → (q : Reply) × UnderRule b r out work q
      go (inl h) _ _ _ _ _ _ = (_, misfit (inl h))
      go (inr f) (inr h) _ _ _ _ _ = (_, misfit (inr (inl h)))
      go (inr f) (inl g) (inr h) _ _ _ _ = (_, misfit (inr (inr h)))
      go (inr f) (inl g) (inl c) (inl h) _ _ _ = (_, high (record { few = f; given = g; counted = c }) h)
      go (inr f) (inl g) (inl c) (inr l) (inl h) _ _ = (_, high_row (record { few = f; given = g; counted = c }) l h.1)
      go (inr f) (inl g) (inl c) (inr l) (inr n) (inl h) _ = (_, short_out (record { few = f; given = g; counted = c }) (record { budgets-low = n; quota-low = l }) h)
      go (inr f) (inl g) (inl c) (inr l) (inr n) (inr o) (inl h) = (_, short_work (record { few = f; given = g; counted = c }) (record { budgets-low = n; quota-low = l }) o h)
      go (inr f) (inl g) (inl c) (inr l) (inr n) (inr o) (inr w) = (_, done (record { few = f; given = g; counted = c }) (record { budgets-low = n; quota-low = l }) o w)

  -- the test of 13
  abbrev misfits : Bool
  misfits = ltb most_rows b.rows || (not (eqb (length b.values) (b.rows * r.arguments)) || not (as_many b.rows b.budgets))

  is-misfit : (most_rows < b.rows) ⊎ ((length b.values ≡ b.rows * r.arguments → ⊥) ⊎ (Counted b.rows b.budgets → ⊥)) → misfits ≡ true
  is-misfit (inl h) = rw (lt-ltb most_rows b.rows h)
  is-misfit (inr (inl h)) = or_right (ltb most_rows b.rows) _ (rw (ne_eqb (length b.values) (b.rows * r.arguments) h))
  is-misfit (inr (inr h)) = or_right (ltb most_rows b.rows) _ (or_right (not (eqb (length b.values) (b.rows * r.arguments))) _ (ap not (is-miscounted b.rows b.budgets h)))

  is_fitting : Fitting b r → misfits ≡ false
  is_fitting f = rw (le-ltb most_rows b.rows f.few, eq-eqb (length b.values) (b.rows * r.arguments) f.given, is-counted b.rows b.budgets f.counted)

  -- and it is the one whose reply is given
  only_row : (q : Reply) → UnderRule b r out work q → ran_reply b r out work ≡ q
  unfolding ran_reply
  only_row _ (misfit h) = rw (is-misfit h)
  only_row _ (high f h) = rw (is_fitting f, lt-ltb most_quota b.quota h)
  only_row _ (high_row {n} f l h) = rw (is_fitting f, le-ltb most_quota b.quota l, is-over (brought b.budgets) n h, first-is (brought b.budgets) n h)
  only_row _ (short_out f l h) = rw (is_fitting f, le-ltb most_quota b.quota l.quota-low, is_none (brought b.budgets) l.budgets-low, lt-ltb out (b.rows * record_size b.quota) h)
  only_row _ (short_work f l o h) =
      rw (is_fitting f, le-ltb most_quota b.quota l.quota-low, is_none (brought b.budgets) l.budgets-low, le-ltb out (b.rows * record_size b.quota) o, lt-ltb work (b.rows * line_size (columns r)) h)
  only_row _ (done f l o w) =
      rw (is_fitting f, le-ltb most_quota b.quota l.quota-low, is_none (brought b.budgets) l.budgets-low, le-ltb out (b.rows * record_size b.quota) o, le-ltb work (b.rows * line_size (columns r)) w)

-- ---- of any bytes
module _ (b : Batch) (out work : ℕ) where
  some-reply : (q : Reply) × ToRun b out work q
  some-reply = go (planned b.plan) refl
    where
      go : (g : Got Rule) → planned b.plan ≡ g → (q : Reply) × ToRun b out work q
      go (got r n) e = let s = some-row b r out work in (s.0, under ((plan-exactly b.plan r).0 (n, e)) s.1)
      go (refused k p) e = (refusal NotPlan 0, no_plan (λ r h. let a = (plan-exactly b.plan r).1 h in let i = a.1 in let z : ◌≡◌ {A = ℕ} 0 1 = cc in omega arith))

  only-reply : (q : Reply) → ToRun b out work q → run_reply b (planned b.plan) out work ≡ q
  unfolding run_reply
  only-reply q (under {r} p h) = rw ((plan-exactly b.plan r).1 p).1 (only_row b r out work q h)
  only-reply _ (no_plan h) = go (planned b.plan) refl
    where
      go : (g : Got Rule) → planned b.plan ≡ g → run_reply b g out work ≡ refusal NotPlan 0
      go (got r n) e = absurd (h r ((plan-exactly b.plan r).0 (n, e)))
      go (refused k p) e = refl

pub run_exactly : (b : Batch) (out work : List Word) (r : Reply) (out' work' : List Word) → Ran b out work r out' work' → (q : Reply) → (r ≡ q) ↔ ToRun b (length out) (length work) q
run_exactly b out work r out' work' w q =
    let s = some-reply b (length out) (length work) in
    (λ e. rw (sym (only-reply b (length out) (length work) s.0 s.1) ∙ sym w.reply ∙ e) at s.1, λ h. w.reply ∙ only-reply b (length out) (length work) q h)

-- a refusal is no run that is done
no-done : {k : Reason} {p most : ℕ} {A : Type 0} → refusal k p ≡ Ok most → A
no-done e = let z : ◌≡◌ {A = ℕ} 0 1 = cc in absurd (omega arith)

-- a run that is done kept to the limits, and its records fit
abbrev Kept : Batch → ℕ → Type 0
Kept b out = (b.rows ≤ most_rows) × ((b.quota ≤ most_quota) × (b.rows * record_size b.quota ≤ out))

module _ {b : Batch} {out work most : ℕ} where
  under-within : {r : Rule} {q : Reply} → UnderRule b r out work q → q ≡ Ok most → Kept b out
  under-within (misfit _) e = no-done e
  under-within (high _ _) e = no-done e
  under-within (high_row _ _ _) e = no-done e
  under-within (short_out _ _ _) e = no-done e
  under-within (short_work _ _ _ _) e = no-done e
  under-within (done f l h _) e = (f.few, (l.quota-low, h))

  run-within : {q : Reply} → ToRun b out work q → q ≡ Ok most → Kept b out
  run-within (no_plan _) e = no-done e
  run-within (under p w) e = under-within w e

pub done-within : {b : Batch} {out work most : ℕ} {q : ℕ} → b.quota ≡ q → ToRun b out work (Ok most) → (b.rows ≤ most_rows) × ((q ≤ most_quota) × (b.rows * record_size q ≤ out))
done-within e w = rw (← e) (run-within w refl)
