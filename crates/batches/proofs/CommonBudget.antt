-- 02, K10: a run with one budget for all rows is the run with that budget for each of them, in every word. Assumes nothing.
use Prim.Native.Nat.{ℕ, zero, suc, ◌≤◌, ◌<◌}
use native.Mathlib.Omega.{arith}
use mathlib.Core.Path.{◌≡◌, refl, sym, ap, ◌∙◌}
use mathlib.Core.Logic.{◌↔◌, ◌⊎◌, inl, inr}
use mathlib.Core.List.{List, [], ◌∷◌}
use lib.ListN.{length, replicate, length-replicate, get_or-replicate}
use borrow.Author.Tests.{eq-eqb}
use Rattle.definitions.specs.Values.{Word}
use Rattle.definitions.specs.Rule.{Rule}
use Rattle.definitions.specs.Grammar.{Got, got, refused}
use Rattle.definitions.specs.Plan.{planned}
use Rattle.definitions.specs.Direct.{after}
use Rattle.definitions.specs.Batch.{Budgets, common, each, budget_of, starts_of}
use Rattle.definitions.specs.Calls.{Batch, most_budget, rows_of, ran_reply, run_reply, records_in, table_in, Ran}
use Rattle.definitions.specs.Refusals.{Reply}
use Rattle.definitions.proofs.Tests.{less_or}
use Rattle.tables.proofs.Rows.{map-alike}
use Rattle.tables.proofs.Starts.{starts-length}
use Rattle.batches.specs.Replies.{NoneOver, FirstOver}
use Rattle.batches.proofs.Budgets.{first-is, is-over, is_none}

-- ---- so many equal budgets
all_same : (n N : ℕ) → N ≤ most_budget → NoneOver (replicate n N)
all_same zero N h i = omega arith
all_same (suc n) N h zero = h
all_same (suc n) N h (suc i) = all_same n N h i

first-same : (n N : ℕ) → 0 < n → most_budget < N → FirstOver (replicate n N) 0
first-same zero N l h = absurd (omega arith)
first-same (suc n) N l h = record { there = omega arith; over = h; lower = λ i m. absurd (omega arith) }

module _ (plan : List ℕ) (rows : ℕ) (values : List Word) (q N : ℕ) where
  -- the same batch by other budgets
  abbrev pub by : Budgets → Batch
  by bs = record { plan = plan; rows = rows; values = values; budgets = bs; quota = q }

  abbrev pub N-for_each : Budgets
  N-for_each = each (replicate rows N)

  rows_same : (r : Rule) → rows_of (by (common N)) r ≡ rows_of (by N-for_each) r
  rows_same r =
      map-alike (λ i. after r q N) (λ i. after r q (budget_of N-for_each i)) 0 (starts_of r values rows)
      (λ i s l. ap (λ (n : ℕ). after r q n s) (sym (get_or-replicate rows i N 0 (omega (arith, starts-length r values rows)))))

  -- a budget over the limit has a row to be told of
  module _ (told : (N ≤ most_budget) ⊎ (0 < rows)) where
    ran-same : (r : Rule) (out work : ℕ) → ran_reply (by (common N)) r out work ≡ ran_reply (by N-for_each) r out work
    unfolding ran_reply
    ran-same r out work = go (less_or most_budget N) told
      where
        go : (most_budget < N) ⊎ (N ≤ most_budget) → (N ≤ most_budget) ⊎ (0 < rows) → ran_reply (by (common N)) r out work ≡ ran_reply (by N-for_each) r out work
        go (inr l) _ = rw (is_none (N ∷ []) (all_same 1 N l), is_none (replicate rows N) (all_same rows N l), length-replicate, eq-eqb rows rows refl, rows_same r)
        go (inl h) (inl l) = absurd (omega arith)
        go (inl h) (inr l) =
            let one = first-same 1 N (omega arith) h in
            let many = first-same rows N l h in
            rw (is-over (N ∷ []) 0 one, first-is (N ∷ []) 0 one, is-over (replicate rows N) 0 many, first-is (replicate rows N) 0 many, length-replicate, eq-eqb rows rows refl)

    reply-same : (g : Got Rule) (out work : ℕ) → run_reply (by (common N)) g out work ≡ run_reply (by N-for_each) g out work
    unfolding run_reply
    reply-same (got r n) out work = ran-same r out work
    reply-same (refused k p) out work = refl

    records-same : (g : Got Rule) → records_in (by (common N)) g ≡ records_in (by N-for_each) g
    unfolding records_in
    records-same (got r n) = rw (rows_same r)
    records-same (refused k p) = refl

    table_same : (g : Got Rule) → table_in (by (common N)) g ≡ table_in (by N-for_each) g
    unfolding table_in
    table_same (got r n) = rw (rows_same r)
    table_same (refused k p) = refl

    -- the theorem: what one call leaves, the other leaves
    pub common-as-each : (out work : List Word) (r : Reply) (out' work' : List Word) → Ran (by (common N)) out work r out' work' ↔ Ran (by N-for_each) out work r out' work'
    common-as-each out work r out' work' = (
      λ p. record {
        reply = p.reply ∙ reply-same (planned plan) (length out) (length work);
        result = p.result ∙ rw (records-same (planned plan));
        working = p.working ∙ rw (table_same (planned plan));
      },
      λ p. record {
        reply = p.reply ∙ sym (reply-same (planned plan) (length out) (length work));
        result = p.result ∙ rw (records-same (planned plan));
        working = p.working ∙ rw (table_same (planned plan));
      },
    )
