-- The first budget over the limit, and budgets of which none is. Assumes nothing.
use Prim.Native.Nat.{ℕ, zero, suc, ◌+◌, ◌≤◌, ◌<◌}
use native.Mathlib.Omega.{arith}
use mathlib.Core.Path.{◌≡◌, refl, ◌∙◌}
use mathlib.Core.Bool.{Bool, true, false, cond}
use mathlib.Core.Logic.{◌⊎◌, inl, inr}
use mathlib.Core.List.{List, [], ◌∷◌}
use lib.Dec.{eqb, ltb}
use lib.ListN.{length, get_or}
use borrow.Author.Tests.{ltb-true, ltb-false, lt-ltb, le-ltb, eqb-true, eqb-false, eq-eqb, ne_eqb}
use Rattle.definitions.specs.Batch.{Budgets, common, each, budget_of}
use Rattle.definitions.specs.Calls.{most_budget, brought, as_many, first_over, some_over}
use Rattle.batches.specs.Tests.{over_place}
use Rattle.std.specs.List.{position}
use Rattle.std.specs.Bool.{then_some}
use Rattle.std.specs.Prelude.{Some, None}
use Rattle.std.proofs.lemmas.List.Recursion.{is_position_or_len}
use Rattle.batches.specs.Replies.{Counted, for_all, for_each, NoneOver, FirstOver}

-- ---- the first over the limit

-- one number more, and what comes after it
over-on : (N : ℕ) (Ns : List ℕ) → N ≤ most_budget → first_over (N ∷ Ns) ≡ 1 + first_over Ns
unfolding first_over
over-on N Ns h = rw (le-ltb most_budget N h)

over-here : (N : ℕ) (Ns : List ℕ) → most_budget < N → first_over (N ∷ Ns) ≡ 0
unfolding first_over
over-here N Ns h = rw (lt-ltb most_budget N h)

pub first-is : (Ns : List ℕ) (n : ℕ) → FirstOver Ns n → first_over Ns ≡ n
first-is [] n f = absurd (omega (arith, f.there))
first-is (N ∷ Ns) zero f = over-here N Ns f.over
first-is (N ∷ Ns) (suc n) f =
    over-on N Ns (f.lower 0 (omega arith)) ∙ rw (first-is Ns n (record { there = omega (arith, f.there); over = f.over; lower = λ i h. f.lower (suc i) (omega arith) })) (omega arith)

pub none_over : (Ns : List ℕ) → NoneOver Ns → first_over Ns ≡ length Ns
unfolding first_over
none_over [] h = refl
none_over (N ∷ Ns) h = over-on N Ns (h 0) ∙ omega (arith, none_over Ns (λ i. h (suc i)))

pub over_or : (Ns : List ℕ) → ((n : ℕ) × FirstOver Ns n) ⊎ NoneOver Ns
over_or [] = inr (λ i. omega arith)
over_or (N ∷ Ns) = go (ltb most_budget N) refl (over_or Ns)
  where
    later : N ≤ most_budget → (n : ℕ) → FirstOver Ns n → FirstOver (N ∷ Ns) (suc n)
    later l n f = record { there = omega (arith, f.there); over = f.over; lower = below l n f }
      where
        below : N ≤ most_budget → (n : ℕ) → FirstOver Ns n → (i : ℕ) → i < suc n → get_or (N ∷ Ns) i 0 ≤ most_budget
        below l n f zero h = l
        below l n f (suc i) h = f.lower i (omega arith)

    none : N ≤ most_budget → NoneOver Ns → NoneOver (N ∷ Ns)
    none l h zero = l
    none l h (suc i) = h i

    go : (b : Bool) → ltb most_budget N ≡ b → ((n : ℕ) × FirstOver Ns n) ⊎ NoneOver Ns → ((n : ℕ) × FirstOver (N ∷ Ns) n) ⊎ NoneOver (N ∷ Ns)
    go true e w = inl (0, record { there = omega arith; over = ltb-true most_budget N e; lower = λ i h. absurd (omega arith) })
    go false e (inl w) = inl (suc w.0, later (ltb-false most_budget N e) w.0 w.1)
    go false e (inr h) = inr (none (ltb-false most_budget N e) h)

-- as tests
pub is-over : (Ns : List ℕ) (n : ℕ) → FirstOver Ns n → some_over Ns ≡ true
is-over Ns n f = lt-ltb (first_over Ns) (length Ns) (omega (arith, first-is Ns n f, f.there))

pub is_none : (Ns : List ℕ) → NoneOver Ns → some_over Ns ≡ false
is_none Ns h = le-ltb (first_over Ns) (length Ns) (omega (arith, none_over Ns h))

-- where the test finds none, no row's budget is over the limit
pub all-low : (bs : Budgets) → some_over (brought bs) ≡ false → (n : ℕ) → budget_of bs n ≤ most_budget
all-low (common N) e n = go (over_or (N ∷ []))
  where
    go : ((n : ℕ) × FirstOver (N ∷ []) n) ⊎ NoneOver (N ∷ []) → N ≤ most_budget
    go (inl f) = let t = is-over (N ∷ []) f.0 f.1 in let z : ◌≡◌ {A = ℕ} 0 1 = cc in absurd (omega arith)
    go (inr h) = h 0
all-low (each Ns) e n = go (over_or Ns)
  where
    go : ((n : ℕ) × FirstOver Ns n) ⊎ NoneOver Ns → get_or Ns n 0 ≤ most_budget
    go (inl f) = let t = is-over Ns f.0 f.1 in let z : ◌≡◌ {A = ℕ} 0 1 = cc in absurd (omega arith)
    go (inr h) = h n

-- ---- as many as the rows
pub is-counted : (rows : ℕ) (bs : Budgets) → Counted rows bs → as_many rows bs ≡ true
is-counted rows bs (for_all N) = refl
is-counted rows bs (for_each Ns e) = eq-eqb (length Ns) rows e

pub is-miscounted : (rows : ℕ) (bs : Budgets) → (Counted rows bs → ⊥) → as_many rows bs ≡ false
is-miscounted rows (common N) h = absurd (h (for_all N))
is-miscounted rows (each Ns) h = ne_eqb (length Ns) rows (λ e. h (for_each Ns e))

as_many_lem : {rows : ℕ} {Ns : List ℕ} → Counted rows (each Ns) → length Ns ≡ rows
as_many_lem (for_each Ns e) = e

pub counted_or : (rows : ℕ) (bs : Budgets) → Counted rows bs ⊎ (Counted rows bs → ⊥)
counted_or rows (common N) = inl (for_all N)
counted_or rows (each Ns) = go (eqb (length Ns) rows) refl
  where
    go : (b : Bool) → eqb (length Ns) rows ≡ b → Counted rows (each Ns) ⊎ (Counted rows (each Ns) → ⊥)
    go true e = inl (for_each Ns (eqb-true (length Ns) rows e))
    go false e = inr (λ c. eqb-false (length Ns) rows e (as_many_lem c))

-- ---- the search, as the code has it
pub place_over : (Ns : List ℕ) → position (λ n. ltb most_budget n) Ns ≡ over_place Ns
unfolding first_over
place_over Ns = rw (is_position_or_len first_over (λ n. ltb most_budget n) refl (λ _ _. refl) Ns)

-- one number is a list of one
pub one_over : (N : ℕ) → then_some {T = ℕ} (ltb most_budget N) 0 ≡ over_place (N ∷ [])
unfolding first_over
one_over N = go (ltb most_budget N)
  where
    go : (b : Bool) → then_some {T = ℕ} b 0 ≡ cond (ltb (cond b 0 1) 1) (Some (cond b 0 1)) None
    go true = refl
    go false = refl
