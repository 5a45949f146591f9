-- A call's reply, from its tests and from what its run leaves. Assumes nothing.
use mathlib.Core.Path.{◌≡◌, refl, sym, ap, ◌∙◌}
use mathlib.Core.Bool.{Bool, true, false, cond, not, ◌||◌}
use Prim.Native.Nat.{ℕ, ◌*◌}
use native.Mathlib.Omega.{arith}
use mathlib.Core.List.{List}
use lib.ListN.{length}
use lib.Dec.{eqb, ltb}
use borrow.Author.Tests.{ltb-false, eqb-true, not-false}
use Rattle.definitions.specs.Values.{Word}
use Rattle.definitions.specs.Rule.{Rule}
use Rattle.definitions.specs.Grammar.{got, refused}
use Rattle.definitions.specs.Plan.{planned}
use Rattle.definitions.specs.Batch.{record_size, most_of}
use Rattle.definitions.specs.Finder.{most_rows, most_quota}
use Rattle.definitions.specs.Calls.{Batch, Ran, brought, as_many, first_over, some_over, ran_reply, run_reply, records_in, table_in, rows_of}
use Rattle.definitions.specs.declared.Refusal.{Refusal}
use Rattle.definitions.specs.Refusals.{Reply}
use Rattle.layouts.specs.Layout.{width}
use Rattle.layouts.specs.declared.Layout.{Layout}
use Rattle.tables.specs.Runs.{Allowed, RowsRun}
use Rattle.batches.specs.Tests.{LaidOut, Tested, passes, fails, misfits, tested}
use Rattle.batches.proofs.Budgets.{all-low}
use Rattle.definitions.proofs.Handed.{handed}
use Rattle.std.specs.Prelude.{Ok, Err}
use Rattle.definitions.specs.declared.Reason.TheVariants.{NoRoom, Misfit, OverLimit, NotPlan}
use Rattle.definitions.specs.Refusals.{refusal}
use Rattle.definitions.specs.declared.Reason.{Reason}

-- ---- one test after the other

no_test : (x y : Bool) → (x || y) ≡ false → (x ≡ false) × (y ≡ false)
no_test true y e =
    let z : ◌≡◌ {A = ℕ} 0 1 = cc in
    absurd (omega arith)
no_test false y e = (refl, e)

passed : (b : Bool) (f : Refusal) (x : Tested) → cond b (Err f) x ≡ passes → (b ≡ false) × (x ≡ passes)
passed true f x e =
    let z : ◌≡◌ {A = ℕ} 0 1 = cc in
    absurd (omega arith)
passed false f x e = (refl, e)

-- a call that passes keeps to the limits
pub tested_allowed : (b : Batch) (l : Layout) (out work : ℕ) → l.quota ≡ b.quota → tested b l out work ≡ passes → Allowed l b.rows b.budgets (length b.values) out work
unfolding tested
tested_allowed b l out work q t =
    let p1 = passed (misfits b l) _ _ t in
    let p2 = passed (ltb most_quota b.quota) _ _ p1.1 in
    let p3 = passed (some_over (brought b.budgets)) _ _ p2.1 in
    let p4 = passed (ltb out (b.rows * record_size b.quota)) _ _ p3.1 in
    let p5 = passed (ltb work (b.rows * l.size)) _ _ p4.1 in
    let t1 = no_test (ltb most_rows b.rows) _ p1.0 in
    let t2 = no_test (not (eqb (length b.values) (b.rows * l.arguments))) _ t1.1 in
    record {
      rows_few = ltb-false most_rows b.rows t1.0;
      given = eqb-true (length b.values) (b.rows * l.arguments) (not-false _ t2.0);
      budgets-low = all-low b.budgets p3.0;
      quota-low = rw q (ltb-false most_quota b.quota p2.0);
      records = rw q (ltb-false out (b.rows * record_size b.quota) p4.0);
      table = ltb-false work (b.rows * l.size) p5.0;
    }

-- the answer where no test refuses
abbrev answered : ℕ → Tested → Reply
answered most (Err f) = Err f
answered most (Ok u) = Ok most

-- the tests, one after the other
in-turn : (a b c d e : Bool) (n most : ℕ)
    → cond a (refusal Misfit 0) (cond b (refusal OverLimit 0) (cond c (refusal OverLimit n) (cond d (refusal NoRoom 0) (cond e (refusal NoRoom 1) (Ok most)))))
    ≡ answered most (cond a (fails Misfit 0) (cond b (fails OverLimit 0) (cond c (fails OverLimit n) (cond d (fails NoRoom 0) (cond e (fails NoRoom 1) passes)))))
in-turn true b c d e n most = refl
in-turn false true c d e n most = refl
in-turn false false true d e n most = refl
in-turn false false false true e n most = refl
in-turn false false false false true n most = refl
in-turn false false false false false n most = refl

-- ---- the contract

-- 15: no plan
pub ran_unplanned : (b : Batch) (out work : List Word) (k : Reason) (p : ℕ) → planned b.plan ≡ refused k p → Ran b out work (refusal NotPlan 0) out work
unfolding run_reply
ran_unplanned b out work k p e = record { reply = rw e; result = refl; working = refl }

module _ (b : Batch) (out work : List Word) (r : Rule) (n : ℕ) (accepted : planned b.plan ≡ got r n) (l : Layout) (k : LaidOut r b.quota l) where
  abbrev answer : Tested
  answer = tested b l (length out) (length work)

  reply-is : run_reply b (planned b.plan) (length out) (length work) ≡ answered (most_of (rows_of b r)) answer
  unfolding run_reply ran_reply tested
  reply-is =
      rw (accepted, k.arguments, k.size')
      (in-turn (ltb most_rows b.rows || (not (eqb (length b.values) (b.rows * r.arguments)) || not (as_many b.rows b.budgets))) (ltb most_quota b.quota) (some_over (brought b.budgets))
      (ltb (length out) (b.rows * record_size b.quota)) (ltb (length work) (b.rows * width r)) (first_over (brought b.budgets)) (most_of (rows_of b r)))

  pub ran-refused : (f : Refusal) → answer ≡ Err f → Ran b out work (Err f) out work
  ran-refused f i = record { reply = sym (reply-is ∙ ap (answered (most_of (rows_of b r))) i); result = refl; working = refl }

  pub ran-done : answer ≡ passes → (most : ℕ) (out' work' : List Word) → RowsRun r b.values b.rows b.budgets b.quota out work most out' work' → Ran b out work (Ok most) out' work'
  unfolding records_in table_in
  ran-done i most out' work' w = record {
    reply = ap Ok w.most' ∙ sym (reply-is ∙ ap (answered (most_of (rows_of b r))) i);
    result = rw accepted w.records;
    working = rw accepted w.table;
  }

-- what a call that is refused rests on, and one that passes
pub ruleset of_run = (handed, tested_allowed, ran-refused)
