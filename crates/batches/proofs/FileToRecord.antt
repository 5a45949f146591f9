-- From a file, and from a rule that is written first, to the records: what `compile` writes, `run` accepts as the rule that was read, and what `run` leaves
-- is that rule's direct run. All from the contracts of the calls. Assumes nothing.
use Prim.Native.Nat.{ℕ, ◌*◌, ◌<◌}
use mathlib.Core.Path.{◌≡◌, refl, sym, ap, ◌∙◌}
use mathlib.Core.Bool.{Bool, true, false, cond, not, ◌||◌}
use native.Mathlib.Omega.{arith}
use mathlib.Core.List.{List}
use lib.Dec.{eqb, ltb}
use lib.ListN.{length, take, drop}
use Rattle.definitions.specs.Values.{Word, values_in}
use Rattle.definitions.specs.Rule.{Rule}
use Rattle.definitions.specs.Grammar.{Got, got, rule_of}
use Rattle.definitions.specs.Plan.{planned}
use Rattle.definitions.specs.Pages.{unpacked}
use Rattle.definitions.specs.Faulting.{Among, Tells}
use Rattle.definitions.specs.Batch.{budget_of, record_size, line_size}
use Rattle.definitions.specs.Finder.{most_rows, most_quota}
use Rattle.definitions.specs.Calls.{Batch, brought, as_many, first_over, some_over, columns, to_write, to_compile, Wrote, ran_reply, run_reply, records_in, table_in, Ran}
use Rattle.definitions.specs.Refusals.{Reply}
use Rattle.pages.proofs.Trip.{Bytes, read_write}
use Rattle.rules.proofs.Spelling.{row_tells}
use Rattle.plans.specs.Promised.{rule_in_file, PlanFor}
use Rattle.plans.proofs.Files.{rule-held}
use Rattle.plans.proofs.Promises.{compiled, written-compiled}
use Rattle.batches.specs.DirectRun.{DirectRun, RunsAs, status_in, place_in}
use Rattle.batches.proofs.Promises.{direct, record_at}
use Rattle.std.specs.Prelude.{Ok, Err}
use Rattle.definitions.specs.declared.Reason.TheVariants.{NoRoom, Misfit, OverLimit, NotPlan}
use Rattle.definitions.specs.Refusals.{number_of, refusal}

-- ---- a call under an accepted plan

abbrev told_number : Reply → ℕ
told_number (Err f) = number_of f.reason
told_number (Ok most) = 0

-- no test that comes after the plan gives a 15
none_15 : (a b c d e : Bool) (n most : ℕ) → told_number (cond a (refusal Misfit 0) (cond b (refusal OverLimit 0) (cond c (refusal OverLimit n) (cond d (refusal NoRoom 0) (cond e (refusal NoRoom 1) (Ok most)))))) ≡ 15 → ⊥
none_15 true b c d e n most i = omega arith
none_15 false true c d e n most i = omega arith
none_15 false false true d e n most i = omega arith
none_15 false false false true e n most i = omega arith
none_15 false false false false true n most i = omega arith
none_15 false false false false false n most i = omega arith

module _ (r : Rule) (n : ℕ) (b : Batch) (out work : List Word) (reply : Reply) (out' work' : List Word) (accepted : planned b.plan ≡ got r n) (ran : Ran b out work reply out' work') where
  answered : reply ≡ ran_reply b r (length out) (length work)
  unfolding run_reply
  answered = ran.reply ∙ rw accepted

  accepts : (place : ℕ) → reply ≡ refusal NotPlan place → ⊥
  unfolding ran_reply
  accepts place e =
      none_15 (ltb most_rows b.rows || (not (eqb (length b.values) (b.rows * r.arguments)) || not (as_many b.rows b.budgets))) (ltb most_quota b.quota) (some_over (brought b.budgets))
      (ltb (length out) (b.rows * record_size b.quota)) (ltb (length work) (b.rows * line_size (columns r))) (first_over (brought b.budgets)) _ (ap told_number (sym answered ∙ e))

  directly : DirectRun r b out work reply out' work'
  unfolding records_in table_in
  directly = record {
    not_15 = accepts;
    answer = answered;
    results = rw accepted at ran.result;
    table = rw accepted at ran.working;
    row = λ most k e h. direct b.plan r n accepted _ b.quota (budget_of b.budgets k) k out' (record {
      batch = b;
      out = out;
      work = work;
      table = work';
      most = most;
      ran = rw e at ran;
      plan' = refl;
      budget = refl;
      quota = refl;
      within = h;
      args' = refl;
    });
  }

-- under a plan for a rule, every call is that rule's direct run
runs : {read : Got Rule} {plan : List ℕ} → PlanFor read plan → RunsAs read plan
runs p = record {
  plan_for = p;
  direct_run = λ b out work reply out' work' e ran. directly p.rule p.end b out work reply out' work' (ap planned e ∙ p.accepted) ran;
}

-- a file that is compiled and then run
pub file_to_record : (file old : List ℕ) (n : ℕ) (new : List ℕ) → Wrote (to_compile file) old (Ok n) new → RunsAs (rule_in_file file) (take n new)
file_to_record file old n new w = runs (compiled file old n new w)

-- a rule that is written, compiled and then run
pub rule-to-record :
    (s old : List ℕ) (n : ℕ) (file : List ℕ) → Wrote (to_write s) old (Ok n) file →
    (old' : List ℕ) (m : ℕ) (plan : List ℕ) → Wrote (to_compile (take n file)) old' (Ok m) plan → RunsAs (rule_of s) (take m plan)
rule-to-record s old n file w old' m plan c = runs (written-compiled s old n file w old' m plan c)

-- ---- 02, K4: a row's record tells where in the rule's own bytes the operator at fault stands, and 0 if none is

module _ (s : List ℕ) (small : Bytes s) (read : Got Rule) (held : read ≡ rule_of s) (plan : List ℕ) (runs_as : RunsAs read plan) where
  row_told : (b : Batch) (out work : List Word) (most : ℕ) (out' work' : List Word) → b.plan ≡ plan → Ran b out work (Ok most) out' work'
      → (k : ℕ) → k < b.rows → Tells (Among 0 s) (status_in (record_at b.quota k out')) (place_in (record_at b.quota k out'))
  row_told b out work most out' work' e ran k h =
      let p = runs_as.plan_for in
      rw ((runs_as.direct_run b out work (Ok most) out' work' e ran).row most k refl h) (row_tells s small p.rule p.end (sym held ∙ p.is) b.quota (budget_of b.budgets k) (values_in (take p.rule.arguments (drop (k * p.rule.arguments) b.values))))

pub rule_told :
    (s old : List ℕ) (n : ℕ) (file : List ℕ) → Bytes s → Wrote (to_write s) old (Ok n) file →
    (old' : List ℕ) (m : ℕ) (plan : List ℕ) → Wrote (to_compile (take n file)) old' (Ok m) plan →
    (b : Batch) (out work : List Word) (most : ℕ) (out' work' : List Word) → b.plan ≡ take m plan → Ran b out work (Ok most) out' work' →
    (k : ℕ) → k < b.rows → Tells (Among 0 s) (status_in (record_at b.quota k out')) (place_in (record_at b.quota k out'))
rule_told s old n file small w old' m plan c = row_told s small (rule_of s) refl (take m plan) (rule-to-record s old n file w old' m plan c)

pub file-told :
    (file s : List ℕ) (m : ℕ) → Bytes file → unpacked file ≡ got s m → (old : List ℕ) (n : ℕ) (new : List ℕ) → Wrote (to_compile file) old (Ok n) new →
    (b : Batch) (out work : List Word) (most : ℕ) (out' work' : List Word) → b.plan ≡ take n new → Ran b out work (Ok most) out' work' →
    (k : ℕ) → k < b.rows → Tells (Among 0 s) (status_in (record_at b.quota k out')) (place_in (record_at b.quota k out'))
file-told file s m small e old n new w = row_told s (read_write file s m small e).bytes (rule_in_file file) (rule-held file s m e) (take n new) (file_to_record file old n new w)
