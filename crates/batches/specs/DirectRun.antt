-- From a rule to its records: a plan under which every call of `run` leaves what the direct run of the rule leaves.
use Rattle.std.specs.Prelude.{ℕ, ◌*◌, ◌<◌, ◌≡◌, List, pos, nat_abs, length, take, drop, get_or}
use Rattle.definitions.specs.Values.{Word}
use Rattle.definitions.specs.Rule.{Rule}
use Rattle.definitions.specs.Grammar.{Got}
use Rattle.definitions.specs.Columns.{flow_of, LC}
use Rattle.definitions.specs.Direct.{after}
use Rattle.definitions.specs.Batch.{budget_of, start_at, record_size, record_of, records_of, table_of}
use Rattle.definitions.specs.Calls.{Batch, left, rows_of, ran_reply, Ran}
use Rattle.definitions.specs.Refusals.{Reply}
use Rattle.plans.specs.Promised.{PlanFor}
use Rattle.std.specs.Prelude.{Ok}
use Rattle.definitions.specs.declared.Reason.TheVariants.{NotPlan}
use Rattle.definitions.specs.Refusals.{refusal}

-- what a call left is the direct run's of the rule r: its plan is not refused; its answer and every word of both buffers come from r's rows;
-- and where it is not refused, row k's record is that of r run on row k's arguments alone, by its own budget
pub record DirectRun (r : Rule) (b : Batch) (out work : List Word) (reply : Reply) (out' work' : List Word) : Type 0 where
  pub not_15 : (place : ℕ) → reply ≡ refusal NotPlan place → ⊥
  pub answer : reply ≡ ran_reply b r (length out) (length work)
  pub results : out' ≡ left reply (records_of b.quota (rows_of b r)) out
  pub table : work' ≡ left reply (table_of r.variables (LC (flow_of r)) (rows_of b r)) work
  pub row : (most k : ℕ) → reply ≡ Ok most → k < b.rows
      → take (record_size b.quota) (drop (k * record_size b.quota) out') ≡ record_of b.quota (after r b.quota (budget_of b.budgets k) (start_at r b.values k))

-- the plan is that of the rule that was read, and every call under it is that rule's direct run
pub record RunsAs (read : Got Rule) (plan : List ℕ) : Type 0 where
  pub plan_for : PlanFor read plan
  pub direct_run : (b : Batch) (out work : List Word) (reply : Reply) (out' work' : List Word) → b.plan ≡ plan → Ran b out work reply out' work' → DirectRun plan_for.rule b out work reply out' work'

-- 02, K4: how a row ended, by the words of its record
abbrev pub status_in : List Word → ℕ
status_in words = nat_abs (get_or words 0 (pos 0))

abbrev pub place_in : List Word → ℕ
place_in words = nat_abs (get_or words 3 (pos 0))
