-- When each reply is given by a run: a constructor to a row of 01's table of reply numbers, with K10 of 02, in the order of running, each where no row before it holds,
-- and one for the answer where none does. Assumes nothing: these are definitions.
use Rattle.std.specs.Prelude.{ℕ, ◌*◌, ◌≤◌, ◌<◌, ◌≡◌, ◌⊎◌, List, length, get_or}
use Rattle.definitions.specs.Rule.{Rule}
use Rattle.definitions.specs.Batch.{Budgets, common, each, record_size, line_size, most_of}
use Rattle.definitions.specs.Finder.{most_rows, most_quota}
use Rattle.definitions.specs.Calls.{Batch, most_budget, brought, rows_of, columns}
use Rattle.definitions.specs.Refusals.{Reply}
use Rattle.plans.specs.Accepted.{PlanOf}
use Rattle.std.specs.Prelude.{Ok}
use Rattle.definitions.specs.declared.Reason.TheVariants.{NoRoom, Misfit, OverLimit, NotPlan}
use Rattle.definitions.specs.Refusals.{refusal}

-- one budget for all rows, or one for each
pub data Counted (rows : ℕ) : Budgets → Type 0 where
  for_all : (N : ℕ) → Counted rows (common N)
  for_each : (Ns : List ℕ) → length Ns ≡ rows → Counted rows (each Ns)

-- rows, values and budgets that go together
pub record Fitting (b : Batch) (r : Rule) : Type 0 where
  pub few : b.rows ≤ most_rows
  pub given : length b.values ≡ b.rows * r.arguments
  pub counted : Counted b.rows b.budgets

-- budgets that keep to their limit, and the first that does not
abbrev pub NoneOver : List ℕ → Type 0
NoneOver Ns = (i : ℕ) → get_or Ns i 0 ≤ most_budget

pub record FirstOver (Ns : List ℕ) (n : ℕ) : Type 0 where
  pub there : n < length Ns
  pub over : most_budget < get_or Ns n 0
  pub lower : (i : ℕ) → i < n → get_or Ns i 0 ≤ most_budget

-- numbers that keep to their limits
pub record Low (b : Batch) : Type 0 where
  pub quota-low : b.quota ≤ most_quota
  pub budgets-low : NoneOver (brought b.budgets)

-- the plan is r's, and the two buffers have so many words: 13, 14 for the quota, 14 for a row's budget, 12 for the output, 12 for the working buffer
pub data UnderRule (b : Batch) (r : Rule) (out work : ℕ) : Reply → Type 0 where
  misfit : (most_rows < b.rows) ⊎ ((length b.values ≡ b.rows * r.arguments → ⊥) ⊎ (Counted b.rows b.budgets → ⊥)) → UnderRule b r out work (refusal Misfit 0)
  high : Fitting b r → most_quota < b.quota → UnderRule b r out work (refusal OverLimit 0)
  high_row : {n : ℕ} → Fitting b r → b.quota ≤ most_quota → FirstOver (brought b.budgets) n → UnderRule b r out work (refusal OverLimit n)
  short_out : Fitting b r → Low b → out < b.rows * record_size b.quota → UnderRule b r out work (refusal NoRoom 0)
  short_work : Fitting b r → Low b → b.rows * record_size b.quota ≤ out → work < b.rows * line_size (columns r) → UnderRule b r out work (refusal NoRoom 1)
  done : Fitting b r → Low b → b.rows * record_size b.quota ≤ out → b.rows * line_size (columns r) ≤ work → UnderRule b r out work (Ok (most_of (rows_of b r)))

-- running: 15 if the bytes are no rule's plan, then what the rule gives
pub data ToRun (b : Batch) (out work : ℕ) : Reply → Type 0 where
  no_plan : ((r : Rule) → PlanOf b.plan r → ⊥) → ToRun b out work (refusal NotPlan 0)
  under : {r : Rule} {q : Reply} → PlanOf b.plan r → UnderRule b r out work q → ToRun b out work q
