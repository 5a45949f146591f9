-- The numbers that a run is allowed, the rows at their start, and what a run leaves.
use Rattle.std.specs.Prelude.{ℕ, ◌*◌, ◌≤◌, ◌≡◌, List, ◌++◌, length, drop}
use Rattle.definitions.specs.Values.{Word}
use Rattle.definitions.specs.Rule.{Rule}
use Rattle.definitions.specs.Columns.{flow_of, LC}
use Rattle.definitions.specs.Batch.{Budgets, budget_of, record_size, starts_of, states_of, records_of, table_of, most_of}
use Rattle.definitions.specs.Finder.{most_rows, most_quota}
use Rattle.definitions.specs.Calls.{most_budget, left}
use Rattle.definitions.specs.Direct.{State, after}
use Rattle.plans.specs.Accepted.{rule_in}
use Rattle.carries.specs.Carry.{Running}
use Rattle.tables.specs.Table.{budgets_in}
use Rattle.tables.specs.declared.Run.{Run}
use Rattle.layouts.specs.Layout.{width, lines_in, Known}
use Rattle.layouts.specs.declared.Layout.{Layout}
use Rattle.std.specs.Prelude.{Ok}

-- the rule of a run, how many rounds a row of it may begin, and how far it goes by them
abbrev pub rule_of : Run → Rule
rule_of run = rule_in run.plan.now

abbrev pub budget_in : Run → ℕ → ℕ
budget_in run = budget_of (budgets_in run.budgets)

abbrev pub step_of : Run → ℕ → State → State
step_of run i = after (rule_of run) run.layout.quota (budget_in run i)

-- a run of an accepted plan, with its rule's bytes and layout
pub record Runs (run : Run) : Type 0 where
  pub running : Running run.plan.now run.rule.now
  pub known : Known (rule_of run) run.layout

-- numbers that keep to their limits: so many values, and so many words of the two buffers
pub record Allowed (l : Layout) (rows : ℕ) (bs : Budgets) (values out work : ℕ) : Type 0 where
  pub rows_few : rows ≤ most_rows
  pub given : values ≡ rows * l.arguments
  pub budgets-low : (n : ℕ) → budget_of bs n ≤ most_budget
  pub quota-low : l.quota ≤ most_quota
  pub records : rows * record_size l.quota ≤ out
  pub table : rows * l.size ≤ work

-- a rule's rows that are to be put into the working buffer
pub record ToStart (l : Layout) (rows : ℕ) (values : List Word) (work : List Word) : Type 0 where
  pub rule : Rule
  pub known : Known rule l
  pub few : rows ≤ most_rows
  pub given : length values ≡ rows * l.arguments
  pub table : rows * l.size ≤ length work

-- the first n rows at their start, and behind them what stood there
abbrev pub Started : Rule → List Word → ℕ → List Word → List Word → Type 0
Started r values n work work' = work' ≡ lines_in r 0 (starts_of r values n) ++ drop (n * width r) work

-- what a run leaves: the direct run's rows
pub record RowsRun (r : Rule) (values : List Word) (rows : ℕ) (bs : Budgets) (q : ℕ) (out work : List Word) (most : ℕ) (out' work' : List Word) : Type 0 where
  pub most' : most ≡ most_of (states_of r values rows bs q)
  pub records : out' ≡ left (Ok most) (records_of q (states_of r values rows bs q)) out
  pub table : work' ≡ left (Ok most) (table_of r.variables (LC (flow_of r)) (states_of r values rows bs q)) work
