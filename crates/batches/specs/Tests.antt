-- A call as the code has it: its batch, the layout of its rows, and its tests.
use Rattle.std.specs.Prelude.{ℕ, ◌*◌, ◌≡◌, Bool, cond, not, ◌||◌, List, eqb, ltb, length, Option, Some, None, Result, Ok, Err}
use Rattle.definitions.specs.Rule.{Rule}
use Rattle.definitions.specs.Columns.{flow_of, LC}
use Rattle.definitions.specs.Plan.{mask_of}
use Rattle.definitions.specs.Batch.{record_size}
use Rattle.definitions.specs.Finder.{most_rows, most_quota}
use Rattle.definitions.specs.Calls.{Batch, brought, as_many, first_over, some_over}
use Rattle.definitions.specs.declared.Reason.{Reason}
use Rattle.definitions.specs.declared.Refusal.{Refusal}
use Rattle.definitions.specs.declared.Reason.TheVariants.{NoRoom, Misfit, OverLimit}
use Rattle.layouts.specs.Layout.{width}
use Rattle.layouts.specs.declared.Layout.{Layout}
use Rattle.tables.specs.Table.{budgets_in}
use Rattle.batches.specs.declared.Batch as told

-- a batch
abbrev pub batch_in : told.Batch → Batch
batch_in b = record { plan = b.plan.now; rows = b.rows; values = b.values.now; budgets = budgets_in b.budgets; quota = b.quota }

-- the layout of a rule's rows under any quota
pub record LaidOut (r : Rule) (quota : ℕ) (l : Layout) : Type 0 where
  pub variables : l.variables ≡ r.variables
  pub arguments : l.arguments ≡ r.arguments
  pub mask : l.lc ≡ mask_of r.variables (LC (flow_of r))
  pub size' : l.size ≡ width r
  pub quota' : l.quota ≡ quota

-- what a test comes to: nothing where it passes, or the refusal
abbrev pub Tested : Type 0
Tested = Result (Unit {0}) Refusal

abbrev pub passes : Tested
passes = Ok tt

abbrev pub fails : Reason → ℕ → Tested
fails k p = Err (record { reason = k; place = p })

-- 13: too many rows, or not as many values or budgets as they want
abbrev pub misfits : Batch → Layout → Bool
misfits b l = ltb most_rows b.rows || (not (eqb (length b.values) (b.rows * l.arguments)) || not (as_many b.rows b.budgets))

-- 14: where the first budget over the limit is, if there is one
abbrev pub over_place : List ℕ → Option ℕ
over_place Ns = cond (some_over Ns) (Some (first_over Ns)) None

-- what a call's numbers come to, in the order of the tests
unfoldable pub tested : Batch → Layout → (out work : ℕ) → Tested
tested b l out work =
    cond (misfits b l) (fails Misfit 0)
    (cond (ltb most_quota b.quota) (fails OverLimit 0)
    (cond (some_over (brought b.budgets)) (fails OverLimit (first_over (brought b.budgets)))
    (cond (ltb out (b.rows * record_size b.quota)) (fails NoRoom 0)
    (cond (ltb work (b.rows * l.size)) (fails NoRoom 1) passes))))
