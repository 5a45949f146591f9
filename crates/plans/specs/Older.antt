-- 02, K3: what is said of dead blocks in a plan's bytes, and the plan with all blocks counted, dead ones too. It stands here for the theorems of
-- proofs/Older.antt alone. It has K5's order bytes; where no goto goes back, it is the plan that document 01 gave.
use Rattle.std.specs.Prelude.{ℕ, ◌<◌, ◌≡◌, true, List}
use Rattle.definitions.specs.Rule.{Rule, size}
use Rattle.definitions.specs.Columns.{LedTo, flow_over}
use Rattle.definitions.specs.Plan.{plan_by}
use Rattle.plans.specs.Promised.{input_mask, output_mask, j_number}

abbrev pub older_plan : Rule → List ℕ → List ℕ
older_plan r s = plan_by (flow_over (λ _. true) r) r s

-- a chain leads to every block
abbrev pub NoneDead : Rule → Type 0
NoneDead r = (b : ℕ) → b < size r → LedTo r b

-- a block's masks are 0 and 0, and it is not in J
pub record NoColumns (plan : List ℕ) (b : ℕ) : Type 0 where
  pub input_none : input_mask plan b ≡ 0
  pub output-none : output_mask plan b ≡ 0
  pub joins-none : j_number plan b ≡ 0
