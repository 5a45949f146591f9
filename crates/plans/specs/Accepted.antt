-- An accepted plan, and the rule that it carries.
use Rattle.std.specs.Prelude.{ℕ, ◌≤◌, ◌≡◌, List, [], length}
use Rattle.definitions.specs.Rule.{Rule}
use Rattle.definitions.specs.Grammar.{Got, got, refused, rule_of, longest}
use Rattle.definitions.specs.Plan.{plan_of, planned}

-- the rule that was read; nothing is said of a refusal's
unfoldable pub tree_of : Got Rule → Rule
tree_of (got r n) = r
tree_of (refused k p) = record { form = 0; variables = 0; arguments = 0; blocks = [] }

abbrev pub rule_in : List ℕ → Rule
rule_in plan = tree_of (planned plan)

pub record Accepted (plan : List ℕ) : Type 0 where
  pub next : ℕ
  pub is : planned plan ≡ got (rule_in plan) next

-- the bytes are the plan of r: some bytes are accepted as r, and compile to them. Nothing is said of how a plan is told
pub record PlanOf (plan : List ℕ) (r : Rule) : Type 0 where
  pub bytes : List ℕ
  pub size : ℕ
  pub rule : rule_of bytes ≡ got r size
  pub short : length bytes ≤ longest
  pub compiled : plan_of r bytes ≡ plan
