-- What is promised of a plan: which rule it is the plan of, and that its numbers, read from its bytes, are exactly that rule's columns.
use Rattle.std.specs.Prelude.{ℕ, ◌+◌, ◌-◌, ◌*◌, ◌≤◌, ◌<◌, ◌≡◌, Bool, true, false, cond, List, drop}
use Rattle.definitions.specs.Rule.{Rule, size}
use Rattle.definitions.specs.Grammar.{Got, got, then, rule_of}
use Rattle.definitions.specs.Columns.{flow_of, J, outputs, Inputs}
use Rattle.definitions.specs.Plan.{bit_of, place_of, bodies_from, carried, planned}
use Rattle.definitions.specs.Pages.{word_at, unpacked}

-- a file's own rule: what its pages hold, read as a rule
unfoldable pub rule_in_file : List ℕ → Got Rule
rule_in_file file = then (unpacked file) (λ s _. rule_of s)

-- ---- the numbers in a plan's bytes

-- LC, and the four numbers of block b's entry
abbrev pub lc_mask : List ℕ → ℕ
lc_mask plan = word_at plan 4

abbrev pub offset_in : List ℕ → ℕ → ℕ
offset_in plan b = word_at plan (6 + (8 * b + 0))

abbrev pub input_mask : List ℕ → ℕ → ℕ
input_mask plan b = word_at plan (6 + (8 * b + 2))

abbrev pub output_mask : List ℕ → ℕ → ℕ
output_mask plan b = word_at plan (6 + (8 * b + 4))

abbrev pub j_number : List ℕ → ℕ → ℕ
j_number plan b = word_at plan (6 + (8 * b + 6))

-- of v variables, a mask has the bits of exactly those that the set holds, and no other bit
pub record Exactly (v mask : ℕ) (set : ℕ → Bool) : Type 0 where
  pub below : (k : ℕ) → k < v → bit_of mask k ≡ set k
  pub above : (k : ℕ) → v ≤ k → bit_of mask k ≡ false

-- the numbers of a plan are those of the rule r with these inputs: LC is what any block in J takes, and from a block's offset on the plan's bytes are the
-- rule's from that block on
pub record Carries (plan : List ℕ) (r : Rule) (inputs : ℕ → ℕ → Bool) : Type 0 where
  pub lc : (b : ℕ) → b < size r → J (flow_of r) b ≡ true → Exactly r.variables (lc_mask plan) (inputs b)
  pub offset : (b : ℕ) → b < size r → offset_in plan b ≡ place_of r (carried plan) b - 4 + bodies_from r
  pub body : (b : ℕ) → b < size r → drop (offset_in plan b) plan ≡ drop (place_of r (carried plan) b) (carried plan)
  pub input : (b : ℕ) → b < size r → Exactly r.variables (input_mask plan b) (inputs b)
  pub output : (b : ℕ) → b < size r → Exactly r.variables (output_mask plan b) (outputs (flow_of r) inputs b)
  pub joins : (b : ℕ) → b < size r → j_number plan b ≡ cond (J (flow_of r) b) 1 0

-- ---- a plan and the rule that was read

-- a rule was read, the plan is accepted as that rule, and its masks are the smallest sets
pub record PlanFor (read : Got Rule) (plan : List ℕ) : Type 0 where
  pub rule : Rule
  pub end : ℕ
  pub is : read ≡ got rule end
  pub accepted : planned plan ≡ got rule end
  pub carries : (inputs : ℕ → ℕ → Bool) → Inputs (flow_of rule) inputs → Carries plan rule inputs
