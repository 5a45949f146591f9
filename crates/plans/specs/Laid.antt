-- What the compiler has worked out when it writes a plan.
use Rattle.std.specs.Prelude.{ℕ, ◌+◌, ◌-◌, ◌≤◌, ◌<◌, ◌≡◌, List, length, get_or}
use Rattle.definitions.specs.Rule.{Rule, size}
use Rattle.definitions.specs.Grammar.{got, rule_of, blocks_in, most_blocks, longest}
use Rattle.definitions.specs.Columns.{flow_of}
use Rattle.definitions.specs.Plan.{place_of, order_bytes, head_size, bodies_from}
use Rattle.closure.specs.Tables.{Columned}
use Rattle.closure.specs.declared.ColumnSets.{ColumnSets}

-- the bytes are an accepted rule, and no longer than a rule may be
pub record IsRule (s : List ℕ) : Type 0 where
  pub rule : Rule
  pub end : ℕ
  pub is : rule_of s ≡ got rule end
  pub short : length s ≤ longest

-- the order bytes of the rule with the bytes s
abbrev pub OrderFor : List ℕ → List ℕ → Type 0
OrderFor s order = (r : Rule) (m : ℕ) → rule_of s ≡ got r m → order ≡ order_bytes r

-- the size of its plan with these
abbrev pub size_for : List ℕ → List ℕ → ℕ
size_for s order = head_size (blocks_in s) (length order) + length s - 4

-- where the bodies begin, the places, and the masks and J, of a rule r with the bytes s, as the code has them
pub record Laid (r : Rule) (s : List ℕ) (n head : ℕ) (places : List ℕ) (sets : ColumnSets) : Type 0 where
  pub blocks : size r ≡ n
  pub bodies : bodies_from r ≡ head
  pub place : (b : ℕ) → b < n → get_or places b 0 ≡ place_of r s b
  pub columns : Columned (flow_of r) n r.variables sets.inputs sets.outputs sets.j

-- places that lie in a rule, past its header
abbrev pub Inside : ℕ → List ℕ → Type 0
Inside n places = (b : ℕ) → b < n → (4 ≤ get_or places b 0) × (get_or places b 0 ≤ longest)

-- a rule's bytes s with these order bytes and places, and a buffer that the plan fits in
pub record Room (s order places out : List ℕ) : Type 0 where
  pub header : 4 ≤ length s
  pub some : 1 ≤ blocks_in s
  pub few : blocks_in s ≤ most_blocks
  pub ordered : length order ≤ most_blocks
  pub inside : Inside (blocks_in s) places
  pub fits : size_for s order ≤ length out
