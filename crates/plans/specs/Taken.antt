-- The answer of the code to whether bytes are a plan.
use Rattle.std.specs.Prelude.{ℕ, ◌≤◌, ◌≡◌, List, length, take}
use Rattle.definitions.specs.Rule.{Rule}
use Rattle.definitions.specs.Grammar.{Got, got, refused, longest}
use Rattle.definitions.specs.Plan.{planned, carried}
use Rattle.std.specs.Prelude.{Option, Some, None}

-- a plan's rule has so many bytes; all refusals are one
unfoldable pub taken_of : Got Rule → Option ℕ
taken_of (got r n) = Some n
taken_of (refused k p) = None

-- the answer, and the carried rule at the buffer's start
pub record Taking (plan : List ℕ) (t : Option ℕ) (buffer : List ℕ) : Type 0 where
  pub answer : t ≡ taken_of (planned plan)
  pub bytes : (n : ℕ) → t ≡ Some n → take n buffer ≡ carried plan

-- the same before the rule is read: what a plan carries has a rule's length
pub record Extracted (plan : List ℕ) (t : Option ℕ) (buffer : List ℕ) : Type 0 where
  pub not : t ≡ None → taken_of (planned plan) ≡ None
  pub short : (n : ℕ) → t ≡ Some n → n ≤ longest
  pub size : (n : ℕ) → t ≡ Some n → n ≡ length (carried plan)
  pub bytes : (n : ℕ) → t ≡ Some n → take n buffer ≡ carried plan
