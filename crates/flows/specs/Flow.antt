-- What the tables of a rule's flow have to say.
use Rattle.std.specs.Prelude.{◌≡◌, Bool, List, ℕ, ◌≤◌, length, get_or}
use Rattle.definitions.specs.Rule.{Rule, size}
use Rattle.definitions.specs.Grammar.{got, parsed, longest}
use Rattle.definitions.specs.Columns.{flow_of}
use Rattle.definitions.specs.Plan.{place_of}
use Rattle.closure.specs.Tables.{Tables}

-- the bytes are read to their end as a rule, whether or not its gotos form a cycle, and are no longer than a rule may be
pub record Ruled (s : List ℕ) : Type 0 where
  pub rule : Rule
  pub end : ℕ
  pub is : parsed s ≡ got rule end
  pub short : length s ≤ longest

-- a rule's bytes, the number of its blocks, and where each begins and the last one ends
pub record Placed (r : Rule) (s bytes : List ℕ) (n : ℕ) (starts : List ℕ) : Type 0 where
  pub bytes_are : bytes ≡ s
  pub number : n ≡ size r
  pub places : (b : ℕ) → b ≤ size r → get_or starts b 0 ≡ place_of r s b

-- where each block begins and the last one ends, and what each reads first, sets and names
pub record Told (r : Rule) (s starts : List ℕ) (fv bv gotos jumps : List Bool) : Type 0 where
  pub places : (b : ℕ) → b ≤ size r → get_or starts b 0 ≡ place_of r s b
  pub tables : Tables (flow_of r) (size r) r.variables fv bv gotos jumps
