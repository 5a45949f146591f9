-- What a call accepts, said without the reader: bytes that some tree within the limits is written in. Assumes nothing: this is a definition.
use Rattle.std.specs.Prelude.{ℕ, ◌≤◌, ◌≡◌, List, length}
use Rattle.definitions.specs.Rule.{Rule}
use Rattle.definitions.specs.Spelling.{bytes_of}
use Rattle.definitions.specs.Limits.{Limits}
use Rattle.rules.specs.Replies.{Make}

-- s is a rule, what the call makes of it takes n bytes, and there is so much room
pub record Accepts (make : Make) (s : List ℕ) (room n : ℕ) : Type 0 where
  pub rule : Rule
  pub limits : Limits rule
  pub written : s ≡ bytes_of rule
  pub size : n ≡ length (make rule s)
  pub fits : n ≤ room
