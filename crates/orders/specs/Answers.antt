-- What the code answers of cycles.
use Rattle.std.specs.Prelude.{Bool, cond, ℕ, ltb, Option, None, Some}
use Rattle.definitions.specs.Paths.{NoCycle, LowestOnCycle}
use Rattle.definitions.specs.Cycles.{cycle_of}

-- the lowest block on a cycle, or that there is none
abbrev pub First : ℕ → (ℕ → ℕ → Bool) → Option ℕ → Type 0
First n edge None = NoCycle n edge
First n edge (Some b) = LowestOnCycle n edge b

-- the same, computed. That there is no other right answer is the theorem `first-is` of proofs/Answers.antt
unfoldable pub first_of : ℕ → (ℕ → ℕ → Bool) → Option ℕ
first_of n edge = cond (ltb (cycle_of n edge) n) (Some (cycle_of n edge)) None
