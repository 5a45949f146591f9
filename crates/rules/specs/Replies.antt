-- When each reply is given by a call that takes a file, and by the one that writes a file: a constructor to a row of 01's table of reply numbers, and
-- one for the size that is written where no row holds. 1 to 3, 11 and 12 are stated by themselves; which of 4 to 10 is given, and where, is what the
-- grammar function gives, so these are as exact as it is and no more; 16 is stated over paths in the tree that was read. Assumes nothing: these are definitions.
use Rattle.std.specs.Prelude.{ℕ, ◌≤◌, ◌<◌, ◌≡◌, List, length}
use Rattle.definitions.specs.Rule.{Rule, size}
use Rattle.definitions.specs.Grammar.{got, refused, parsed, rule_of, longest}
use Rattle.definitions.specs.Paths.{goto_in, LowestOnCycle}
use Rattle.definitions.specs.Pages.{file_of, unpacked}
use Rattle.definitions.specs.Refusals.{Reply}
use Rattle.pages.specs.Refusals.{Refuses}
use Rattle.std.specs.Prelude.{Ok}
use Rattle.definitions.specs.declared.Reason.TheVariants.{TooLong, NoRoom, GotoCycle}
use Rattle.definitions.specs.Refusals.{number_of, refusal}
use Rattle.definitions.specs.declared.Reason.{Reason}

-- what a call writes of a rule with the bytes s
abbrev pub Make : Type 0
Make = Rule → List ℕ → List ℕ

-- the bytes s are there, and there is so much room for what is made of their rule: 4 to 10 as the grammar gives them, 16 at the lowest block on a cycle of gotos (02, K5), then 12
pub data OfRule (make : Make) (s : List ℕ) (room : ℕ) : Reply → Type 0 where
  bad : {k : Reason} {p : ℕ} → parsed s ≡ refused k p → 4 ≤ number_of k → number_of k ≤ 10 → p ≤ length s → OfRule make s room (refusal k p)
  cycle : {r : Rule} {n b : ℕ} → parsed s ≡ got r n → LowestOnCycle (size r) (goto_in r) b → OfRule make s room (refusal GotoCycle b)
  short : {r : Rule} {n : ℕ} → rule_of s ≡ got r n → room < length (make r s) → OfRule make s room (refusal NoRoom 0)
  done : {r : Rule} {n : ℕ} → rule_of s ≡ got r n → length (make r s) ≤ room → OfRule make s room (Ok (length (make r s)))

-- a file is taken: 1, 2 and 3, then what its bytes give
pub data OfFile (make : Make) (file : List ℕ) (room : ℕ) : Reply → Type 0 where
  page : {k : Reason} {p : ℕ} → Refuses file k p → OfFile make file room (refusal k p)
  holds : {s : List ℕ} {n : ℕ} {q : Reply} → unpacked file ≡ got s n → OfRule make s room q → OfFile make file room q

-- reading gives back the bytes; a file that compiles gives its plan in the same way
abbrev pub ToRead : List ℕ → ℕ → Reply → Type 0
ToRead file room q = OfFile (λ r s. s) file room q

-- writing: 11, then what the bytes give
pub data ToWrite (s : List ℕ) (room : ℕ) : Reply → Type 0 where
  long : longest < length s → ToWrite s room (refusal TooLong 0)
  may : {q : Reply} → length s ≤ longest → OfRule (λ r s. file_of s) s room q → ToWrite s room q
