-- What the exported calls answer: a reply as one number of 64 bits.
use Rattle.std.specs.Prelude.{ℕ, ◌+◌, ◌*◌, ◌≤◌, ◌<◌, ◌≡◌}
use Rattle.definitions.specs.Refusals.{Reply}
use Rattle.std.specs.Prelude.{Ok, Err}
use Rattle.definitions.specs.Refusals.{number_of}

abbrev pub half : ℕ
half = 4294967296

-- the upper 32 bits are a refusal's number, 0 if there is none; the lower are its place, or what was done
unfoldable pub packed : Reply → ℕ
packed (Ok n) = n
packed (Err f) = number_of f.reason * half + f.place

-- the highest number of a refusal
abbrev pub most_number : ℕ
most_number = 24

-- whether the two halves can be told apart again
unfoldable pub Clear : Reply → Type 0
Clear (Ok n) = n < half
Clear (Err f) = (1 ≤ number_of f.reason) × ((number_of f.reason ≤ most_number) × (f.place < half))

-- an answer that stands for a reply of which the contract of the inner call holds
pub record Stands (call : Reply → Type 0) (answer : ℕ) : Type 0 where
  pub reply : Reply
  pub holds : call reply
  pub clear : Clear reply
  pub packs : answer ≡ packed reply
