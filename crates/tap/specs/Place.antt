-- Where the finder's part lies, as one number of 64 bits.
use Rattle.std.specs.Prelude.{ℕ, ◌+◌, ◌*◌, Option, None, Some}
use Rattle.definitions.specs.declared.Place.{Place}
use Rattle.definitions.specs.declared.Place.TheVariants.{InResult, InWork}
use Rattle.tap.specs.Packed.{half}

-- the part's first word
unfoldable pub first_word : Option Place → ℕ
first_word (Some (InResult at)) = at
first_word (Some (InWork at)) = at
first_word None = 0

-- the upper 32 bits are the buffer's number, the lower the part's first word; 0 for no part
unfoldable pub place_word : Option Place → ℕ
place_word (Some (InResult at)) = half + at
place_word (Some (InWork at)) = 2 * half + at
place_word None = 0
