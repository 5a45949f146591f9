-- When a file is refused with 1, 2 or 3, said without the reader: `unpacked` gives these refusals exactly then.
use Rattle.std.specs.Prelude.{◌≡◌, ℕ, ◌+◌, ◌/◌, ◌<◌, Bool, true, false, ◌&&◌, List, length, ◌==◌, ◌≢◌}
use Rattle.definitions.specs.Pages.{page_size, length_in, check_in, check_of, page_in, length_ok, filler_ok, size_ok}
use Rattle.definitions.specs.declared.Reason.{Reason}
use Rattle.definitions.specs.declared.Reason.TheVariants.{FileSize, PageCheck, PageForm}

-- page k, the last or not, is as it should be
pub record Page (last : Bool) (p : List ℕ) (k : ℕ) : Type 0 where
  pub check : check_in p ≡ check_of k p
  pub size : length_ok last (length_in p) ≡ true
  pub filler : filler_ok p ≡ true

-- the first k of so many pages are as they should be
abbrev pub Good : List ℕ → ℕ → ℕ → Type 0
Good file pages k = (j : ℕ) → j < k → Page (j + 1 == pages) (page_in file j) j

-- why and where a file is refused
pub data Refuses (file : List ℕ) : Reason → ℕ → Type 0 where
  size : size_ok (length file) ≡ false → Refuses file FileSize 0
  check : {k : ℕ} → size_ok (length file) ≡ true → k < length file / page_size → Good file (length file / page_size) k
      → (check_in (page_in file k) ≢ check_of k (page_in file k))
      → Refuses file PageCheck k
  form : {k : ℕ} → size_ok (length file) ≡ true → k < length file / page_size → Good file (length file / page_size) k
      → check_in (page_in file k) ≡ check_of k (page_in file k)
      → (length_ok (k + 1 == length file / page_size) (length_in (page_in file k)) && filler_ok (page_in file k)) ≡ false
      → Refuses file PageForm k
