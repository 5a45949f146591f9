-- 01, Files: a page, a file of pages, and what a file holds.
use Rattle.std.specs.Prelude.{ℕ, zero, suc, ◌+◌, ◌-◌, ◌*◌, ◌/◌, ◌%◌, Bool, true, false, cond, not, ◌&&◌, List, [], ◌∷◌, ◌++◌, eqb, ltb, length, take, drop, replicate}
use Rattle.definitions.specs.Grammar.{Got, got, refused, then, between}
use Rattle.definitions.specs.Plan.{le16}
use Rattle.definitions.specs.declared.Reason.TheVariants.{FileSize, PageCheck, PageForm}
pub use Rattle.definitions.specs.Plan.{word_at}

abbrev pub most_pages : ℕ
most_pages = 8

abbrev pub page_size : ℕ
page_size = 512

-- the bytes of payload that a page has room for
abbrev pub payload_room : ℕ
payload_room = 508

-- the byte that the check begins at
abbrev pub check_place : ℕ
check_place = 510

-- how many words the check sums
abbrev pub summed_words : ℕ
summed_words = 255

-- the length of its payload that a page tells, and the check that stands in it
unfoldable pub length_in : List ℕ → ℕ
length_in p = word_at p 0

abbrev pub check_in : List ℕ → ℕ
check_in p = word_at p check_place

-- how often the word at each position, from 0, counts in a page's sum: all count once
abbrev pub weight_at : ℕ → ℕ
weight_at i = 1

-- the sum of the first n words by the weights of their positions
unfoldable pub word_sum : (ℕ → ℕ) → List ℕ → ℕ → ℕ
word_sum weight p zero = 0
word_sum weight p (suc n) = word_sum weight p n + word_at p (2 * n) * weight n

-- a page's check: the sum of its words and its number from 0, wrapped to 16 bits
unfoldable pub check_of : ℕ → List ℕ → ℕ
check_of number p = (word_sum weight_at p summed_words + number) % 65536

-- ---- writing

-- a page before its check: payload length, payload, zeros
unfoldable pub page_body : List ℕ → List ℕ
page_body xs = le16 (length xs) ++ (xs ++ replicate (payload_room - length xs) 0)

unfoldable pub page_of : ℕ → List ℕ → List ℕ
page_of number xs = page_body xs ++ le16 (check_of number (page_body xs))

-- how many pages n bytes take
abbrev pub pages_for : ℕ → ℕ
pages_for n = (n + (payload_room - 1)) / payload_room

-- what page k holds of a rule: every page but the last is full
abbrev pub piece_of : List ℕ → ℕ → List ℕ
piece_of rule k = take payload_room (drop (k * payload_room) rule)

-- the first n pages of a rule's file, and the whole file
unfoldable pub pages_to : List ℕ → ℕ → List ℕ
pages_to rule zero = []
pages_to rule (suc k) = pages_to rule k ++ page_of k (piece_of rule k)

unfoldable pub file_of : List ℕ → List ℕ
file_of rule = pages_to rule (pages_for (length rule))

-- ---- reading

abbrev pub page_in : List ℕ → ℕ → List ℕ
page_in file k = take page_size (drop (k * page_size) file)

abbrev pub payload_of : List ℕ → List ℕ
payload_of p = take (length_in p) (drop 2 p)

unfoldable pub all_zero : List ℕ → Bool
all_zero [] = true
all_zero (x ∷ xs) = eqb x 0 && all_zero xs

-- only the last page may be short, and it holds a byte at least
unfoldable pub length_ok : Bool → ℕ → Bool
length_ok true n = between 1 payload_room n
length_ok false n = eqb n payload_room

-- zeros between payload and check
abbrev pub filler_ok : List ℕ → Bool
filler_ok p = all_zero (drop (length_in p + 2) (take check_place p))

-- page k, the last or not: its payload and the number of the next page; 2 if its check is wrong, then 3 if its length or filler is
unfoldable pub page_at : Bool → List ℕ → ℕ → Got (List ℕ)
page_at last p k =
    cond (not (eqb (check_in p) (check_of k p))) (refused PageCheck k)
    (cond (not (length_ok last (length_in p) && filler_ok p)) (refused PageForm k)
    (got (payload_of p) (k + 1)))

-- what the first k of so many pages hold; each page is checked before the next
unfoldable pub payload_to : List ℕ → ℕ → ℕ → Got (List ℕ)
payload_to file pages zero = got [] 0
payload_to file pages (suc k) = then (payload_to file pages k) (λ xs at. then (page_at (eqb (k + 1) pages) (page_in file k) k) (λ ys next. got (xs ++ ys) next))

-- 1 to 8 whole pages
abbrev pub size_ok : ℕ → Bool
size_ok n = not (eqb n 0) && (not (ltb (most_pages * page_size) n) && eqb (n % page_size) 0)

-- what a file holds: 1 where its length is wrong, then what its pages say
unfoldable pub unpacked : List ℕ → Got (List ℕ)
unpacked file = cond (size_ok (length file)) (payload_to file (length file / page_size) (length file / page_size)) (refused FileSize 0)
