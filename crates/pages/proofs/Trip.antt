-- Both round trips: what is written is read back, and what is read is written back. Assumes nothing.
use Rattle.std.proofs.Common.{◌≡◌, ℕ, zero, suc, ◌+◌, ◌-◌, ◌*◌, ◌/◌, ◌%◌, ◌<◌, ◌≤◌, Bool, true, eqb, List, [], ◌∷◌, ◌++◌, length, get_or, take, drop, replicate, sym, refl, ap, ◌∙◌, ⊎_elim, append_assoc, le_of_suc-le-suc, add_comm, eq-or-lt_of_le, add-one, arith, length-append, length-drop, take-append-drop, length-take, length-take-le, get_or-drop, take_all, drop-cons, take-take, drop-drop, take_at, get_or-append-add, take-add, drop_at, le-ltb, eq-eqb, ne_eqb, eqb-true, le-leb}
use native.Mathlib.Nat.{min-eq_left, min-eq_right}
use lib.Seq.{take-append-le, drop-append-le}
use Rattle.definitions.specs.Grammar.{Got, got, refused, longest}
use Rattle.definitions.specs.Plan.{le16}
use Rattle.definitions.specs.Pages.{most_pages, page_size, payload_room, check_place, word_at, length_in, check_in, check_of, page_body, page_of, pages_for, piece_of, pages_to, file_of, page_in, payload_of, all_zero, length_ok, filler_ok, page_at, payload_to, unpacked}
use Rattle.pages.specs.Refusals.{Page}
use Rattle.pages.proofs.Page.{check_of-append, length-body, length-page}
use Rattle.pages.proofs.Writing.{piece_le, length-pages_to, length-file}
use Rattle.pages.proofs.Reading.{and_left, and_right, length_some, length_not_last, absurd_got, joined, got-size, size_is, page-got, got-page, page-short, length-page_in, length_payload, whole}

-- ---- a page that was written, as it is read

all-zero : (n : ℕ) → all_zero (replicate n 0) ≡ true
unfolding all_zero
all-zero zero = refl
all-zero (suc n) = all-zero n

module _ (k : ℕ) (xs : List ℕ) (h : length xs ≤ payload_room) where
  page-length : length_in (page_of k xs) ≡ length xs
  unfolding length_in page_of page_body
  page-length = omega arith

  page-check : check_in (page_of k xs) ≡ check_of k (page_of k xs)
  unfolding page_of
  page-check =
      let b = page_body xs in
      let c = check_of k b in
      let lb = length-body xs h in
      let g : (i : ℕ) → get_or (b ++ le16 c) (check_place + i) 0 ≡ get_or (le16 c) i 0 = λ i. ap (λ (n : ℕ). get_or (b ++ le16 c) (n + i) 0) (sym lb) ∙ get_or-append-add b (le16 c) i 0 in
      let e : check_of k (b ++ le16 c) ≡ c = check_of-append b (le16 c) k (omega arith) in
      omega (arith, g 0, g 1)

  page-filler : filler_ok (page_of k xs) ≡ true
  unfolding page_of page_body
  page-filler =
      let b = page_body xs in
      let t : take check_place (b ++ le16 (check_of k b)) ≡ b = take_at b (le16 (check_of k b)) check_place (length-body xs h) in
      let d : drop (length xs + 2) b ≡ replicate (payload_room - length xs) 0 =
      ap (λ (n : ℕ). drop n b) (add_comm (length xs) 2) ∙ sym (drop-drop (length xs) 2 b) ∙ drop_at xs (replicate (payload_room - length xs) 0) (length xs) refl in
      ap (λ (n : ℕ). all_zero (drop (n + 2) (take check_place (page_of k xs)))) page-length ∙ ap (λ (l : List ℕ). all_zero (drop (length xs + 2) l)) t ∙ ap all_zero d ∙ all-zero (payload_room - length xs)

  page_payload : payload_of (page_of k xs) ≡ xs
  unfolding page_of page_body
  page_payload =
      ap (λ (n : ℕ). take n (drop 2 (page_of k xs))) page-length
      ∙ ap (take (length xs)) (append_assoc xs (replicate (payload_room - length xs) 0) (le16 (check_of k (page_body xs))))
      ∙ take_at xs (replicate (payload_room - length xs) 0 ++ le16 (check_of k (page_body xs))) (length xs) refl

  page-back : (last : Bool) → length_ok last (length xs) ≡ true → page_at last (page_of k xs) k ≡ got xs (k + 1)
  page-back last ok =
      page-got last (page_of k xs) k (record { check = page-check; size = rw page-length ok; filler = page-filler }) ∙ ap (λ (l : List ℕ). got l (k + 1)) page_payload

-- ---- the pages of a file that was written

last_page : (rule : List ℕ) (m : ℕ) → take page_size (drop (m * page_size) (pages_to rule m ++ page_of m (piece_of rule m))) ≡ page_of m (piece_of rule m)
last_page rule m =
    ap (take page_size) (drop_at (pages_to rule m) (page_of m (piece_of rule m)) (m * page_size) (length-pages_to rule m))
    ∙ take_all page_size (page_of m (piece_of rule m)) (omega (arith, length-page m (piece_of rule m) (piece_le rule m)))

early_page : (rule : List ℕ) (m k : ℕ) → k < m → take page_size (drop (k * page_size) (pages_to rule m ++ page_of m (piece_of rule m))) ≡ page_in (pages_to rule m) k
early_page rule m k l =
    let p = pages_to rule m in
    let lp = length-pages_to rule m in
    ap (take page_size) (drop-append-le (k * page_size) p (page_of m (piece_of rule m)) (omega arith))
    ∙ take-append-le page_size (drop (k * page_size) p) (page_of m (piece_of rule m)) (omega (arith, length-drop (k * page_size) p))

page_of-file : (rule : List ℕ) (n k : ℕ) → k < n → page_in (pages_to rule n) k ≡ page_of k (piece_of rule k)
unfolding pages_to
page_of-file rule zero k h = absurd (omega arith)
page_of-file rule (suc m) k h =
    ⊎_elim (λ (e : k ≡ m). rw e (last_page rule m)) (λ (l : k < m). early_page rule m k l ∙ page_of-file rule m k l)
    (eq-or-lt_of_le (le_of_suc-le-suc h))

-- ---- reading what was written

module _ (rule : List ℕ) (h1 : 1 ≤ length rule) where
  piece_length_full : (k : ℕ) → k * payload_room + payload_room ≤ length rule → length (piece_of rule k) ≡ payload_room
  piece_length_full k h = length-take payload_room (drop (k * payload_room) rule) ∙ min-eq_left (omega (arith, length-drop (k * payload_room) rule))

  piece_length_last : (k : ℕ) → length rule ≤ k * payload_room + payload_room → length (piece_of rule k) ≡ length rule - k * payload_room
  piece_length_last k h = length-take payload_room (drop (k * payload_room) rule) ∙ min-eq_right (omega (arith, length-drop (k * payload_room) rule)) ∙ length-drop (k * payload_room) rule

  piece_ok : (k : ℕ) → k < pages_for (length rule) → length_ok (eqb (k + 1) (pages_for (length rule))) (length (piece_of rule k)) ≡ true
  unfolding length_ok
  piece_ok k h = ⊎_elim here before (eq-or-lt_of_le h)
    where
      here : suc k ≡ pages_for (length rule) → length_ok (eqb (k + 1) (pages_for (length rule))) (length (piece_of rule k)) ≡ true
      here e =
          let e1 : k + 1 ≡ pages_for (length rule) = omega arith in
          let l = piece_length_last k (omega arith) in
          rw (eq-eqb (k + 1) (pages_for (length rule)) e1, le-leb 1 (length (piece_of rule k)) (omega (arith, l)), le-leb (length (piece_of rule k)) payload_room (piece_le rule k))

      before : suc k < pages_for (length rule) → length_ok (eqb (k + 1) (pages_for (length rule))) (length (piece_of rule k)) ≡ true
      before l =
          rw (ne_eqb (k + 1) (pages_for (length rule)) (λ (e : k + 1 ≡ pages_for (length rule)). omega arith)) (eq-eqb (length (piece_of rule k)) payload_room (piece_length_full k (omega arith)))

  -- the first k pages hold the first k * 508 bytes
  held_back : (k : ℕ) → k ≤ pages_for (length rule) → payload_to (file_of rule) (pages_for (length rule)) k ≡ got (take (k * payload_room) rule) k
  unfolding payload_to file_of
  held_back zero h = refl
  held_back (suc k) h =
      let e : suc k * payload_room ≡ k * payload_room + payload_room = omega arith in
      let p : page_at (eqb (k + 1) (pages_for (length rule))) (page_in (file_of rule) k) k ≡ got (piece_of rule k) (k + 1) =
      rw (page_of-file rule (pages_for (length rule)) k h) (page-back k (piece_of rule k) (piece_le rule k) (eqb (k + 1) (pages_for (length rule))) (piece_ok k h)) in
      rw (held_back k (omega arith), p, e, take-add (k * payload_room) payload_room rule, add-one)

  -- what is written is read back
  pub write_read : length rule ≤ longest → unpacked (file_of rule) ≡ got rule (pages_for (length rule))
  unfolding unpacked
  write_read h2 =
      let l = length-file rule in
      let P : length (file_of rule) / page_size ≡ pages_for (length rule) = omega arith in
      rw (ne_eqb (length (file_of rule)) 0 (λ (e : length (file_of rule) ≡ 0). omega arith), le-ltb (most_pages * page_size) (length (file_of rule)) (omega arith), eq-eqb (length (file_of rule) % page_size) 0 (omega arith), P, held_back (pages_for (length rule)) (omega arith), take_all (pages_for (length rule) * payload_room) rule (omega arith))

-- ---- bytes, in a form that a slice of bytes meets at every index

abbrev pub Bytes : List ℕ → Type 0
Bytes xs = (i : ℕ) → get_or xs i 0 < 256

pub bytes-append : (xs ys : List ℕ) → Bytes xs → Bytes ys → Bytes (xs ++ ys)
bytes-append [] ys hx hy i = hy i
bytes-append (x ∷ xs) ys hx hy zero = hx 0
bytes-append (x ∷ xs) ys hx hy (suc i) = bytes-append xs ys (λ j. hx (suc j)) hy i

pub bytes_take : (n : ℕ) (xs : List ℕ) → Bytes xs → Bytes (take n xs)
bytes_take zero xs h i = omega arith
bytes_take (suc n) [] h i = h i
bytes_take (suc n) (x ∷ xs) h zero = h 0
bytes_take (suc n) (x ∷ xs) h (suc i) = bytes_take n xs (λ j. h (suc j)) i

pub bytes_drop : (n : ℕ) (xs : List ℕ) → Bytes xs → Bytes (drop n xs)
bytes_drop n xs h i = rw (get_or-drop n xs i 0) (h (n + i))

-- two bytes as a number, and that number as two bytes
le16_word : (p : List ℕ) (i : ℕ) → Bytes p → i + 2 ≤ length p → le16 (word_at p i) ≡ take 2 (drop i p)
le16_word p i b h =
    let x = b i in
    let y = b (i + 1) in
    let low : word_at p i % 256 ≡ get_or p i 0 = omega arith in
    let high : word_at p i / 256 ≡ get_or p (i + 1) 0 = omega arith in
    let d0 : drop i p ≡ get_or p i 0 ∷ drop (i + 1) p = drop-cons p i 0 (omega arith) ∙ rw (add-one i) in
    let d1 : drop (i + 1) p ≡ get_or p (i + 1) 0 ∷ drop (suc (i + 1)) p = drop-cons p (i + 1) 0 (omega arith) in
    rw (low, high, d0, d1)

-- ---- a page that was read, written again

zeros : (xs : List ℕ) → all_zero xs ≡ true → xs ≡ replicate (length xs) 0
unfolding all_zero
zeros [] h = refl
zeros (x ∷ xs) h =
    let e : x ≡ 0 = eqb-true x 0 (and_left (eqb x 0) (all_zero xs) h) in
    let i = zeros xs (and_right (eqb x 0) (all_zero xs) h) in
    rw e (ap (λ (l : List ℕ). 0 ∷ l) i)

module _ (last : Bool) (p : List ℕ) (k : ℕ) (l : length p ≡ page_size) (b : Bytes p) (g : Page last p k) where
  body-again : page_body (payload_of p) ≡ take check_place p
  unfolding length_in page_body
  body-again =
      let n = length_in p in
      let short : n ≤ payload_room = page-short last p k g in
      let lt = length-take-le check_place p (omega arith) in
      let rest = drop (n + 2) (take check_place p) in
      let lr : length rest ≡ payload_room - n = length-drop (n + 2) (take check_place p) ∙ omega arith in
      let z : replicate (payload_room - n) 0 ≡ rest = ap (λ (m : ℕ). replicate m 0) (sym lr) ∙ sym (zeros rest g.filler) in
      let front : take 2 p ++ take n (drop 2 p) ≡ take (n + 2) (take check_place p) = sym (take-add 2 n p) ∙ ap (λ (m : ℕ). take m p) (add_comm 2 n) ∙ sym (take-take (n + 2) check_place p (omega arith)) in
      ap (λ (m : ℕ). le16 m ++ (payload_of p ++ replicate (payload_room - m) 0)) (length_payload p l short)
      ∙ ap (λ (q : List ℕ). q ++ (payload_of p ++ replicate (payload_room - n) 0)) (le16_word p 0 b (omega arith))
      ∙ ap (λ (q : List ℕ). take 2 p ++ (payload_of p ++ q)) z
      ∙ sym (append_assoc (take 2 p) (take n (drop 2 p)) rest)
      ∙ ap (λ (q : List ℕ). q ++ rest) front
      ∙ take-append-drop (n + 2) (take check_place p)

  page-again : page_of k (payload_of p) ≡ p
  unfolding page_of
  page-again =
      let c : check_of k (take check_place p) ≡ check_in p =
      sym (check_of-append (take check_place p) (drop check_place p) k (omega (arith, length-take-le check_place p (omega arith)))) ∙ ap (check_of k) (take-append-drop check_place p) ∙ sym g.check in
      ap (λ (q : List ℕ). q ++ le16 (check_of k q)) body-again
      ∙ ap (λ (m : ℕ). take check_place p ++ le16 m) c
      ∙ ap (λ (q : List ℕ). take check_place p ++ q) (le16_word p check_place b (omega arith) ∙ take_all 2 (drop check_place p) (omega (arith, length-drop check_place p)))
      ∙ take-append-drop check_place p

-- ---- the pages of a file that was read

pages_to-append : (ys zs : List ℕ) (k : ℕ) → k * payload_room ≤ length ys → pages_to (ys ++ zs) k ≡ pages_to ys k
unfolding pages_to
pages_to-append ys zs zero h = refl
pages_to-append ys zs (suc k) h =
    let e : piece_of (ys ++ zs) k ≡ piece_of ys k =
    ap (take payload_room) (drop-append-le (k * payload_room) ys zs (omega arith)) ∙ take-append-le payload_room (drop (k * payload_room) ys) zs (omega (arith, length-drop (k * payload_room) ys)) in
    rw (pages_to-append ys zs k (omega arith), e)

record Split (g h : Got (List ℕ)) (xs : List ℕ) (n : ℕ) : Type 0 where
  ys : List ℕ
  zs : List ℕ
  m : ℕ
  first : g ≡ got ys m
  second : h ≡ got zs n
  both : xs ≡ ys ++ zs

split : (g h : Got (List ℕ)) (xs : List ℕ) (n : ℕ) → joined g h ≡ got xs n → Split g h xs n
split (got ys a) (got zs b) xs n e = record { ys = ys; zs = zs; m = a; first = refl; second = cc; both = cc }
split (got ys a) (refused i j) xs n e = absurd_got e
split (refused i j) h xs n e = absurd_got e

-- what the first k pages of a file hold, if they are accepted: written again it gives those pages
record Again (file : List ℕ) (P k : ℕ) (xs : List ℕ) (n : ℕ) : Type 0 where
  next : n ≡ k
  least : k * payload_room ≤ length xs + (payload_room - 1)
  most : length xs ≤ k * payload_room
  full : k < P → length xs ≡ k * payload_room
  bytes : Bytes xs
  pages : pages_to xs k ≡ take (k * page_size) file

module _ (file : List ℕ) (P : ℕ) (b : Bytes file) (l : P * page_size ≤ length file) where
  more : (k : ℕ) (ys zs xs : List ℕ) (m n : ℕ) → suc k ≤ P → Again file P k ys m → Page (eqb (k + 1) P) (page_in file k) k → zs ≡ payload_of (page_in file k) → xs ≡ ys ++ zs → n ≡ k + 1
      → Again file P (suc k) xs n
  unfolding pages_to
  more k ys zs xs m n h i g ez ex en =
      let p = page_in file k in
      let bp = bytes_take page_size (drop (k * page_size) file) (bytes_drop (k * page_size) file b) in
      let lp : length p ≡ page_size = length-page_in file k (omega arith) in
      let ly : length ys ≡ k * payload_room = i.full h in
      let lz : length zs ≡ length_in p = ap length ez ∙ length_payload p lp (page-short (eqb (k + 1) P) p k g) in
      let s = length_some (eqb (k + 1) P) (length_in p) g.size in
      let la = length-append ys zs in
      let piece : piece_of (ys ++ zs) k ≡ zs = ap (take payload_room) (drop_at ys zs (k * payload_room) ly) ∙ take_all payload_room zs (omega arith) in
      let e : suc k * page_size ≡ k * page_size + page_size = omega arith in
      rw ex (record {
        next = en ∙ add-one k;
        least = omega arith;
        most = omega arith;
        full = λ (q : suc k < P). omega (arith, length_not_last (eqb (k + 1) P) (length_in p) (ne_eqb (k + 1) P (λ (z : k + 1 ≡ P). omega arith)) g.size);
        bytes = bytes-append ys zs i.bytes (rw ez (bytes_take (length_in p) (drop 2 p) (bytes_drop 2 p bp)));
        pages = rw (pages_to-append ys zs k (omega arith), piece, ez, page-again (eqb (k + 1) P) p k lp bp g, i.pages, e) (sym (take-add (k * page_size) page_size file));
      })

  again : (k : ℕ) (xs : List ℕ) (n : ℕ) → k ≤ P → payload_to file P k ≡ got xs n → Again file P k xs n
  unfolding payload_to pages_to
  again zero xs n h e =
      let ex : xs ≡ [] = cc in
      rw ex (record { next = cc; least = omega arith; most = omega arith; full = λ q. refl; bytes = λ i. omega arith; pages = refl })
  again (suc k) xs n h e =
      let last = eqb (k + 1) P in
      let p = page_in file k in
      let s = split (payload_to file P k) (page_at last p k) xs n e in
      let g = got-page last p k s.zs n s.second in
      let z : got s.zs n ≡ got (payload_of p) (k + 1) = sym s.second ∙ page-got last p k g in
      let ez : s.zs ≡ payload_of p = cc in
      let en : n ≡ k + 1 = cc in
      more k s.ys s.zs xs s.m n h (again k s.ys s.m (omega arith) s.first) g ez s.both en

-- what a file holds that is accepted
pub record Unpacked (file xs : List ℕ) (n : ℕ) : Type 0 where
  pub least : 1 ≤ length xs
  pub most : length xs ≤ longest
  pub bytes : Bytes xs
  pub pages : n ≡ pages_for (length xs)
  pub back : file_of xs ≡ file

-- what is read is written back
pub read_write : (file xs : List ℕ) (n : ℕ) → Bytes file → unpacked file ≡ got xs n → Unpacked file xs n
unfolding file_of
read_write file xs n b e =
    let P = length file / page_size in
    let ok = got-size file xs n e in
    let s = size_is (length file) ok in
    let a = again file P b (omega arith) P xs n (omega arith) (sym (whole file ok) ∙ e) in
    let eP : pages_for (length xs) ≡ P = omega (arith, a.least, a.most) in
    record {
      least = omega (arith, a.least);
      most = omega (arith, a.most);
      bytes = a.bytes;
      pages = a.next ∙ sym eP;
      back = rw eP (a.pages ∙ take_all (P * page_size) file (omega arith));
    }
