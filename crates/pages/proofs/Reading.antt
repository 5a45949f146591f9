-- Laws of a file as it is read: one page, the pages before it, the whole. Assumes nothing.
use Rattle.std.proofs.Common.{◌≡◌, ℕ, zero, suc, ◌+◌, ◌-◌, ◌*◌, ◌/◌, ◌%◌, ◌<◌, ◌≤◌, Bool, true, false, cond, not, ◌&&◌, eqb, ltb, leb, List, [], ◌∷◌, ◌++◌, length, take, drop, sym, refl, ap, ◌∙◌, subst, add-zero, add-suc, add-sub_of_le, add-one, arith, length-append, length-drop, length-take, length-take-le, ltb-false, eq-eqb, ne_eqb, eqb-true, leb-true}
use Rattle.std.specs.List.{list_all}
use native.Mathlib.Nat.{min-le_left}
use borrow.Author.Tests.{eqb-false, not-true}
use Rattle.definitions.specs.declared.Refusal.{Refusal}
use Rattle.definitions.specs.Grammar.{Got, got, refused, then}
use Rattle.definitions.specs.Plan.{end_of}
use Rattle.definitions.specs.Pages.{most_pages, page_size, payload_room, length_in, check_in, check_of, page_in, payload_of, all_zero, length_ok, filler_ok, size_ok, page_at, payload_to, unpacked}
use Rattle.buffers.specs.Words.{over}
use Rattle.buffers.proofs.Laws.{over-start, over-next}
use Rattle.pages.specs.Answers.{scan_of, Fits}
use Rattle.definitions.specs.Calls.{bytes_in}
use Rattle.pages.specs.Refusals.{Page, Good}
use Rattle.std.specs.Prelude.{Ok, Err}
use Rattle.definitions.specs.declared.Reason.TheVariants.{FileSize, PageCheck, PageForm}
use Rattle.definitions.specs.declared.Reason.{Reason}

-- ---- the filler

pub zero-all : (xs : List ℕ) → list_all (λ b. eqb b 0) xs ≡ all_zero xs
unfolding all_zero
zero-all [] = refl
zero-all (x ∷ xs) = ap (λ (r : Bool). eqb x 0 && r) (zero-all xs)

-- ---- a payload's length

pub and_left : (a b : Bool) → (a && b) ≡ true → a ≡ true
and_left true b h = refl
and_left false b h = h

pub and_right : (a b : Bool) → (a && b) ≡ true → b ≡ true
and_right true b h = h
and_right false b h = cc

pub length_some : (last : Bool) (n : ℕ) → length_ok last n ≡ true → (1 ≤ n) × (n ≤ payload_room)
unfolding length_ok
length_some true n h = (leb-true 1 n (and_left (leb 1 n) (leb n payload_room) h), leb-true n payload_room (and_right (leb 1 n) (leb n payload_room) h))
length_some false n h = let e = eqb-true n payload_room h in (omega arith, omega arith)

pub length_not_last : (last : Bool) (n : ℕ) → last ≡ false → length_ok last n ≡ true → n ≡ payload_room
unfolding length_ok
length_not_last last n e h = eqb-true n payload_room (rw e at h)

-- ---- parts of a file

pub page-part : (file : List ℕ) (k : ℕ) → take (k * page_size + page_size - k * page_size) (drop (k * page_size) file) ≡ page_in file k
page-part file k =
    let e : k * page_size + page_size - k * page_size ≡ page_size = omega arith in
    rw e

pub length-page_in : (file : List ℕ) (k : ℕ) → k * page_size + page_size ≤ length file → length (page_in file k) ≡ page_size
length-page_in file k h = length-take-le page_size (drop (k * page_size) file) (omega (arith, length-drop (k * page_size) file))

pub length_payload : (p : List ℕ) → length p ≡ page_size → length_in p ≤ payload_room → length (payload_of p) ≡ length_in p
length_payload p e h = length-take-le (length_in p) (drop 2 p) (omega (arith, length-drop 2 p))

-- ---- what an answer says

pub scan_got : (g : Got (List ℕ)) (n : ℕ) → scan_of g ≡ Ok n → (g ≡ got (bytes_in g) (end_of g)) × (length (bytes_in g) ≡ n)
unfolding scan_of bytes_in
scan_got (got xs m) n h = (refl, cc)
scan_got (refused k p) n h = let z : ◌≡◌ {A = ℕ} 0 1 = cc in absurd (omega arith)

pub scan_refused : (g : Got (List ℕ)) (w : Refusal) → scan_of g ≡ Err w → g ≡ refused w.reason w.place
unfolding scan_of
scan_refused (got xs m) w h = let z : ◌≡◌ {A = ℕ} 0 1 = cc in absurd (omega arith)
scan_refused (refused k p) w h =
    let e : record { reason = k; place = p } ≡ w = cc in
    rw (← e)

pub scan_fits : (g : Got (List ℕ)) (n room : ℕ) → scan_of g ≡ Ok n → n ≤ room → Fits g room
unfolding scan_of Fits
scan_fits (got xs m) n room h l = let e : length xs ≡ n = cc in omega arith
scan_fits (refused k p) n room h l = let z : ◌≡◌ {A = ℕ} 0 1 = cc in absurd (omega arith)

pub fits-got : (g : Got (List ℕ)) (room : ℕ) → Fits g room → (g ≡ got (bytes_in g) (end_of g)) × (length (bytes_in g) ≤ room)
unfolding bytes_in Fits
fits-got (got xs m) room h = (refl, h)
fits-got (refused k p) room h = absurd h

-- ---- what `scan_page` answers

pub absurd_got : {C : Type 0} {A : Type 0} {a : A} {n : ℕ} {k : Reason} {p : ℕ} → refused k p ≡ got a n → C
absurd_got h = let z : ◌≡◌ {A = ℕ} 0 1 = cc in absurd (omega arith)

module _ (last : Bool) (p : List ℕ) (k : ℕ) where
  pub page-got : Page last p k → page_at last p k ≡ got (payload_of p) (k + 1)
  unfolding page_at
  page-got h = rw (eq-eqb (check_in p) (check_of k p) h.check, h.size, h.filler)

  pub page-short : Page last p k → length_in p ≤ payload_room
  page-short h = (length_some last (length_in p) h.size).1

  pub got-page : (xs : List ℕ) (n : ℕ) → page_at last p k ≡ got xs n → Page last p k
  unfolding page_at
  got-page xs n e = go (eqb (check_in p) (check_of k p)) (length_ok last (length_in p)) (filler_ok p) refl refl refl e
    where
      go : (a b c : Bool) → eqb (check_in p) (check_of k p) ≡ a → length_ok last (length_in p) ≡ b → filler_ok p ≡ c
          → cond (not a) (refused PageCheck k) (cond (not (b && c)) (refused PageForm k) (got (payload_of p) (k + 1))) ≡ got xs n → Page last p k
      go true true true ea eb ec h = record { check = eqb-true (check_in p) (check_of k p) ea; size = eb; filler = ec }
      go true true false ea eb ec h = absurd_got h
      go true false c ea eb ec h = absurd_got h
      go false b c ea eb ec h = absurd_got h

  pub bad-check : (check_in p ≡ check_of k p → ⊥) → page_at last p k ≡ refused PageCheck k
  unfolding page_at
  bad-check h = rw (ne_eqb (check_in p) (check_of k p) h)

  pub bad-form : check_in p ≡ check_of k p → (length_ok last (length_in p) && filler_ok p) ≡ false → page_at last p k ≡ refused PageForm k
  unfolding page_at
  bad-form e h = rw (eq-eqb (check_in p) (check_of k p) e, h)

  -- the same as `scan_page` has it: a and b are the check as it stands and as it should be, n is the length
  module _ (a b n : ℕ) (ea : a ≡ check_in p) (eb : b ≡ check_of k p) where
    pub page-2 : (a ≡ b → ⊥) → Err (record { reason = PageCheck; place = k }) ≡ scan_of (page_at last p k)
    unfolding scan_of
    page-2 h = sym (ap scan_of (bad-check (λ e. h (ea ∙ e ∙ sym eb))))

    module _ (e : a ≡ b) (en : n ≡ length_in p) where
      pub page-3 : (length_ok last n && filler_ok p) ≡ false → Err (record { reason = PageForm; place = k }) ≡ scan_of (page_at last p k)
      unfolding scan_of
      page-3 h = sym (ap scan_of (bad-form (sym ea ∙ e ∙ eb) (rw en at h)))

      pub page-done : length p ≡ page_size → length_ok last n ≡ true → filler_ok p ≡ true → Ok n ≡ scan_of (page_at last p k)
      unfolding scan_of
      page-done l h f =
          let g : Page last p k = record { check = sym ea ∙ e ∙ eb; size = rw en at h; filler = f } in
          rw (page-got g) (ap Ok (en ∙ sym (length_payload p l (page-short g))))

  pub page-room : (n : ℕ) → Ok n ≡ scan_of (page_at last p k) → n ≤ payload_room
  unfolding bytes_in
  page-room n e =
      let g = scan_got (page_at last p k) n (sym e) in
      let ok = got-page (bytes_in (page_at last p k)) (end_of (page_at last p k)) g.0 in
      let l : length (payload_of p) ≡ n = ap (λ (q : Got (List ℕ)). length (bytes_in q)) (sym (page-got ok)) ∙ g.1 in
      omega (arith, page-short ok, length-take (length_in p) (drop 2 p), min-le_left (length_in p) (length (drop 2 p)))

-- ---- the pages one after the other

-- what two readings give one after the other
abbrev pub joined : Got (List ℕ) → Got (List ℕ) → Got (List ℕ)
joined g h = then g (λ xs at. then h (λ ys next. got (xs ++ ys) next))

scan_on : (g h : Got (List ℕ)) (t n : ℕ) → scan_of g ≡ Ok t → scan_of h ≡ Ok n → scan_of (joined g h) ≡ Ok (t + n)
unfolding scan_of
scan_on (got xs a) (got ys b) t n e f =
    let el : length xs ≡ t = cc in
    let er : length ys ≡ n = cc in
    rw (length-append, el, er)
scan_on (got xs a) (refused k p) t n e f = let z : ◌≡◌ {A = ℕ} 0 1 = cc in absurd (omega arith)
scan_on (refused k p) h t n e f = let z : ◌≡◌ {A = ℕ} 0 1 = cc in absurd (omega arith)

record Joined (g h : Got (List ℕ)) (room : ℕ) : Type 0 where
  first : Fits g room
  second : Fits h room
  both : bytes_in (joined g h) ≡ bytes_in g ++ bytes_in h

fits-joined : (g h : Got (List ℕ)) (room : ℕ) → Fits (joined g h) room → Joined g h room
unfolding Fits bytes_in
fits-joined (got xs a) (got ys b) room f =
    let l : length xs + length ys ≤ room = rw length-append at f in
    record { first = omega arith; second = omega arith; both = refl }
fits-joined (got xs a) (refused k p) room f = absurd f
fits-joined (refused k p) h room f = absurd f

module _ (file : List ℕ) (P : ℕ) where
  pub payload_more : (k : ℕ) → payload_to file P (k + 1) ≡ joined (payload_to file P k) (page_at (eqb (k + 1) P) (page_in file k) k)
  unfolding payload_to
  payload_more k = ap (payload_to file P) (add-one k)

  pub scan_none : scan_of (payload_to file P 0) ≡ Ok 0
  unfolding payload_to scan_of
  scan_none = refl

  -- a turn of `scan_pages` that goes on, p being the page
  pub turn_on : (k t n : ℕ) (p : List ℕ) → p ≡ page_in file k → scan_of (payload_to file P k) ≡ Ok t → Ok n ≡ scan_of (page_at (eqb (k + 1) P) p k)
      → scan_of (payload_to file P (k + 1)) ≡ Ok (t + n)
  turn_on k t n p ep e f =
      rw (payload_more k) (scan_on (payload_to file P k) (page_at (eqb (k + 1) P) (page_in file k) k) t n e (sym (rw ep at f)))

  stays : (k d : ℕ) (i : Reason) (j : ℕ) → payload_to file P k ≡ refused i j → payload_to file P (k + d) ≡ refused i j
  stays k zero i j s = rw add-zero s
  stays k (suc d) i j s = rw (add-suc, ← add-one, payload_more (k + d), stays k d i j s)

  -- the first page that is refused decides
  pub off : (k : ℕ) (i : Reason) (j : ℕ) (xs : List ℕ) (n : ℕ) → k < P → payload_to file P k ≡ got xs n → page_at (eqb (k + 1) P) (page_in file k) k ≡ refused i j → payload_to file P P ≡ refused i j
  off k i j xs n h e f =
      subst (λ (m : ℕ). payload_to file P m ≡ refused i j) (add-sub_of_le {n = P} {m = k + 1} (omega arith)) (stays (k + 1) (P - (k + 1)) i j (payload_more k ∙ rw (e, f)))

  -- a turn that ends with a refusal
  pub turn-off : (k t : ℕ) (w : Refusal) (p : List ℕ) → k < P → p ≡ page_in file k → scan_of (payload_to file P k) ≡ Ok t → Err w ≡ scan_of (page_at (eqb (k + 1) P) p k)
      → Err w ≡ scan_of (payload_to file P P)
  unfolding scan_of
  turn-off k t w p h ep e f =
      let g = payload_to file P k in
      let r = scan_refused (page_at (eqb (k + 1) P) (page_in file k) k) w (sym (rw ep at f)) in
      sym (ap scan_of (off k w.reason w.place (bytes_in g) (end_of g) h (scan_got g t e).0 r))

  fits-before : (k d room : ℕ) → Fits (payload_to file P (k + d)) room → Fits (payload_to file P k) room
  fits-before k zero room h = rw add-zero at h
  fits-before k (suc d) room h =
      let h' : Fits (payload_to file P (k + d + 1)) room = rw (add-suc, ← add-one) at h in
      fits-before k d room (fits-joined (payload_to file P (k + d)) (page_at (eqb (k + d + 1) P) (page_in file (k + d)) (k + d)) room (rw (payload_more (k + d)) at h')).first

  fits-to : (k n room : ℕ) → k ≤ n → Fits (payload_to file P n) room → Fits (payload_to file P k) room
  fits-to k n room h f = fits-before k (n - k) room (subst (λ (m : ℕ). Fits (payload_to file P m) room) (sym (add-sub_of_le {n = n} {m = k} h)) f)

  -- pages that are accepted
  pub within : (n room : ℕ) → Fits (payload_to file P n) room → Good file P n
  within n room f k h =
      let g = page_at (eqb (k + 1) P) (page_in file k) k in
      let j = fits-joined (payload_to file P k) g room (rw (payload_more k) at (fits-to (k + 1) n room (omega arith) f)) in
      got-page (eqb (k + 1) P) (page_in file k) k (bytes_in g) (end_of g) (fits-got g room j.second).0

  -- a turn of `unpack`: p is the page, and part what it holds
  module _ (k room : ℕ) (h : k < P) (f : Fits (payload_to file P P) room) (p : List ℕ) (ep : p ≡ page_in file k) where
    pub turn-short : length_in p ≤ payload_room
    turn-short = rw ep (page-short (eqb (k + 1) P) (page_in file k) k (within P room f k h))

    module _ (part : List ℕ) (ea : part ≡ payload_of p) where
      pub turn_more : bytes_in (payload_to file P (k + 1)) ≡ bytes_in (payload_to file P k) ++ part
      unfolding bytes_in
      turn_more =
          let e = page-got (eqb (k + 1) P) (page_in file k) k (within P room f k h) in
          let j = fits-joined (payload_to file P k) (page_at (eqb (k + 1) P) (page_in file k) k) room (rw (payload_more k) at (fits-to (k + 1) P room (omega arith) f)) in
          ap bytes_in (payload_more k) ∙ j.both ∙ rw (e, ea, ep)

      pub turn-fits : length (bytes_in (payload_to file P k)) + length part ≤ room
      turn-fits =
          omega (arith, (fits-got (payload_to file P (k + 1)) room (fits-to (k + 1) P room (omega arith) f)).1, ap length turn_more ∙ length-append (bytes_in (payload_to file P k)) part)

      pub turn-over : (out₀ out out' : List ℕ) (at : ℕ) → room ≡ length out₀ → at ≡ length (bytes_in (payload_to file P k)) → out ≡ over out₀ 0 (bytes_in (payload_to file P k)) → out' ≡ over out at part
          → out' ≡ over out₀ 0 (bytes_in (payload_to file P (k + 1)))
      turn-over out₀ out out' at er et eo eo' =
          eo' ∙ rw (eo, turn_more) (over-next out₀ 0 (bytes_in (payload_to file P k)) at part (omega arith) (omega (arith, turn-fits)))

-- ---- the whole file

pub whole : (file : List ℕ) → size_ok (length file) ≡ true → unpacked file ≡ payload_to file (length file / page_size) (length file / page_size)
unfolding unpacked
whole file h = rw h

pub wrong_size : (file : List ℕ) → size_ok (length file) ≡ false → unpacked file ≡ refused FileSize 0
unfolding unpacked
wrong_size file h = rw h

pub size_is : (n : ℕ) → size_ok n ≡ true → (1 ≤ n) × ((n ≤ (most_pages * page_size)) × (n % page_size ≡ 0))
size_is n h =
    let rest = and_right (not (eqb n 0)) (not (ltb (most_pages * page_size) n) && eqb (n % page_size) 0) h in
    let some : n ≡ 0 → ⊥ = eqb-false n 0 (not-true (eqb n 0) (and_left (not (eqb n 0)) (not (ltb (most_pages * page_size) n) && eqb (n % page_size) 0) h)) in
    let most = ltb-false (most_pages * page_size) n (not-true (ltb (most_pages * page_size) n) (and_left (not (ltb (most_pages * page_size) n)) (eqb (n % page_size) 0) rest)) in
    (pos-of-ne n some, (most, eqb-true (n % page_size) 0 (and_right (not (ltb (most_pages * page_size) n)) (eqb (n % page_size) 0) rest)))
  where
    pos-of-ne : (n : ℕ) → (n ≡ 0 → ⊥) → 1 ≤ n
    pos-of-ne zero h = absurd (h refl)
    pos-of-ne (suc n) h = omega arith

pub got-size : (file xs : List ℕ) (n : ℕ) → unpacked file ≡ got xs n → size_ok (length file) ≡ true
got-size file xs n e = go (size_ok (length file)) refl
  where
    go : (b : Bool) → size_ok (length file) ≡ b → size_ok (length file) ≡ true
    go true h = h
    go false h = absurd_got (sym (wrong_size file h) ∙ e)

-- a file that is accepted
module _ (file : List ℕ) (room : ℕ) (f : Fits (unpacked file) room) where
  pub ready-size : size_ok (length file) ≡ true
  ready-size = got-size file (bytes_in (unpacked file)) (end_of (unpacked file)) (fits-got (unpacked file) room f).0

  pub ready : Fits (payload_to file (length file / page_size) (length file / page_size)) room
  ready = rw (whole file ready-size) at f

  -- all pages are unpacked
  pub unpack_law : (out₀ out : List ℕ) (k : ℕ) → k ≡ length file / page_size → out ≡ over out₀ 0 (bytes_in (payload_to file (length file / page_size) k))
      → out ≡ bytes_in (unpacked file) ++ drop (length (bytes_in (unpacked file))) out₀
  unpack_law out₀ out k e eo = eo ∙ rw (e, ← whole file ready-size, over-start)

pub bytes-none : (file out : List ℕ) (P : ℕ) → out ≡ over out 0 (bytes_in (payload_to file P 0))
unfolding payload_to bytes_in
bytes-none file out P = sym (over-start out [])

pub bytes-length : (file : List ℕ) (P : ℕ) → 0 ≡ length (bytes_in (payload_to file P 0))
unfolding payload_to bytes_in
bytes-length file P = refl
