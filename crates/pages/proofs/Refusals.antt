-- A file is refused with 1, 2 or 3 exactly if `Refuses` says so, and with no other number. Assumes nothing.
use Rattle.std.proofs.Common.{◌≡◌, ℕ, zero, suc, ◌+◌, ◌/◌, ◌<◌, Bool, true, false, cond, not, ◌&&◌, eqb, List, [], ◌++◌, length, sym, refl, ◌∙◌, le_refl, arith, eqb-true}
use borrow.Author.Tests.{eqb-false}
use Rattle.definitions.specs.Grammar.{Got, got, refused}
use Rattle.definitions.specs.Pages.{page_size, length_in, check_in, check_of, page_in, payload_of, length_ok, filler_ok, size_ok, page_at, payload_to, unpacked}
use Rattle.pages.specs.Answers.{Fits}
use Rattle.pages.specs.Refusals.{Good, Refuses, size, check, form}
use Rattle.pages.proofs.Reading.{absurd_got, joined, page-got, bad-check, bad-form, off, within, whole, wrong_size}
use Rattle.definitions.specs.declared.Reason.TheVariants.{FileSize, PageCheck, PageForm}
use Rattle.definitions.specs.declared.Reason.{Reason}

-- ---- it is refused where `Refuses` says so

record Clear (file : List ℕ) (P k : ℕ) : Type 0 where
  xs : List ℕ
  n : ℕ
  all : payload_to file P k ≡ got xs n

clear : (file : List ℕ) (P k : ℕ) → Good file P k → Clear file P k
unfolding payload_to
clear file P zero g = record { xs = []; n = 0; all = refl }
clear file P (suc k) g =
    let c = clear file P k (λ j h. g j (omega arith)) in
    record { xs = c.xs ++ payload_of (page_in file k); n = k + 1; all = rw (c.all, page-got (eqb (k + 1) P) (page_in file k) k (g k (omega arith))) }

pub refuses : (file : List ℕ) (i : Reason) (j : ℕ) → Refuses file i j → unpacked file ≡ refused i j
refuses file _ _ (size h) = wrong_size file h
refuses file _ _ (check {k} h l g c) =
    let P = length file / page_size in
    let a = clear file P k g in
    whole file h ∙ off file P k PageCheck k a.xs a.n l a.all (bad-check (eqb (k + 1) P) (page_in file k) k c)
refuses file _ _ (form {k} h l g c f) =
    let P = length file / page_size in
    let a = clear file P k g in
    whole file h ∙ off file P k PageForm k a.xs a.n l a.all (bad-form (eqb (k + 1) P) (page_in file k) k c f)

-- ---- and only there

got-fits : (g : Got (List ℕ)) (xs : List ℕ) (n : ℕ) → g ≡ got xs n → Fits g (length xs)
unfolding Fits
got-fits g xs n e = rw e (le_refl (length xs))

-- the first page that is refused
record First (file : List ℕ) (P m : ℕ) (i : Reason) (j : ℕ) : Type 0 where
  k : ℕ
  here : k < m
  before : Good file P k
  bad : page_at (eqb (k + 1) P) (page_in file k) k ≡ refused i j

first : (file : List ℕ) (P m : ℕ) (i : Reason) (j : ℕ) → payload_to file P m ≡ refused i j → First file P m i j
unfolding payload_to
first file P zero i j e = absurd_got (sym e)
first file P (suc m) i j e = go (payload_to file P m) (page_at (eqb (m + 1) P) (page_in file m) m) (λ s. first file P m i j s) refl refl e
  where
    go : (g h : Got (List ℕ)) → (payload_to file P m ≡ refused i j → First file P m i j) → payload_to file P m ≡ g → page_at (eqb (m + 1) P) (page_in file m) m ≡ h → joined g h ≡ refused i j → First file P (suc m) i j
    go (got xs n) (got ys l) ih eg eh q = absurd_got (sym q)
    go (got xs n) (refused a b) ih eg eh q =
        record { k = m; here = omega arith; before = within file P m (length xs) (got-fits (payload_to file P m) xs n eg); bad = eh ∙ q }
    go (refused a b) h ih eg eh q =
        let f = ih (eg ∙ q) in
        record { k = f.k; here = omega (arith, f.here); before = f.before; bad = f.bad }

module _ (file : List ℕ) (ok : size_ok (length file) ≡ true) where
  refused-page : (k : ℕ) (i : Reason) (j : ℕ) → k < length file / page_size → Good file (length file / page_size) k → page_at (eqb (k + 1) (length file / page_size)) (page_in file k) k ≡ refused i j → Refuses file i j
  unfolding page_at
  refused-page k i j h g e =
      let p = page_in file k in
      let last = eqb (k + 1) (length file / page_size) in
      go (eqb (check_in p) (check_of k p)) (length_ok last (length_in p) && filler_ok p) refl refl e
    where
      go : (a b : Bool) → eqb (check_in (page_in file k)) (check_of k (page_in file k)) ≡ a → (length_ok (eqb (k + 1) (length file / page_size)) (length_in (page_in file k)) && filler_ok (page_in file k)) ≡ b
          → cond (not a) (refused PageCheck k) (cond (not b) (refused PageForm k) (got (payload_of (page_in file k)) (k + 1))) ≡ refused i j → Refuses file i j
      go true true ea eb q = absurd_got (sym q)
      go true false ea eb q =
          let ei : PageForm ≡ i = cc in
          let ej : k ≡ j = cc in
          rw (← ei, ← ej) (form ok h g (eqb-true (check_in (page_in file k)) (check_of k (page_in file k)) ea) eb)
      go false b ea eb q =
          let ei : PageCheck ≡ i = cc in
          let ej : k ≡ j = cc in
          rw (← ei, ← ej) (check ok h g (eqb-false (check_in (page_in file k)) (check_of k (page_in file k)) ea))

pub refused-only : (file : List ℕ) (i : Reason) (j : ℕ) → unpacked file ≡ refused i j → Refuses file i j
refused-only file i j e = go (size_ok (length file)) refl
  where
    go : (b : Bool) → size_ok (length file) ≡ b → Refuses file i j
    go true h =
        let f = first file (length file / page_size) (length file / page_size) i j (sym (whole file h) ∙ e) in
        refused-page file h f.k i j f.here f.before f.bad
    go false h =
        let q : ◌≡◌ {A = Got (List ℕ)} (refused FileSize 0) (refused i j) = sym (wrong_size file h) ∙ e in
        let ei : FileSize ≡ i = cc in
        let ej : 0 ≡ j = cc in
        rw (← ei, ← ej) (size h)
