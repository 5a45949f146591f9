-- Laws of one page as it is written: its check, its size, its bytes. Assumes nothing.
use Rattle.std.proofs.Common.{◌≡◌, ℕ, zero, suc, ◌+◌, ◌-◌, ◌*◌, ◌%◌, ◌<◌, ◌≤◌, List, [], ◌∷◌, ◌++◌, length, drop, replicate, sym, refl, ap, ◌∙◌, append_assoc, arith, length-append, take_at}
use native.Mathlib.Nat.{zero-sub, suc-sub-suc, sub-zero}
use lib.ListN.{length-replicate, replicate-append-replicate, get_or-append}
use lib.Seq.{drop-append-add}
use Rattle.definitions.specs.Plan.{le16}
use Rattle.definitions.specs.Pages.{page_size, payload_room, check_place, summed_words, weight_at, word_sum, check_of, page_body, page_of}
use Rattle.buffers.specs.Words.{over}
use Rattle.buffers.proofs.Laws.{over-start, over-next}

drop-replicate : (n m a : ℕ) → drop n (replicate m a) ≡ replicate (m - n) a
drop-replicate zero m a = rw sub-zero
drop-replicate (suc n) zero a = rw zero-sub
drop-replicate (suc n) (suc m) a = rw suc-sub-suc (drop-replicate n m a)

-- what follows the summed words does not count
word_sum-append : (weight : ℕ → ℕ) (p q : List ℕ) (n : ℕ) → 2 * n ≤ length p → word_sum weight (p ++ q) n ≡ word_sum weight p n
unfolding word_sum
word_sum-append weight p q zero h = refl
word_sum-append weight p q (suc n) h =
    let h1 : 2 * n ≤ length p = omega arith in
    let h2 : 2 * n < length p = omega arith in
    let h3 : 2 * n + 1 < length p = omega arith in
    rw (word_sum-append weight p q n h1, get_or-append p q 0 (2 * n) h2, get_or-append p q 0 (2 * n + 1) h3)

pub check_of-append : (p q : List ℕ) (k : ℕ) → check_place ≤ length p → check_of k (p ++ q) ≡ check_of k p
unfolding check_of
check_of-append p q k h = rw (word_sum-append weight_at p q summed_words h)

-- what the loop of `check` leaves
pub check_law : (p : List ℕ) (k sum i : ℕ) → i ≡ summed_words → sum ≡ word_sum weight_at p i % 65536 → (sum + k) % 65536 ≡ check_of k p
unfolding check_of
check_law p k sum i e s =
    let s' : sum ≡ word_sum weight_at p summed_words % 65536 = rw e at s in
    omega arith

pub length-body : (xs : List ℕ) → length xs ≤ payload_room → length (page_body xs) ≡ check_place
unfolding page_body
length-body xs h = simp (length-append, length-replicate) (omega arith)

pub length-page : (k : ℕ) (xs : List ℕ) → length xs ≤ payload_room → length (page_of k xs) ≡ page_size
unfolding page_of
length-page k xs h = simp (length-append, length-body xs h)

-- 512 zeros with a payload's length and the payload put in: the check is still missing
filled : (xs : List ℕ) → length xs ≤ payload_room → over (over (replicate page_size 0) 0 (le16 (length xs))) 2 xs ≡ page_body xs ++ (0 ∷ 0 ∷ [])
unfolding page_body
filled xs h =
    let n = length xs in
    let e : payload_room - n + 2 ≡ 510 - n = omega arith in
    let d : ◌≡◌ {A = List ℕ} (drop n (replicate 510 0)) (replicate (payload_room - n) 0 ++ (0 ∷ 0 ∷ [])) =
    drop-replicate n 510 0 ∙ ap (λ (m : ℕ). replicate m 0) (sym e) ∙ sym (replicate-append-replicate (payload_room - n) 2 0) in
    over-next (replicate page_size 0) 0 (le16 n) 2 xs refl (omega arith) ∙ over-start (replicate page_size 0) (le16 n ++ xs)
    ∙ ap (λ (l : List ℕ). le16 n ++ (xs ++ l)) d
    ∙ ap (λ (l : List ℕ). le16 n ++ l) (sym (append_assoc xs (replicate (payload_room - n) 0) (0 ∷ 0 ∷ [])))

-- the last two of 512 bytes overwritten
ended : (p q : List ℕ) → length p ≡ check_place → over (p ++ (0 ∷ 0 ∷ [])) check_place q ≡ p ++ (q ++ drop (length q) (0 ∷ 0 ∷ []))
unfolding over
ended p q e =
    let d : drop (check_place + length q) (p ++ (0 ∷ 0 ∷ [])) ≡ drop (length q) (0 ∷ 0 ∷ []) =
    ap (λ (n : ℕ). drop (n + length q) (p ++ (0 ∷ 0 ∷ []))) (sym e) ∙ drop-append-add p (0 ∷ 0 ∷ []) (length q) in
    rw (take_at p (0 ∷ 0 ∷ []) check_place e, d)

-- what `page_of` returns: q is the page before its check, c the check
pub page_law : (xs : List ℕ) (k n c : ℕ) (q r s : List ℕ) → length xs ≤ payload_room → n ≡ length xs
    → q ≡ over (replicate page_size 0) 0 (le16 n) → r ≡ over q 2 xs → c ≡ check_of k r → s ≡ over r check_place (le16 c) → s ≡ page_of k xs
unfolding page_of
page_law xs k n c q r s h en eq er ec es =
    let r' : r ≡ page_body xs ++ (0 ∷ 0 ∷ []) = er ∙ rw (eq, en) (filled xs h) in
    let c' : c ≡ check_of k (page_body xs) = (rw r' at ec) ∙ check_of-append (page_body xs) (0 ∷ 0 ∷ []) k (omega (arith, length-body xs h)) in
    es ∙ rw (r', c') (ended (page_body xs) (le16 (check_of k (page_body xs))) (length-body xs h))
