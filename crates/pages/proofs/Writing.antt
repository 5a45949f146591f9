-- Laws of a file as it is written, page after page. Assumes nothing.
use Rattle.std.proofs.Common.{◌≡◌, ℕ, zero, suc, ◌+◌, ◌-◌, ◌*◌, ◌≤◌, List, [], ◌++◌, length, take, drop, sym, refl, ◌∙◌, add-one, arith, length-append, length-drop, length-take, min}
use Rattle.std.proofs.lemmas.List.{take_min}
use native.Mathlib.Nat.{min-le_left}
use Rattle.definitions.specs.Pages.{page_size, payload_room, pages_for, page_of, piece_of, pages_to, file_of}
use Rattle.buffers.specs.Words.{over}
use Rattle.buffers.proofs.Laws.{over-start, over-next}
use Rattle.pages.proofs.Page.{length-page}

pub piece_le : (rule : List ℕ) (k : ℕ) → length (piece_of rule k) ≤ payload_room
piece_le rule k = rw length-take (min-le_left payload_room (length (drop (k * payload_room) rule)))

pub part_le : (rule part : List ℕ) (k : ℕ) → part ≡ piece_of rule k → length part ≤ payload_room
part_le rule part k e = rw e (piece_le rule k)

-- a piece as `piece` cuts it out: it ends where the rule does, if that comes first
pub piece_cut : (rule : List ℕ) (k e : ℕ) → e ≡ min (length rule) (k * payload_room + payload_room) → take (e - k * payload_room) (drop (k * payload_room) rule) ≡ piece_of rule k
piece_cut rule k e h =
    let rest = drop (k * payload_room) rule in
    let s : e - k * payload_room ≡ min payload_room (length rest) = omega (arith, length-drop (k * payload_room) rule) in
    rw s (take_min payload_room rest)

pub length-pages_to : (rule : List ℕ) (k : ℕ) → length (pages_to rule k) ≡ k * page_size
unfolding pages_to
length-pages_to rule zero = refl
length-pages_to rule (suc k) =
    let i = length-pages_to rule k in
    let p = length-page k (piece_of rule k) (piece_le rule k) in
    simp (length-append) (omega (arith, i, p))

pub length-file : (rule : List ℕ) → length (file_of rule) ≡ pages_for (length rule) * page_size
unfolding file_of
length-file rule = length-pages_to rule (pages_for (length rule))

pages_to-more : (rule : List ℕ) (k : ℕ) → pages_to rule (k + 1) ≡ pages_to rule k ++ page_of k (piece_of rule k)
unfolding pages_to
pages_to-more rule k = rw add-one

pub pages-none : (rule out : List ℕ) → out ≡ over out 0 (pages_to rule 0)
unfolding pages_to
pages-none rule out = sym (over-start out [])

-- a turn of `put_file`: one more page at its place
pub page-more : (rule out₀ out out' p part : List ℕ) (k : ℕ) → part ≡ piece_of rule k → p ≡ page_of k part → k * page_size ≤ length out₀
    → out ≡ over out₀ 0 (pages_to rule k) → out' ≡ over out (k * page_size) p → out' ≡ over out₀ 0 (pages_to rule (k + 1))
page-more rule out₀ out out' p part k ep e h eo eo' =
    eo' ∙ rw (eo, e, ep, pages_to-more) (over-next out₀ 0 (pages_to rule k) (k * page_size) (page_of k (piece_of rule k)) (omega (arith, length-pages_to rule k)) (omega (arith, length-pages_to rule k)))

-- all pages are there
pub file_law : (rule out₀ out : List ℕ) (k : ℕ) → k ≡ pages_for (length rule) → out ≡ over out₀ 0 (pages_to rule k)
    → out ≡ file_of rule ++ drop (pages_for (length rule) * page_size) out₀
unfolding file_of
file_law rule out₀ out k e eo = eo ∙ rw (e, over-start, length-pages_to rule (pages_for (length rule)))
