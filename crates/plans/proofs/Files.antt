-- What a file's pages hold: the file's rule, and never more bytes than a rule may have. Assumes nothing.
use Prim.Native.Nat.{ℕ, zero, suc, ◌+◌, ◌*◌, ◌/◌, ◌≤◌}
use mathlib.Core.Path.{◌≡◌, sym, ap, ◌∙◌}
use mathlib.Core.List.{List, [], ◌++◌}
use native.Mathlib.Omega.{arith}
use lib.Dec.{eqb}
use lib.ListN.{length, length-append}
use Rattle.definitions.specs.Grammar.{got, rule_of, longest}
use Rattle.definitions.specs.Pages.{page_size, payload_room, page_in, page_at, payload_to, unpacked}
use Rattle.pages.specs.Answers.{scan_of}
use Rattle.pages.proofs.Reading.{page-room, whole, size_is, got-size}
use Rattle.readers.proofs.Places.{through}
use Rattle.plans.specs.Promised.{rule_in_file}

-- the rule in what it holds
pub rule-held : (file s : List ℕ) (n : ℕ) → unpacked file ≡ got s n → rule_in_file file ≡ rule_of s
unfolding rule_in_file
rule-held file s n e = rw e

-- no page holds more than it has room for, and a file has few
pages-short : (file : List ℕ) (P k : ℕ) (xs : List ℕ) (n : ℕ) → payload_to file P k ≡ got xs n → length xs ≤ k * payload_room
unfolding payload_to scan_of
pages-short file P zero xs n e = let none : xs ≡ [] = cc in rw none (omega arith)
pages-short file P (suc k) xs n e =
    let before = through (payload_to file P k) _ xs n e in
    let last = through (page_at (eqb (k + 1) P) (page_in file k) k) _ xs n before.then-was in
    let all : xs ≡ before.first ++ last.first = (let w = last.then-was in cc) in
    let room = page-room (eqb (k + 1) P) (page_in file k) k (length last.first) (sym (ap scan_of last.was)) in
    rw all (omega (arith, length-append before.first last.first, pages-short file P k before.first before.place before.was))

pub unpacked-short : (file xs : List ℕ) (n : ℕ) → unpacked file ≡ got xs n → length xs ≤ longest
unpacked-short file xs n e =
    let ok = got-size file xs n e in
    let size = size_is (length file) ok in
    omega (arith, pages-short file (length file / page_size) (length file / page_size) xs n (sym (whole file ok) ∙ e))
