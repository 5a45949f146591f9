-- Where the finder's search ends in the table that a call leaves: at the row's own line. Assumes nothing.
use Prim.Native.Nat.{ℕ, zero, suc, ◌+◌, ◌-◌, ◌*◌, ◌<◌}
use native.Mathlib.Omega.{arith}
use mathlib.Core.Path.{◌≡◌, refl, sym, ap, ◌∙◌}
use mathlib.Core.Bool.{Bool, true, false, cond}
use mathlib.Core.List.{List, [], ◌∷◌, ◌++◌, append_assoc}
use lib.Dec.{eqb}
use lib.IntN.{pos}
use lib.ListN.{length, take, drop, length-append}
use lib.Seq.{get_or_at}
use denote.Ref.{Bor}
use borrow.Author.Tests.{eq-eqb, ne_eqb}
use Rattle.definitions.specs.Values.{Word, Val, values_in}
use Rattle.definitions.specs.Rule.{Rule}
use Rattle.definitions.specs.Direct.{State, start, after, goes_on}
use Rattle.definitions.specs.Batch.{Budgets, budget_of, map_from, lines_from, live_of, start_at, starts_of, states_of}
use Rattle.definitions.specs.Finder.{is_number, is_line, line_index, line_part}
use Rattle.layouts.specs.Layout.{width, line_in, lines_in}
use Rattle.finder.proofs.Finds.{if_whole, line-found}
use Rattle.layouts.proofs.Buffers.{part_mid}
use Rattle.layouts.proofs.Looks.{line-length}
use Rattle.tables.proofs.Rows.{map-append, map-length, lines-append, lines-length, live-length}
use Rattle.tables.proofs.Starts.{starts-length}
use Rattle.batches.proofs.Promises.{starts-split}

-- ---- the first line with a row's number
module _ (r : Rule) (k : ℕ) where
  abbrev w : ℕ
  w = width r

  -- whether the line after i lines is row k's
  is-line : (before : List Word) (j : ℕ) (x : State) (rest : List Word) (i : ℕ) → length before ≡ i * w → is_line (before ++ (line_in r j x ++ rest)) w k i ≡ eqb j k
  unfolding is_number
  is-line before j x rest i h =
      sym (if_whole (before ++ (line_in r j x ++ rest)) w k i (eqb j k)
      (omega (arith, length-append before (line_in r j x ++ rest), length-append (line_in r j x) rest, line-length r j x))
      (sym (ap (λ (z : Word). is_number z k) (get_or_at before (pos j) _ (pos 0) (i * w) h))))

  -- the search, one line on
  search_on : (work : List Word) (i n : ℕ) → 0 < n → line_index work w k i n ≡ cond (is_line work w k i) i (line_index work w k (i + 1) (n - 1))
  unfolding line_index
  search_on work i zero h = absurd (omega arith)
  search_on work i (suc n) h =
      let e : suc n - 1 ≡ n = omega arith in
      rw e

  module _ (s : State) (tail work : List Word) where
    -- from line i on there are the lines of the rows ss, which are numbered from j on, and then that of row k: the search ends there
    abbrev Ends : ℕ → List State → Type 0
    Ends j ss = (i n : ℕ) (before : List Word) → work ≡ before ++ (lines_in r j ss ++ (line_in r k s ++ tail)) → length before ≡ i * w → live_of ss < n → line_index work w k i n ≡ i + live_of ss

    search-ends : (ss : List State) (j : ℕ) → j + length ss ≡ k → Ends j ss
    unfolding lines_from live_of
    search-ends [] j c i n before e h l = search_on work i n l ∙ rw (e, is-line before k s tail i h, eq-eqb k k refl) (omega arith)
    search-ends (x ∷ ss) j c i n before e h l = go (goes_on x.finish) refl (search-ends ss (j + 1) (omega arith))
      where
        go : (b : Bool) → goes_on x.finish ≡ b → Ends (j + 1) ss → line_index work w k i n ≡ i + (cond (goes_on x.finish) 1 0 + live_of ss)
        go true g ih =
            let m : List Word = line_in r j x in
            let rest : List Word = lines_in r (j + 1) ss ++ (line_in r k s ++ tail) in
            let f : work ≡ before ++ (m ++ rest) = (rw g at e) ∙ ap (λ (y : List Word). before ++ y) (append_assoc m (lines_in r (j + 1) ss) (line_in r k s ++ tail)) in
            let miss : is_line work w k i ≡ false = rw f (is-line before j x rest i h ∙ ne_eqb j k (λ z. omega arith)) in
            let later = ih (i + 1) (n - 1) (before ++ m) (f ∙ sym (append_assoc before m rest)) (omega (arith, length-append before m, line-length r j x)) (omega (arith, rw g at l)) in
            search_on work i n (omega arith) ∙ rw (miss, g) (later ∙ omega arith)
        go false g ih = ih i n before (rw g at e) h (omega (arith, rw g at l)) ∙ rw g (omega arith)

-- where word a of a buffer lies in memory
abbrev pub address_of : Bor (List Word) → ℕ → ℕ × ℕ
address_of s a = (s.ref_ptr.0, a * 4 + s.ref_ptr.1)

-- ---- the line of a row that is unfinished
module _ (r : Rule) (values : List Word) (rows : ℕ) (bs : Budgets) (q k : ℕ) (one : k < rows) where
  abbrev g : ℕ → State → State
  g n = after r q (budget_of bs n)

  abbrev s : State
  s = g k (start_at r values k)

  -- the rows before it
  abbrev earlier : List State
  earlier = states_of r values k bs q

  many : length earlier ≡ k
  many = map-length g 0 (starts_of r values k) ∙ starts-length r values k

  module _ (work : Bor (List Word)) (tail : List Word) (e : lines_in r 0 (states_of r values rows bs q) ++ tail ≡ work.now) (on : goes_on s.finish ≡ true) where
    abbrev rest : List Word
    rest = lines_in r (k + 1) (map_from g (k + 1) (starts-split r values rows k one).rest) ++ tail

    laid : work.now ≡ lines_in r 0 earlier ++ (line_in r k s ++ rest)
    unfolding lines_from map_from
    laid =
        let m : 0 + length earlier ≡ k = omega (arith, many) in
        let m' : 0 + length (starts_of r values k) ≡ k = omega (arith, starts-length r values k) in
        sym e ∙ rw ((starts-split r values rows k one).is, map-append g 0 (starts_of r values k) (start_at r values k ∷ (starts-split r values rows k one).rest), m', lines-append r 0 earlier, m, on) (simp append_assoc)

    first-line : line_index work.now (width r) k 0 rows ≡ live_of earlier
    first-line = search-ends r k s rest work.now earlier 0 (omega (arith, many)) 0 rows [] laid (omega arith) (omega (arith, many, live-length earlier)) ∙ omega arith

    line-words : take (width r) (drop (live_of earlier * width r) work.now) ≡ line_in r k s
    line-words = rw laid (part_mid (lines_in r 0 earlier) (line_in r k s) rest (live_of earlier * width r) (width r) (lines-length r 0 earlier) (line-length r k s))

    line-part : line_part work rows (width r) k ≡ (address_of work (live_of earlier * width r), line_in r k s)
    line-part = sym (line-found work rows (width r) k (live_of earlier) (sym first-line) (omega (arith, many, live-length earlier))) ∙ ap (λ (x : List Word). (address_of work (live_of earlier * width r), x)) line-words

-- the same of a row with these arguments, budget and quota
pub its-line : (r : Rule) (values : List Word) (args : List Val) (rows : ℕ) (bs : Budgets) (Q N q k : ℕ) (work : Bor (List Word)) (tail : List Word) → lines_in r 0 (states_of r values rows bs Q) ++ tail ≡ work.now
    → budget_of bs k ≡ N → Q ≡ q → values_in (take r.arguments (drop (k * r.arguments) values)) ≡ args → k < rows → goes_on (after r q N (start r args)).finish ≡ true
    → line_part work rows (width r) k ≡ (address_of work (live_of (states_of r values k bs q) * width r), line_in r k (after r q N (start r args)))
its-line r values args rows bs Q N q k work tail e eN eq ea h = rw (← eN, ← eq, ← ea) (line-part r values rows bs Q k h work tail e)
