-- What the contract of `run` promises of every call: one outcome alone, a refusal that changes no word, and rows that each go as if they ran alone.
-- Assumes nothing.
use mathlib.Core.Path.{◌≡◌, refl, sym, ap, ◌∙◌}
use mathlib.Core.Bool.{Bool, true, false}
use Prim.Native.Nat.{ℕ, zero, suc, ◌+◌, ◌-◌, ◌*◌, ◌≤◌, ◌<◌}
use native.Mathlib.Omega.{arith}
use mathlib.Core.List.{List, [], ◌∷◌, ◌++◌, append_assoc}
use lib.IntN.{pos, nat_abs}
use lib.ListN.{length, take, drop, get_or, replicate, length-take}
use lib.Seq.{take_at}
use lib.Dec.{ltb}
use borrow.Author.Tests.{ltb-true, ltb-false}
use Rattle.definitions.specs.Values.{Word, Val, values_in, words_of}
use Rattle.definitions.specs.Rule.{Rule}
use Rattle.definitions.specs.Grammar.{got}
use Rattle.definitions.specs.Plan.{planned}
use Rattle.definitions.specs.Direct.{State, start, after, goes_on}
use Rattle.definitions.specs.Batch.{Budgets, budget_of, map_from, record_size, record_of, records_of, start_at, starts_of, states_of}
use Rattle.definitions.specs.Calls.{Batch, Ran, records_in}
use Rattle.definitions.proofs.Values.{values_length, words-length, values-again}
use Rattle.definitions.specs.declared.Refusal.{Refusal}
use Rattle.definitions.specs.Refusals.{Reply}
use Rattle.columns.specs.Proper.{Proper}
use Rattle.columns.proofs.Rows.{Grown, after-begun, after_add, after-done, after-grown, run_sound}
use Rattle.layouts.proofs.Buffers.{part_mid}
use Rattle.layouts.proofs.Looks.{record_length}
use Rattle.tables.proofs.Rows.{map-append, records-append}
use Rattle.tables.proofs.Starts.{starts-length}
use Rattle.tables.proofs.Runs.{records-size}
use Rattle.batches.proofs.Accepted.{is-proper}
use Rattle.std.specs.Prelude.{Ok, Err}
use Rattle.definitions.proofs.Ends.{zero-goes, nonzero-ended}

-- ---- every call

-- no second outcome meets the contract
pub one_outcome : (b : Batch) (out work : List Word) (r r' : Reply) (o o' w w' : List Word) → Ran b out work r o w → Ran b out work r' o' w' → (r ≡ r') × (o ≡ o') × (w ≡ w')
one_outcome b out work r r' o o' w w' p p' =
    let e : r ≡ r' = p.reply ∙ sym p'.reply in
    (e, p.result ∙ rw e (sym p'.result), p.working ∙ rw e (sym p'.working))

-- a refusal changes no word
pub refused-keeps : (b : Batch) (out work : List Word) (f : Refusal) (o w : List Word) → Ran b out work (Err f) o w → (o ≡ out) × (w ≡ work)
refused-keeps b out work f o w p = (p.result, p.working)

-- ---- a row in a call that is not refused

-- the words of row k in the results, and the labels among them
abbrev pub record_at : ℕ → ℕ → List Word → List Word
record_at q k out = take (record_size q) (drop (k * record_size q) out)

abbrev pub status_of : List Word → Word
status_of words = get_or words 0 (pos 0)

abbrev pub rounds_of : List Word → Word
rounds_of words = get_or words 1 (pos 0)

abbrev pub labels_of : List Word → List Val
labels_of words = values_in (take (nat_abs (get_or words 2 (pos 0))) (drop (record_size 0) words))

-- some batch holds a row with these arguments at place k, and its call, with this budget for that row and this quota, leaves these results
pub record Called (plan : List ℕ) (r : Rule) (args : List Val) (N q k : ℕ) (results : List Word) : Type 0 where
  pub batch : Batch
  pub out : List Word
  pub work : List Word
  pub table : List Word
  pub most : ℕ
  pub ran : Ran batch out work (Ok most) results table
  pub plan' : batch.plan ≡ plan
  pub budget : budget_of batch.budgets k ≡ N
  pub quota : batch.quota ≡ q
  pub within : k < batch.rows
  pub args' : values_in (take r.arguments (drop (k * r.arguments) batch.values)) ≡ args

-- ---- a row among the rows

-- the rows before row k, row k, and the rows after it
pub record Split (r : Rule) (values : List Word) (rows k : ℕ) : Type 0 where
  pub rest : List State
  pub is : starts_of r values rows ≡ starts_of r values k ++ start_at r values k ∷ rest

pub starts-split : (r : Rule) (values : List Word) (rows k : ℕ) → k < rows → Split r values rows k
unfolding starts_of
starts-split r values zero k h = absurd (omega arith)
starts-split r values (suc n) k h = go (ltb k n) refl (starts-split r values n k)
  where
    go : (b : Bool) → ltb k n ≡ b → (k < n → Split r values n k) → Split r values (suc n) k
    go true e c =
        let d = c (ltb-true k n e) in
        let x : List State = start_at r values n ∷ [] in
        record { rest = d.rest ++ x; is = rw d.is (append_assoc (starts_of r values k) (start_at r values k ∷ d.rest) x) }
    go false e c =
        let z : n ≡ k = omega (arith, ltb-false k n e) in
        record { rest = []; is = ap (λ (m : ℕ). starts_of r values m ++ start_at r values m ∷ []) z }

module _ (r : Rule) (ok : Proper r) where
  args_few : (values : List Word) (k : ℕ) → length (values_in (take r.arguments (drop (k * r.arguments) values))) ≤ r.variables
  args_few values k = omega (arith, ok.given, values_length (take r.arguments (drop (k * r.arguments) values)), length-take r.arguments (drop (k * r.arguments) values))

  -- the record of row k is that of its own direct run, whatever stands beside it
  alone : (values : List Word) (rows : ℕ) (bs : Budgets) (q k : ℕ) (tail : List Word) → k < rows
      → record_at q k (records_of q (states_of r values rows bs q) ++ tail) ≡ record_of q (after r q (budget_of bs k) (start_at r values k))
  unfolding records_of map_from
  alone values rows bs q k tail h =
      let g : ℕ → State → State = λ n. after r q (budget_of bs n) in
      let s : State = start_at r values k in
      let c : Split r values rows k = starts-split r values rows k h in
      let before : List State = starts_of r values k in
      let there : 0 + length before ≡ k = omega (arith, starts-length r values k) in
      let e : records_of q (map_from g 0 (starts_of r values rows)) ++ tail ≡ records_of q (map_from g 0 before) ++ (record_of q (g k s) ++ (records_of q (map_from g (k + 1) c.rest) ++ tail)) =
      ap (λ (l : List State). records_of q (map_from g 0 l) ++ tail) c.is ∙ rw (map-append g 0 before (s ∷ c.rest), there, records-append) (simp append_assoc) in
      rw e (part_mid (records_of q (map_from g 0 before)) (record_of q (g k s)) (records_of q (map_from g (k + 1) c.rest) ++ tail) (k * record_size q) (record_size q)
      (records-size r ok values k bs q) (record_length r q (budget_of bs k) (g k s) (run_sound r q ok (values_in (take r.arguments (drop (k * r.arguments) values))) (args_few values k) (budget_of bs k))))

  its_own : (values : List Word) (args : List Val) (rows : ℕ) (bs : Budgets) (Q N q k : ℕ) (results tail : List Word) → results ≡ records_of Q (states_of r values rows bs Q) ++ tail
      → budget_of bs k ≡ N → Q ≡ q → values_in (take r.arguments (drop (k * r.arguments) values)) ≡ args → k < rows → record_at q k results ≡ record_of q (after r q N (start r args))
  its_own values args rows bs Q N q k results tail e eN eq ea h = rw (e, ← eN, ← eq, ← ea) (alone values rows bs Q k tail h)

-- ---- the promises

module _ (plan : List ℕ) (r : Rule) (n : ℕ) (accepted : planned plan ≡ got r n) (args : List Val) (q : ℕ) where
  ok : Proper r
  ok = is-proper plan r n accepted

  -- the record of a row is the direct run's
  pub direct : (N k : ℕ) (results : List Word) → Called plan r args N q k results → record_at q k results ≡ record_of q (after r q N (start r args))
  unfolding records_in
  direct N k results c =
      let b = c.batch in
      let e = rw (ap planned c.plan' ∙ accepted) at c.ran.result in
      its_own r ok b.values args b.rows b.budgets b.quota N q k results _ e c.budget c.quota c.args' c.within

  -- an unfinished row has begun as many rounds as its budget says
  pub spent : (N k : ℕ) (results : List Word) → Called plan r args N q k results → status_of (record_at q k results) ≡ pos 0 → rounds_of (record_at q k results) ≡ pos N
  spent N k results c z =
      let e = direct N k results c in
      let on : goes_on (after r q N (start r args)).finish ≡ true = zero-goes (after r q N (start r args)).finish (ap nat_abs (sym (ap status_of e) ∙ z)) in
      let all : (start r args).begun + N ≡ N = omega arith in
      ap rounds_of e ∙ ap pos (after-begun r q N (start r args) on ∙ all)

  labels_are : (words : List Word) (s : State) → words ≡ record_of q s → labels_of words ≡ s.labels
  labels_are words s e =
      let zeros : List Word = replicate (q - length s.labels) (pos 0) in
      rw e (ap values_in (take_at (words_of s.labels) zeros (length s.labels) (words-length s.labels)) ∙ values-again s.labels)

  -- Two calls, one after N and one after M rounds, in any two batches and at any two places.
  module _ (N M k k' : ℕ) (more : N ≤ M) (results results' : List Word) (c : Called plan r args N q k results) (c' : Called plan r args M q k' results') where
    abbrev s : State
    s = start r args

    later : after r q M s ≡ after r q (M - N) (after r q N s)
    later =
        let d : N + (M - N) ≡ M = omega arith in
        ap (λ (j : ℕ). after r q j s) (sym d) ∙ after_add r q N (M - N) s

    -- once the row has ended, the two records are the same in every word
    pub same-record : (status_of (record_at q k results) ≡ pos 0 → ⊥) → record_at q k results ≡ record_at q k' results'
    same-record z =
        let g : goes_on (after r q N s).finish ≡ false = nonzero-ended (after r q N s).finish (λ w. z (ap status_of (direct N k results c) ∙ ap pos w)) in
        let e : after r q M s ≡ after r q N s = later ∙ after-done r q (M - N) (after r q N s) g in
        direct N k results c ∙ ap (record_of q) (sym e) ∙ sym (direct M k' results' c')

    -- before, its labels in the one are a beginning of those in the other
    pub first-labels : Grown q (labels_of (record_at q k results)) (labels_of (record_at q k' results'))
    first-labels =
        let few : length args ≤ r.variables = rw (← c.args') (args_few r ok c.batch.values k) in
        rw (labels_are (record_at q k results) (after r q N s) (direct N k results c), labels_are (record_at q k' results') (after r q M s) (direct M k' results' c'), later)
        (after-grown r q ok N (after r q N s) (run_sound r q ok args few N) (M - N))
