-- Places, sizes and the most rounds are small, so that an answer's halves can be told apart. Assumes nothing.
use Prim.Native.Nat.{ℕ, zero, suc, ◌+◌, ◌*◌, ◌/◌, ◌≤◌}
use native.Mathlib.Omega.{arith}
use native.Mathlib.Nat.{max-le}
use mathlib.Core.Path.{◌≡◌, refl}
use mathlib.Core.Bool.{Bool, true, false, cond, not, ◌&&◌}
use mathlib.Core.List.{List, [], ◌∷◌, ◌++◌, append_assoc, append-nil}
use lib.Dec.{ltb, eqb}
use lib.ListN.{length, length-append, length-take, length-drop}
use borrow.Author.Tests.{ltb-true, ltb-false}
use Rattle.definitions.specs.Rule.{Rule, size}
use Rattle.definitions.specs.Values.{Word}
use Rattle.definitions.specs.Direct.{State, goes_on, Round, jumped, finished, origin, walk, joined, advance_from, advance, after_from, after}
use Rattle.definitions.specs.Batch.{Budgets, budget_of, map_from, start_at, starts_of, states_of, most_of}
use Rattle.definitions.specs.Grammar.{Got, got, refused, then, parsed, uncycled, rule_of, most_blocks, longest}
use Rattle.definitions.specs.Paths.{goto_in}
use Rattle.definitions.specs.Cycles.{cycle_of}
use Rattle.definitions.specs.Pages.{most_pages, page_size, length_in, check_in, check_of, page_in, payload_of, length_ok, filler_ok, size_ok, page_at, payload_to, unpacked, file_of}
use Rattle.definitions.specs.Calls.{to_read, to_write, to_compile, reply_in, Wrote, Batch, Ran, brought, most_budget}
use Rattle.definitions.specs.Finder.{most_rows}
use Rattle.definitions.specs.Columns.{flow_of}
use Rattle.definitions.specs.Plan.{plan_of}
use Rattle.definitions.specs.Refusals.{Reply}
use Rattle.pages.proofs.Reading.{size_is}
use Rattle.pages.proofs.Writing.{length-file}
use Rattle.readers.specs.Accepted.{RuleIn}
use Rattle.readers.proofs.Sound.{Sound}
use Rattle.readers.proofs.Accepted.{rule-sound, rule-in}
use Rattle.readers.proofs.Places.{rule-header}
use Rattle.rules.proofs.Uncycled.{rule-parsed}
use Rattle.plans.proofs.Fields.{plan-length}
use Rattle.plans.proofs.Ruling.{order-few}
use Rattle.batches.specs.Replies.{Counted, for_all, for_each, UnderRule, misfit, high, high_row, short_out, short_work, done, ToRun, no_plan, under}
use Rattle.batches.proofs.Budgets.{is_none, all-low}
use Rattle.batches.proofs.Exactly.{run_exactly}
use Rattle.tap.specs.Packed.{packed, most_number, Clear, Stands}
use Rattle.std.specs.Prelude.{Ok}
use Rattle.definitions.specs.declared.Reason.TheVariants.{FileSize, PageCheck, PageForm, TooLong, NoRoom, Misfit, OverLimit, NotPlan, GotoCycle}
use Rattle.definitions.specs.Refusals.{number_of, refusal}
use Rattle.definitions.specs.declared.Reason.{Reason}
use Rattle.definitions.proofs.Numbered.{number_low}

-- what is to be written, or the place of what is refused, is at most m
unfoldable pub Within : ℕ → Got (List ℕ) → Type 0
Within m (got xs n) = length xs ≤ m
Within m (refused k p) = (1 ≤ number_of k) × ((number_of k ≤ most_number) × (p ≤ m))

pub clear_wrote : {what : Got (List ℕ)} {old : List ℕ} {r : Reply} {new : List ℕ} → Within 8192 what → Wrote what old r new → Clear r
unfolding Within reply_in Clear
clear_wrote {what = got xs n} {old = old} h w = rw w.reply (go (ltb (length old) (length xs)))
  where
    go : (b : Bool) → Clear (cond b (refusal NoRoom 0) (Ok (length xs)))
    go true = (omega arith, (omega arith, omega arith))
    go false = omega arith
clear_wrote {what = refused k p} h w = rw w.reply (h.0, (h.1.0, omega arith))

-- the inner call's answer, packed
pub answered : {what : Got (List ℕ)} {old : List ℕ} {r : Reply} {new : List ℕ} {x : ℕ} → Within 8192 what → Wrote what old r new → x ≡ packed r → Stands (λ r. Wrote what old r new) x
answered {r = r} h w e = record { reply = r; holds = w; clear = clear_wrote h w; packs = e }

-- ---- files

-- page k, of which nothing is asked: its payload is a part of it
page-within : (last : Bool) (file : List ℕ) (k : ℕ) → Within (k + page_size) (page_at last (page_in file k) k)
unfolding page_at Within
page-within last file k = go (eqb (check_in (page_in file k)) (check_of k (page_in file k))) (length_ok last (length_in (page_in file k)) && filler_ok (page_in file k))
  where
    go : (a b : Bool) → Within (k + page_size) (cond (not a) (refused PageCheck k) (cond (not b) (refused PageForm k) (got (payload_of (page_in file k)) (k + 1))))
    go false b = (omega arith, (omega arith, omega arith))
    go true false = (omega arith, (omega arith, omega arith))
    go true true = simp (length-take, length-drop) (omega arith)

pages-within : (file : List ℕ) (P k : ℕ) → k ≤ most_pages → Within (k * 520) (payload_to file P k)
unfolding payload_to Within
pages-within file P zero few = omega arith
pages-within file P (suc k) few = go (payload_to file P k) (page_at (eqb (k + 1) P) (page_in file k) k) (pages-within file P k (omega arith)) (page-within (eqb (k + 1) P) file k)
  where
    go : (p q : Got (List ℕ)) → Within (k * 520) p → Within (k + page_size) q → Within (suc k * 520) (then p (λ xs at. then q (λ ys next. got (xs ++ ys) next)))
    go (got xs n) (got ys m) h l = simp length-append (omega arith)
    go (got xs n) (refused i j) h l = (l.0, (l.1.0, omega arith))
    go (refused i j) q h l = (h.0, (h.1.0, omega arith))

file-within : (file : List ℕ) → Within 4160 (unpacked file)
unfolding unpacked Within
file-within file = go (size_ok (length file)) refl
  where
    wider : (m n : ℕ) (p : Got (List ℕ)) → m ≤ n → Within m p → Within n p
    wider m n (got xs a) h l = omega arith
    wider m n (refused i j) h l = (l.0, (l.1.0, omega arith))

    go : (b : Bool) → size_ok (length file) ≡ b → Within 4160 (cond b (payload_to file (length file / page_size) (length file / page_size)) (refused FileSize 0))
    go true e =
        let few = size_is (length file) e in
        let k : length file / page_size ≤ most_pages = omega arith in
        wider (length file / page_size * 520) 4160 (payload_to file (length file / page_size) (length file / page_size)) (omega arith) (pages-within file (length file / page_size) (length file / page_size) k)
    go false e = (omega arith, (omega arith, omega arith))

-- ---- the calls

-- what is made of a rule of such bytes
of_rule :
    (s : List ℕ) (f : Rule → List ℕ) → length s ≤ 4160 → ((r : Rule) (n : ℕ) → rule_of s ≡ got r n → length (f r) ≤ 8192)
    → Within 8192 (then (rule_of s) (λ r n. got (f r) n))
unfolding Within Sound rule_of
of_rule s f short small = go (parsed s) refl (rule-sound s)
  where
    whole : (r : Rule) (n : ℕ) → parsed s ≡ got r n → size r ≤ most_blocks → (b : Bool) → ltb (cycle_of (size r) (goto_in r)) (size r) ≡ b
        → Within 8192 (then (cond b (refused GotoCycle (cycle_of (size r) (goto_in r))) (got r n)) (λ r n. got (f r) n))
    whole r n e l true t = (omega arith, (omega arith, omega (arith, ltb-true (cycle_of (size r) (goto_in r)) (size r) t)))
    whole r n e l false t = small r n (rw (e, t))

    go : (p : Got Rule) → parsed s ≡ p → Sound (RuleIn s) 3 (length s) p → Within 8192 (then (then p uncycled) (λ r n. got (f r) n))
    go (got r n) e h = whole r n e h.2.blocks_to (ltb (cycle_of (size r) (goto_in r)) (size r)) refl
    go (refused k p) e h = (omega arith, (omega arith, omega arith))

of_file : (file : List ℕ) (f : List ℕ → Rule → List ℕ) → ((s : List ℕ) (r : Rule) (n : ℕ) → length s ≤ 4160 → rule_of s ≡ got r n → length (f s r) ≤ 8192)
    → Within 8192 (then (unpacked file) (λ s _. then (rule_of s) (λ r n. got (f s r) n)))
unfolding Within
of_file file f small = go (unpacked file) (file-within file)
  where
    go : (p : Got (List ℕ)) → Within 4160 p → Within 8192 (then p (λ s _. then (rule_of s) (λ r n. got (f s r) n)))
    go (got s m) h = of_rule s (f s) h (λ r n e. small s r n h e)
    go (refused k p) h = (h.0, (h.1.0, omega arith))

pub read-within : (file : List ℕ) → Within 8192 (to_read file)
unfolding to_read
read-within file = of_file file (λ s _. s) (λ s r n h e. omega arith)

pub write_within : (s : List ℕ) → Within 8192 (to_write s)
unfolding to_write Within
write_within s = go (ltb longest (length s)) refl
  where
    go : (b : Bool) → ltb longest (length s) ≡ b → Within 8192 (cond b (refused TooLong 0) (then (rule_of s) (λ r n. got (file_of s) n)))
    go true e = (omega arith, (omega arith, omega arith))
    go false e = let h = ltb-false longest (length s) e in of_rule s (λ _. file_of s) (omega arith) (λ r n q. omega (arith, length-file s))

pub compile_within : (file : List ℕ) → Within 8192 (to_compile file)
unfolding to_compile
compile_within file =
    of_file file (λ s r. plan_of r s) (λ s r n h e.
    let i = rule-parsed s r n e in
    let few = (rule-in s r n i).blocks_to in
    omega (arith, plan-length (flow_of r) r s (rule-header s r n i), order-few r))

-- ---- the most rounds

module _ (r : Rule) (q : ℕ) where
  one_more : (s : State) → (advance r q s).begun ≤ s.begun + 1
  unfolding advance_from
  one_more s = go (goes_on s.finish) (walk (size r) origin r q s.block s.vars s.labels)
    where
      go : (b : Bool) (w : Round) → (cond b (joined s w) s).begun ≤ s.begun + 1
      go true (jumped t env ls) = omega arith
      go true (finished how ls) = omega arith
      go false w = omega arith

  began : (n : ℕ) (s : State) → (after r q n s).begun ≤ s.begun + n
  unfolding after_from
  began zero s = omega arith
  began (suc n) s = omega (arith, one_more (after r q n s), began n s)

  -- where no row's budget is over M, no row begins more rounds, whatever the order in which rows are added
  module _ (bs : Budgets) (M : ℕ) (low : (n : ℕ) → budget_of bs n ≤ M) where
    abbrev go_on : ℕ → State → State
    go_on n = after r q (budget_of bs n)

    most-began : (values : List Word) (rows : ℕ) (more : List State) → ((k : ℕ) → most_of (map_from go_on k more) ≤ M) → (k : ℕ) → most_of (map_from go_on k (starts_of r values rows ++ more)) ≤ M
    unfolding starts_of map_from most_of
    most-began values zero more h k = h k
    most-began values (suc n) more h k =
        let b : (j : ℕ) → (go_on j (start_at r values n)).begun ≤ M = λ j. omega (arith, began (budget_of bs j) (start_at r values n), low j) in
        rw append_assoc (most-began values n (start_at r values n ∷ more) (λ j. max-le (b j) (h (j + 1))) k)

    pub most-few : (values : List Word) (rows : ℕ) → most_of (states_of r values rows bs q) ≤ M
    unfolding map_from most_of
    most-few values rows = rw (append-nil (starts_of r values rows)) at (most-began values rows [] (λ k. omega arith) 0)

-- ---- the run

-- a refusal of the calls, whose place is a buffer's or a row's
clear-refused : (k : Reason) (p : ℕ) → p ≤ most_rows → Clear (refusal k p)
unfolding Clear
clear-refused k p h = let n = number_low k in (n.0, (omega (arith, n.1), omega arith))

-- no more budgets are brought than there may be rows
few-brought : {rows : ℕ} {bs : Budgets} → Counted rows bs → rows ≤ most_rows → length (brought bs) ≤ most_rows
few-brought (for_all N) h = omega arith
few-brought (for_each Ns e) h = omega arith

pub clear_run : {b : Batch} {out work : List Word} {x : Reply} {out' work' : List Word} → Ran b out work x out' work' → Clear x
unfolding Clear
clear_run {b = b} {out = out} {work = work} {x = x} {out' = out'} {work' = work'} w = go x ((run_exactly b out work x out' work' w x).0 refl)
  where
    ran : (r : Rule) (q : Reply) → UnderRule b r (length out) (length work) q → Clear q
    ran r _ (misfit h) = clear-refused Misfit 0 (omega arith)
    ran r _ (high f h) = clear-refused OverLimit 0 (omega arith)
    ran r _ (high_row {n = n} f l o) = clear-refused OverLimit n (omega (arith, o.there, few-brought f.counted f.few))
    ran r _ (short_out f l h) = clear-refused NoRoom 0 (omega arith)
    ran r _ (short_work f l o h) = clear-refused NoRoom 1 (omega arith)
    ran r _ (done f l o h) = omega (arith, most-few r b.quota b.budgets most_budget (all-low b.budgets (is_none (brought b.budgets) l.budgets-low)) b.values b.rows)

    go : (q : Reply) → ToRun b (length out) (length work) q → Clear q
    go _ (no_plan h) = clear-refused NotPlan 0 (omega arith)
    go q (under {r = r} p h) = ran r q h
