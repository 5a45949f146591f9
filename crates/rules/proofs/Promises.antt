-- What the calls on files promise, from their contracts alone: one outcome, no byte changed by a refusal, both round trips, and each reply given
-- exactly if its row of the table holds. Assumes nothing.
use Prim.Native.Nat.{ℕ, ◌≤◌}
use native.Mathlib.Omega.{arith}
use mathlib.Core.Path.{◌≡◌, refl, sym, ap, ◌∙◌}
use mathlib.Core.Logic.{◌↔◌}
use mathlib.Core.Bool.{Bool, true, false, cond}
use mathlib.Core.List.{List}
use lib.Dec.{ltb}
use lib.ListN.{length, take, drop}
use lib.Seq.{take-append_seam, drop-append_seam}
use borrow.Author.Tests.{ltb-true, ltb-false, lt-ltb, le-ltb}
use Rattle.definitions.specs.Rule.{Rule, size}
use Rattle.definitions.specs.Grammar.{Got, got, refused, then, read_of, parsed, uncycled, rule_of, longest}
use Rattle.definitions.specs.Paths.{goto_in}
use Rattle.definitions.specs.Cycles.{cycle_of}
use Rattle.definitions.proofs.Cycled.{cycle-at}
use Rattle.definitions.specs.Plan.{end_of}
use Rattle.definitions.specs.Pages.{pages_for, file_of, unpacked}
use Rattle.definitions.specs.Calls.{left, to_read, to_write, reply_in, bytes_in, Wrote}
use Rattle.definitions.specs.declared.Refusal.{Refusal}
use Rattle.definitions.specs.Refusals.{Reply}
use Rattle.pages.proofs.Refusals.{refuses, refused-only}
use Rattle.pages.proofs.Trip.{Bytes, write_read, read_write}
use Rattle.rules.specs.Replies.{Make, OfRule, bad, cycle, short, done, OfFile, page, holds, ToRead, ToWrite, long, may}
use Rattle.readers.proofs.Sound.{sound-refused}
use Rattle.readers.proofs.Accepted.{rule-sound}
use Rattle.readers.proofs.Places.{through, rule-header}
use Rattle.rules.proofs.Uncycled.{rule-parsed, rule-bad, rule-cycled}
use Rattle.rules.proofs.FileLaws.{write-good}
use Rattle.std.specs.Prelude.{Ok, Err}
use Rattle.definitions.specs.declared.Reason.TheVariants.{TooLong, NoRoom, GotoCycle}
use Rattle.definitions.specs.Refusals.{refusal}
use Rattle.definitions.specs.declared.Reason.{Reason}

-- ---- reading, writing and compiling: each has one outcome
module _ (what : Got (List ℕ)) (old : List ℕ) where
  pub one_outcome : (r r' : Reply) (new new' : List ℕ) → Wrote what old r new → Wrote what old r' new' → (r ≡ r') × (new ≡ new')
  one_outcome r r' new new' w w' =
      let e : r ≡ r' = w.reply ∙ sym w'.reply in
      (e, w.buffer ∙ ap (λ (x : Reply). left x (bytes_in what) old) e ∙ sym w'.buffer)

  -- a refusal changes no byte
  pub refusal-stays : (w : Refusal) (new : List ℕ) → Wrote what old (Err w) new → new ≡ old
  refusal-stays w new h = h.buffer

  -- where n bytes are written they are the call's own, and what lies beyond them stays
  module _ (n : ℕ) (new : List ℕ) (h : Wrote what old (Ok n) new) where
    found : (g : Got (List ℕ)) → Ok n ≡ reply_in (length old) g → (g ≡ got (bytes_in g) (end_of g)) × (length (bytes_in g) ≡ n)
    unfolding reply_in bytes_in
    found (got xs m) e = go (ltb (length old) (length xs)) e
      where
        go : (b : Bool) → Ok n ≡ cond b (refusal NoRoom 0) (Ok (length xs)) → (got xs m ≡ got xs m) × (length xs ≡ n)
        go true q = let z : ◌≡◌ {A = ℕ} 0 1 = cc in absurd (omega arith)
        go false q = (refl, cc)
    found (refused k p) e = let z : ◌≡◌ {A = ℕ} 0 1 = cc in absurd (omega arith)

    pub done-what : what ≡ got (bytes_in what) (end_of what)
    done-what = (found what h.reply).0

    pub done-bytes : take n new ≡ bytes_in what
    done-bytes = rw (h.buffer, ← (found what h.reply).1) (take-append_seam (bytes_in what) _)

    pub done-beyond : drop n new ≡ drop n old
    done-beyond = rw (h.buffer, ← (found what h.reply).1) (drop-append_seam (bytes_in what) _)

-- with room for all bytes, all are written
all-written : (what : Got (List ℕ)) (xs : List ℕ) (m : ℕ) (old : List ℕ) (r : Reply) (new : List ℕ) → what ≡ got xs m → length xs ≤ length old → Wrote what old r new → (r ≡ Ok (length xs)) × (take (length xs) new ≡ xs)
unfolding reply_in bytes_in
all-written what xs m old r new e l w =
    let d : r ≡ Ok (length xs) = w.reply ∙ rw (e, le-ltb (length old) (length xs) l) in
    (d, rw (w.buffer, d, e) (take-append_seam xs _))

-- ---- each reply is given exactly if its row holds

-- bytes that are no rule: what is read first, or a cycle
no_rule : (make : Make) (room : ℕ) (s : List ℕ) (k : Reason) (p : ℕ) → rule_of s ≡ refused k p → OfRule make s room (refusal k p)
unfolding rule_of
no_rule make room s k p e = go (parsed s) refl e
  where
    go : (g : Got Rule) → parsed s ≡ g → then g uncycled ≡ refused k p → OfRule make s room (refusal k p)
    go (refused j q) i e =
        let b = sound-refused _ _ _ _ (rule-sound s) j q i in
        let f : refusal j q ≡ refusal k p = let z : j ≡ k = cc in let y : q ≡ p = cc in rw (z, y) in
        let found : OfRule make s room (refusal j q) = bad i b.0 b.1 b.2 in
        rw f at found
    go (got r n) i e = on (ltb (cycle_of (size r) (goto_in r)) (size r)) refl e
      where
        on : (b : Bool) → ltb (cycle_of (size r) (goto_in r)) (size r) ≡ b → cond b (refused GotoCycle (cycle_of (size r) (goto_in r))) (got r n) ≡ refused k p → OfRule make s room (refusal k p)
        on true t e =
            let f : refusal GotoCycle (cycle_of (size r) (goto_in r)) ≡ refusal k p = let z : GotoCycle ≡ k = cc in let y : cycle_of (size r) (goto_in r) ≡ p = cc in rw (← z, y) in
            let found : OfRule make s room (refusal GotoCycle (cycle_of (size r) (goto_in r))) = cycle i (cycle-at (size r) (goto_in r) (ltb-true (cycle_of (size r) (goto_in r)) (size r) t)) in
            rw f at found
        on false t e = let z : ◌≡◌ {A = ℕ} 0 1 = cc in absurd (omega arith)

module _ (make : Make) (room : ℕ) where
  abbrev made : List ℕ → Got (List ℕ)
  made s = then (rule_of s) (λ r n. got (make r s) n)

  of_rule : (s : List ℕ) → OfRule make s room (reply_in room (made s))
  unfolding reply_in
  of_rule s = go (rule_of s) refl
    where
      sized : (r : Rule) (n : ℕ) → rule_of s ≡ got r n → (b : Bool) → ltb room (length (make r s)) ≡ b → OfRule make s room (cond b (refusal NoRoom 0) (Ok (length (make r s))))
      sized r n e true i = short e (ltb-true room (length (make r s)) i)
      sized r n e false i = done e (ltb-false room (length (make r s)) i)

      go : (g : Got Rule) → rule_of s ≡ g → OfRule make s room (reply_in room (then g (λ r n. got (make r s) n)))
      go (got r n) e = sized r n e (ltb room (length (make r s))) refl
      go (refused k p) e = no_rule make room s k p e

  only-rule : (s : List ℕ) (q : Reply) → OfRule make s room q → reply_in room (made s) ≡ q
  unfolding reply_in
  only-rule s _ (bad {k} {p} e _ _ _) = rw (rule-bad s k p e)
  only-rule s _ (cycle {r} {n} {b} e l) = rw (rule-cycled s r n b e l)
  only-rule s _ (short {r} e l) = rw (e, lt-ltb room (length (make r s)) l)
  only-rule s _ (done {r} e l) = rw (e, le-ltb room (length (make r s)) l)

  module _ (file : List ℕ) where
    abbrev opened : Got (List ℕ)
    opened = then (unpacked file) (λ s _. made s)

    of_file : OfFile make file room (reply_in room opened)
    unfolding reply_in
    of_file = go (unpacked file) refl
      where
        go : (g : Got (List ℕ)) → unpacked file ≡ g → OfFile make file room (reply_in room (then g (λ s _. made s)))
        go (got s n) e = holds e (of_rule s)
        go (refused k p) e = page (refused-only file k p e)

    only-file : (q : Reply) → OfFile make file room q → reply_in room opened ≡ q
    unfolding reply_in
    only-file _ (page {k} {p} h) = rw (refuses file k p h)
    only-file q (holds {s} e h) = rw e (only-rule s q h)

-- for reading, and for compiling, as both take a file
pub file-exactly :
    (make : Make) (file old : List ℕ) (r : Reply) (new : List ℕ) → Wrote (then (unpacked file) (λ s _. then (rule_of s) (λ r n. got (make r s) n))) old r new →
    (q : Reply) → (r ≡ q) ↔ OfFile make file (length old) q
file-exactly make file old r new w q = (λ e. rw (sym w.reply ∙ e) at (of_file make (length old) file), λ h. w.reply ∙ only-file make (length old) file q h)

pub read-exactly : (file old : List ℕ) (r : Reply) (new : List ℕ) → Wrote (to_read file) old r new → (q : Reply) → (r ≡ q) ↔ ToRead file (length old) q
unfolding to_read
read-exactly file old r new w = file-exactly (λ r s. s) file old r new w

module _ (s : List ℕ) (room : ℕ) where
  to_write_lem : ToWrite s room (reply_in room (to_write s))
  unfolding to_write reply_in
  to_write_lem = go (ltb longest (length s)) refl
    where
      go : (b : Bool) → ltb longest (length s) ≡ b → ToWrite s room (reply_in room (cond b (refused TooLong 0) (then (rule_of s) (λ r n. got (file_of s) n))))
      go true i = long (ltb-true longest (length s) i)
      go false i = may (ltb-false longest (length s) i) (of_rule (λ r s. file_of s) room s)

  only_write : (q : Reply) → ToWrite s room q → reply_in room (to_write s) ≡ q
  unfolding to_write reply_in
  only_write _ (long l) = rw (lt-ltb longest (length s) l)
  only_write q (may l h) = rw (le-ltb longest (length s) l) (only-rule (λ r s. file_of s) room s q h)

pub write_exactly : (s old : List ℕ) (r : Reply) (new : List ℕ) → Wrote (to_write s) old r new → (q : Reply) → (r ≡ q) ↔ ToWrite s (length old) q
write_exactly s old r new w q = (λ e. rw (sym w.reply ∙ e) at (to_write_lem s (length old)), λ h. w.reply ∙ only_write s (length old) q h)

-- ---- the round trips
-- what is read after it was written: the same bytes
module _ (s out : List ℕ) (n : ℕ) (out' : List ℕ) (w : Wrote (to_write s) out (Ok n) out') where
  record Kept (xs : List ℕ) (m : ℕ) : Type 0 where
    rule : Rule
    is : rule_of s ≡ got rule m
    brief : length s ≤ longest
    bytes : xs ≡ file_of s

  kept : (xs : List ℕ) (m : ℕ) → to_write s ≡ got xs m → Kept xs m
  unfolding to_write
  kept xs m e = go (ltb longest (length s)) refl e
    where
      go : (b : Bool) → ltb longest (length s) ≡ b → cond b (refused TooLong 0) (then (rule_of s) (λ r n. got (file_of s) n)) ≡ got xs m → Kept xs m
      go true i q = let z : ◌≡◌ {A = ℕ} 0 1 = cc in absurd (omega arith)
      go false i q =
          let t = through (rule_of s) (λ r n. got (file_of s) n) xs m q in
          let e = t.then-was in
          let p : t.place ≡ m = cc in
          record { rule = t.first; is = t.was ∙ ap (got t.first) p; brief = ltb-false longest (length s) i; bytes = (cc) }

  abbrev written : Kept (bytes_in (to_write s)) (end_of (to_write s))
  written = kept (bytes_in (to_write s)) (end_of (to_write s)) (done-what (to_write s) out n out' w)

  -- the file holds these bytes
  pub written-holds : unpacked (take n out') ≡ got s (pages_for (length s))
  written-holds =
      let f : take n out' ≡ file_of s = done-bytes (to_write s) out n out' w ∙ written.bytes in
      rw f (write_read s (omega (arith, rule-header s written.rule (end_of (to_write s)) (rule-parsed s written.rule (end_of (to_write s)) written.is))) written.brief)

  pub written_read : (b : List ℕ) (r : Reply) (b' : List ℕ) → length s ≤ length b → Wrote (to_read (take n out')) b r b' → (r ≡ Ok (length s)) × (take (length s) b' ≡ s)
  unfolding to_read
  written_read b r b' l h = all-written (to_read (take n out')) s (end_of (to_write s)) b r b' (rw (written-holds, written.is)) l h

-- what is written after it was read: the same file, byte for byte
module _ (file out : List ℕ) (n : ℕ) (out' : List ℕ) (bytes : Bytes file) (w : Wrote (to_read file) out (Ok n) out') where
  pub read-written : (b : List ℕ) (r : Reply) (b' : List ℕ) → length file ≤ length b → Wrote (to_write (take n out')) b r b' → (r ≡ Ok (length file)) × (take (length file) b' ≡ file)
  unfolding to_read read_of
  read-written b r b' l h =
      let xs = bytes_in (to_read file) in
      let m = end_of (to_read file) in
      let o = through (unpacked file) _ xs m (done-what (to_read file) out n out' w) in
      let i = through (rule_of o.first) _ xs m o.then-was in
      let e : take n out' ≡ o.first = done-bytes (to_read file) out n out' w ∙ (let q = i.then-was in cc) in
      let u = read_write file o.first o.place bytes o.was in
      let f : to_write (take n out') ≡ got file i.place = ap to_write e ∙ write-good o.first u.most i.place (ap read_of i.was) ∙ ap (λ (x : List ℕ). got x i.place) u.back in
      all-written (to_write (take n out')) file i.place b r b' f l h
