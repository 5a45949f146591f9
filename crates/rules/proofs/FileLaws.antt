-- What the calls on files come to, from what the pages and the reader answer. Assumes nothing.
use Prim.Native.Nat.{ℕ, ◌*◌, ◌≤◌, ◌<◌}
use mathlib.Core.Path.{◌≡◌, refl, sym, ap, ◌∙◌}
use mathlib.Core.List.{List, ◌++◌}
use native.Mathlib.Omega.{arith}
use lib.ListN.{length, take, drop, length-take}
use lib.Seq.{take-append_seam}
use borrow.Author.Tests.{lt-ltb, le-ltb}
use Rattle.buffers.specs.Words.{over}
use Rattle.buffers.proofs.Laws.{over-start}
use Rattle.definitions.specs.Grammar.{Got, got, refused, read_of, rule_of, longest}
use Rattle.definitions.specs.Pages.{page_size, pages_for, file_of, unpacked}
use Rattle.definitions.specs.Calls.{to_read, to_write, reply_in, bytes_in, Wrote}
use Rattle.definitions.specs.declared.Refusal.{Refusal}
use Rattle.pages.specs.Answers.{scan_of, Fits}
use Rattle.pages.proofs.Writing.{length-file}
use Rattle.pages.proofs.Reading.{scan_got, scan_refused, scan_fits}
use Rattle.pages.proofs.Trip.{Bytes, read_write}
use Rattle.rules.specs.Opened.{Opened}
use Rattle.std.specs.Prelude.{Ok, Err}
use Rattle.definitions.specs.declared.Reason.TheVariants.{TooLong, NoRoom}
use Rattle.definitions.specs.Refusals.{Reply, refusal}

-- ---- what an answer says of what was read
pub read-got : {A : Type 0} (g : Got A) (n : ℕ) → read_of g ≡ Ok n → (a : A) × (g ≡ got a n)
unfolding read_of
read-got (got a m) n e = let q : m ≡ n = cc in (a, rw q)
read-got (refused k p) n e = let z : ◌≡◌ {A = ℕ} 0 1 = cc in absurd (omega arith)

pub read-refused : {A : Type 0} (g : Got A) (w : Refusal) → read_of g ≡ Err w → g ≡ refused w.reason w.place
unfolding read_of
read-refused (got a m) w e = let z : ◌≡◌ {A = ℕ} 0 1 = cc in absurd (omega arith)
read-refused (refused k p) w e = let f : record { reason = k; place = p } ≡ w = cc in rw (← f)

-- ---- a file is opened
never_done : {C : Type 0} (w : Refusal) (n : ℕ) → Err w ≡ Ok n → C
never_done w n e = let z : ◌≡◌ {A = ℕ} 0 1 = cc in absurd (omega arith)

opened_no : {what : Got (List ℕ)} (w : Refusal) (buffer : List ℕ) → what ≡ refused w.reason w.place → Opened what (Err w) buffer
unfolding scan_of
opened_no w buffer e = record { reply = rw e; short = λ n d. never_done w n d; bytes = λ n d. never_done w n d }

module _ (file : List ℕ) where
  pub opened_not : (w : Refusal) (buffer : List ℕ) → scan_of (unpacked file) ≡ Err w → Opened (to_read file) (Err w) buffer
  unfolding to_read
  opened_not w buffer e = opened_no w buffer (rw (scan_refused (unpacked file) w e))

  module _ (n : ℕ) (scanned : scan_of (unpacked file) ≡ Ok n) where
    scan-short : Bytes file → n ≤ longest
    scan-short b =
        let g = scan_got (unpacked file) n scanned in
        omega (arith, g.1, (read_write file _ _ b g.0).most)

    module _ (old buffer : List ℕ) (unpacks : buffer ≡ bytes_in (unpacked file) ++ drop (length (bytes_in (unpacked file))) old) where
      part : take n buffer ≡ bytes_in (unpacked file)
      part = rw (unpacks, ← (scan_got (unpacked file) n scanned).1) (take-append_seam (bytes_in (unpacked file)) _)

      pub opened-bad : (w : Refusal) → read_of (rule_of (take n buffer)) ≡ Err w → Opened (to_read file) (Err w) buffer
      unfolding to_read
      opened-bad w e = opened_no w buffer (rw (scan_got (unpacked file) n scanned).0 (rw (← part, read-refused (rule_of (take n buffer)) w e)))

      good : (m : ℕ) → read_of (rule_of (take n buffer)) ≡ Ok m → to_read file ≡ got (take n buffer) m
      unfolding to_read
      good m e = rw (scan_got (unpacked file) n scanned).0 (rw (← part, (read-got (rule_of (take n buffer)) m e).1))

      pub opened-good : (m : ℕ) → Bytes file → read_of (rule_of (take n buffer)) ≡ Ok m → Opened (to_read file) (Ok n) buffer
      unfolding scan_of bytes_in
      opened-good m b e =
          let long : length (take n buffer) ≡ n = ap length part ∙ (scan_got (unpacked file) n scanned).1 in
          record {
            reply = rw (good m e) (ap Ok (sym long));
            short = λ k d. let q : n ≡ k = cc in omega (arith, scan-short b);
            bytes = λ k d. let q : n ≡ k = cc in rw (← q, good m e);
          }

-- what was found is no longer than a rule may be, and fits where a rule does
module _ (file : List ℕ) {r : Reply} (q : r ≡ scan_of (unpacked file)) (n : ℕ) (e : r ≡ Ok n) (b : Bytes file) where
  pub scanned-short : n ≤ longest
  scanned-short = scan-short file n (sym q ∙ e) b

  pub scanned-fits : (room : ℕ) → longest ≤ room → Fits (unpacked file) room
  scanned-fits room h = scan_fits (unpacked file) n room (sym q ∙ e) (omega (arith, scanned-short))

pub ruleset of_scan = (scanned-short, scanned-fits, length-take)

-- ---- the bytes that were found, into the caller's buffer
module _ (what : Got (List ℕ)) (old : List ℕ) where
  pub wrote_no : (w : Refusal) → Err w ≡ scan_of what → Wrote what old (Err w) old
  unfolding reply_in
  wrote_no w e = record { reply = rw (scan_refused what w (sym e)); buffer = refl }

  -- what has a size of n
  module _ (n : ℕ) (found : Ok n ≡ scan_of what) where
    sized : length (bytes_in what) ≡ n
    sized = (scan_got what n (sym found)).1

    pub wrote-short : length old < n → Wrote what old (refusal NoRoom 0) old
    unfolding reply_in
    wrote-short h = record { reply = rw (scan_got what n (sym found)).0 (rw (lt-ltb (length old) (length (bytes_in what)) (omega (arith, sized)))); buffer = refl }

    pub wrote-all : (new : List ℕ) → n ≤ length old → new ≡ over old 0 (bytes_in what) → Wrote what old (Ok n) new
    unfolding reply_in
    wrote-all new h e = record {
      reply = rw (scan_got what n (sym found)).0 (rw (le-ltb (length old) (length (bytes_in what)) (omega (arith, sized))) (ap Ok (sym sized)));
      buffer = e ∙ over-start old (bytes_in what);
    }

-- ---- writing a rule
module _ (s : List ℕ) where
  pub write_long : (old : List ℕ) → longest < length s → Wrote (to_write s) old (refusal TooLong 0) old
  unfolding to_write reply_in
  write_long old h = record { reply = rw (lt-ltb longest (length s) h); buffer = refl }

  module _ (short : length s ≤ longest) where
    pub write-bad : (w : Refusal) → read_of (rule_of s) ≡ Err w → Err w ≡ scan_of (to_write s)
    unfolding to_write scan_of
    write-bad w e = rw (le-ltb longest (length s) short, read-refused (rule_of s) w e)

    pub write-good : (m : ℕ) → read_of (rule_of s) ≡ Ok m → to_write s ≡ got (file_of s) m
    unfolding to_write
    write-good m e = rw (le-ltb longest (length s) short, (read-got (rule_of s) m e).1)

    -- size is what `pages::file_size` gives
    module _ (size : ℕ) (is : size ≡ pages_for (length s) * page_size) where
      pub write-size : (m : ℕ) → read_of (rule_of s) ≡ Ok m → Ok size ≡ scan_of (to_write s)
      unfolding scan_of
      write-size m e = rw (write-good m e) (ap Ok (is ∙ sym (length-file s)))

      pub write-all : (m : ℕ) → read_of (rule_of s) ≡ Ok m → (old new : List ℕ) → size ≤ length old
          → new ≡ file_of s ++ drop (pages_for (length s) * page_size) old → Wrote (to_write s) old (Ok size) new
      unfolding bytes_in
      write-all m e old new h w =
          wrote-all (to_write s) old _ (write-size m e) new h (w ∙ rw (write-good m e, ← length-file s) (sym (over-start old (file_of s))))
