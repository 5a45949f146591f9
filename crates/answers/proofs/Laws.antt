-- Laws of the input's values, of a run's reply and of the text of its records.
use Prim.Native.Nat.{ℕ, zero, suc, ◌+◌, ◌-◌, ◌*◌, ◌≤◌}
use mathlib.Core.Path.{◌≡◌, refl, sym, ap, ◌∙◌}
use mathlib.Core.Bool.{Bool, true, false, cond}
use mathlib.Core.List.{List, [], ◌∷◌, ◌++◌}
use native.Mathlib.Omega.{arith}
use lib.Dec.{ltb}
use borrow.Author.Tests.{ltb-false}
use lib.IntN.{pos}
use lib.ListN.{length, take, drop, get_or, replicate}
use Rattle.std.specs.Prelude.{Ok, Err}
use Rattle.std.proofs.lemmas.List.{drop-replicate, get_or-drop, take_all, length-drop}
use Rattle.values.specs.Words.{constants_in}
use Rattle.definitions.specs.Values.{Word}
use Rattle.definitions.specs.Grammar.{Got, got, refused}
use Rattle.definitions.specs.Plan.{planned, longest_plan}
use Rattle.definitions.specs.Calls.{Batch, Ran, Wrote, run_reply, records_in, to_compile, reply_in}
use Rattle.definitions.specs.Refusals.{Reply, refusal, number_of}
use Rattle.definitions.specs.declared.Refusal.{Refusal}
use Rattle.definitions.specs.declared.Reason.{Reason}
use Rattle.definitions.specs.declared.Reason.TheVariants.{NoRoom}
use Rattle.rules.proofs.Promises.{done-bytes}
use Rattle.printing.specs.Text.{words_text, line_text, lines_text, record_at, answer_text, refusal_text}
use Rattle.answers.specs.Answer.{words_in, no_batch, batch_in, result_room, work_room, ran_answer, batch_answer, input_answer, file_answer, answer_to}

-- ---- the values

beyond : (s : List ℕ) (i k : ℕ) → get_or (drop 12 s) (i + k) 0 ≡ get_or s (12 + i + k) 0
beyond s i k = get_or-drop 12 s (i + k) 0 ∙ ap (λ (j : ℕ). get_or s j 0) (omega arith)

values-are : (s : List ℕ) (n : ℕ) → constants_in (drop 12 s) n ≡ words_in s n
unfolding words_in constants_in
values-are s zero = refl
values-are s (suc n) =
    rw (values-are s n, get_or-drop 12 s (4 * n) 0, beyond s (4 * n) 1, beyond s (4 * n) 2, beyond s (4 * n) 3) refl

-- as the code cuts off the numbers
pub values-read : (s : List ℕ) {m n : ℕ} → m ≡ n → constants_in (take (length s - 12) (drop 12 s)) m ≡ words_in s n
values-read s {m} h =
    let all : take (length s - 12) (drop 12 s) ≡ drop 12 s = take_all (length s - 12) (drop 12 s) (omega (arith, length-drop 12 s)) in
    ap (λ l. constants_in l m) all ∙ values-are s m ∙ ap (words_in s) h

-- ---- a run's reply

no_refusal : (t : Bool) (k : Reason) (p : ℕ) {r : Reply} {most : ℕ} → cond t (refusal k p) r ≡ Ok most → (t ≡ false) × (r ≡ Ok most)
no_refusal true k p e = let z : ◌≡◌ {A = ℕ} 0 1 = cc in absurd (omega arith)
no_refusal false k p e = (refl, e)

-- ---- the text of records

-- a text depends only on the words that it reads
module _ (xs ys : List Word) (h : (k : ℕ) → get_or xs k (pos 0) ≡ get_or ys k (pos 0)) where
  same-words : (from n : ℕ) → words_text xs from n ≡ words_text ys from n
  unfolding words_text
  same-words from zero = refl
  same-words from (suc n) = rw (same-words from n, h (from + n))

  same_lines : (q n : ℕ) → lines_text q xs n ≡ lines_text q ys n
  unfolding lines_text line_text
  same_lines q zero = refl
  same_lines q (suc n) = rw (same_lines q n, h (record_at q n + 2), same-words (record_at q n))

  same_answer : (rows q most : ℕ) → answer_text xs rows q most ≡ answer_text ys rows q most
  unfolding answer_text
  same_answer rows q most = rw (same_lines q rows)

-- zeros after them read as the end does
read-zeros : (xs : List Word) (m k : ℕ) → get_or (xs ++ replicate m (pos 0)) k (pos 0) ≡ get_or xs k (pos 0)
read-zeros [] zero k = refl
read-zeros [] (suc m) zero = refl
read-zeros [] (suc m) (suc k) = read-zeros [] m k
read-zeros (x ∷ xs) m zero = refl
read-zeros (x ∷ xs) m (suc k) = read-zeros xs m k

-- ---- the answer to a batch, from what the run left
module _ {b : Batch} {old work new work' : List Word} {r : Reply} (ran : Ran b old work r new work') (fits : length old ≡ result_room) (fits' : length work ≡ work_room) where
  reply-is : r ≡ run_reply b (planned b.plan) result_room work_room
  reply-is = ran.reply ∙ rw (fits, fits')

  pub done-text : (most : ℕ) → r ≡ Ok most → (m : ℕ) → old ≡ replicate m (pos 0) → answer_text new b.rows b.quota most ≡ batch_answer b
  unfolding batch_answer ran_answer
  done-text most e m z =
      let records = records_in b (planned b.plan) in
      let is : new ≡ records ++ replicate (m - length records) (pos 0) = ran.result ∙ rw (e, z, drop-replicate) in
      rw (← reply-is, e, is) (same_answer _ _ (read-zeros records (m - length records)) b.rows b.quota most)

  pub refused-text : (w : Refusal) → r ≡ Err w → refusal_text (number_of w.reason) w.place ≡ batch_answer b
  unfolding batch_answer ran_answer
  refused-text w e = rw (← reply-is, e)

-- ---- the answer of a plan

module _ (plan s : List ℕ) where
  pub cut_text : no_batch (length s) ≡ true → refusal_text 13 0 ≡ input_answer plan s
  unfolding input_answer
  cut_text e = rw e

  pub whole-text : no_batch (length s) ≡ false → batch_answer (batch_in plan s) ≡ input_answer plan s
  unfolding input_answer
  whole-text e = rw e

-- ---- the answer of a file

-- what is written fits
fits_in : (what : Got (List ℕ)) (room n : ℕ) → reply_in room what ≡ Ok n → n ≤ room
unfolding reply_in
fits_in (got xs m) room n e =
    let p = no_refusal (ltb room (length xs)) NoRoom 0 e in
    let is : length xs ≡ n = cc in
    omega (arith, ltb-false room (length xs) p.0)
fits_in (refused k p) room n e = let z : ◌≡◌ {A = ℕ} 0 1 = cc in absurd (omega arith)

module _ (file : List ℕ) {old new : List ℕ} {r : Reply} (w : Wrote (to_compile file) old r new) where
  pub plan-fits : (n : ℕ) → r ≡ Ok n → n ≤ length old
  plan-fits n e = fits_in (to_compile file) (length old) n (sym w.reply ∙ e)

  module _ (fits : length old ≡ longest_plan) where
    file-reply : r ≡ reply_in longest_plan (to_compile file)
    file-reply = w.reply ∙ rw fits

    pub file-done : (n : ℕ) → r ≡ Ok n → (s : List ℕ) → input_answer (take n new) s ≡ answer_to file s
    unfolding answer_to file_answer
    file-done n e s = rw (← file-reply, e, done-bytes (to_compile file) old n new (rw e at w))

    pub file-refused : (f : Refusal) → r ≡ Err f → (s : List ℕ) → refusal_text (number_of f.reason) f.place ≡ answer_to file s
    unfolding answer_to file_answer
    file-refused f e s = rw (← file-reply, e)
