-- What is read of a file and of an input is enough: where there is more, its length alone refuses it.
use Rattle.std.proofs.Common.{ℕ, ◌+◌, ◌*◌, ◌<◌, ◌≤◌, ◌≡◌, refl, ap, subst, ◌∙◌, Bool, true, false, List, ltb, length, take, arith, Option, Some, None, IfSome, Result, Ok, Err, OnOk}
use Rattle.std.proofs.lemmas.Bool.{ltb-true, ltb-false}
use Rattle.std.proofs.lemmas.Bool.Decides.{nat_tests}
use Rattle.std.proofs.lemmas.List.{length-take-le, take_all}
use Rattle.definitions.specs.Pages.{size_ok, most_pages, page_size, unpacked}
use Rattle.definitions.specs.Plan.{longest_plan}
use Rattle.definitions.specs.Calls.{to_compile, reply_in, bytes_in}
use Rattle.definitions.specs.Refusals.{Reply}
use Rattle.answers.specs.Answer.{no_batch, most_input, input_answer, file_answer, answer_to}

-- ---- the input

no_batch_past : (size : ℕ) → most_input < size → no_batch size ≡ true
no_batch_past size h = grind (arith, nat_tests)

input-cut_in : (plan s : List ℕ) (is_long : Bool) → ltb most_input (length s) ≡ is_long → input_answer plan (take (most_input + 1) s) ≡ input_answer plan s
unfolding input_answer
input-cut_in plan s true e =
    let h : most_input < length s = ltb-true most_input (length s) e in
    let k : length (take (most_input + 1) s) ≡ most_input + 1 = length-take-le (most_input + 1) s (omega arith) in
    let a : no_batch (length s) ≡ true = no_batch_past (length s) h in
    let b : no_batch (length (take (most_input + 1) s)) ≡ true = no_batch_past (length (take (most_input + 1) s)) (omega arith) in
    rw (a, b) refl
input-cut_in plan s false e =
    let h : length s ≤ most_input = ltb-false most_input (length s) e in
    rw (take_all (most_input + 1) s (omega arith)) refl

pub input-cut : (plan s : List ℕ) → input_answer plan (take (most_input + 1) s) ≡ input_answer plan s
input-cut plan s = input-cut_in plan s (ltb most_input (length s)) refl

-- ---- the file

size_ok_past : (size : ℕ) → most_pages * page_size < size → size_ok size ≡ false
size_ok_past size h = grind (arith, nat_tests)

file-cut_in : (file : List ℕ) (is_long : Bool) → ltb (most_pages * page_size) (length file) ≡ is_long → to_compile (take (most_pages * page_size + 1) file) ≡ to_compile file
unfolding to_compile unpacked
file-cut_in file true e =
    let h : most_pages * page_size < length file = ltb-true (most_pages * page_size) (length file) e in
    let k : length (take (most_pages * page_size + 1) file) ≡ most_pages * page_size + 1 = length-take-le (most_pages * page_size + 1) file (omega arith) in
    let a : size_ok (length file) ≡ false = size_ok_past (length file) h in
    let b : size_ok (length (take (most_pages * page_size + 1) file)) ≡ false = size_ok_past (length (take (most_pages * page_size + 1) file)) (omega arith) in
    rw (a, b) refl
file-cut_in file false e =
    let h : length file ≤ most_pages * page_size = ltb-false (most_pages * page_size) (length file) e in
    rw (take_all (most_pages * page_size + 1) file (omega arith)) refl

pub file-cut : (file : List ℕ) → to_compile (take (most_pages * page_size + 1) file) ≡ to_compile file
file-cut file = file-cut_in file (ltb (most_pages * page_size) (length file)) refl

-- ---- both

reply-cut : (r : Reply) (plan s : List ℕ) → file_answer r plan (take (most_input + 1) s) ≡ file_answer r plan s
unfolding file_answer
reply-cut (Ok n) plan s = input-cut plan s
reply-cut (Err f) plan s = refl

pub answer-cut : (file s : List ℕ) → answer_to (take (most_pages * page_size + 1) file) (take (most_input + 1) s) ≡ answer_to file s
unfolding answer_to
answer-cut file s = rw (file-cut file) (reply-cut (reply_in longest_plan (to_compile file)) (bytes_in (to_compile file)) s)

-- what holds of the text of the parts that are read holds of the answer to all
pub enough : (a b : Option (List ℕ)) (pages batch text : List ℕ) (P : List ℕ → Type 0) → IfSome a (λ f. pages ≡ take (most_pages * page_size + 1) f) → IfSome b (λ s. batch ≡ take (most_input + 1) s)
    → text ≡ answer_to pages batch → P text → IfSome a (λ f. IfSome b (λ s. P (answer_to f s)))
enough None b pages batch text P h k e p = tt
enough (Some f) None pages batch text P h k e p = tt
enough (Some f) (Some s) pages batch text P h k e p = subst P (e ∙ ap (λ x. answer_to x batch) h ∙ ap (λ x. answer_to (take (most_pages * page_size + 1) f) x) k ∙ answer-cut f s) p

pub on_ok : {A E : Type 0} (r : Result A E) {P Q : Type 0} → (P → Q) → OnOk r P → OnOk r Q
on_ok (Ok x) f p = f p
on_ok (Err e) f p = tt
