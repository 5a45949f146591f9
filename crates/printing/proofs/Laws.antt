-- Laws of numbers as text, and of texts put one after the other. Assumes nothing.
use Rattle.std.proofs.Common.{ℕ, suc, ◌+◌, ◌-◌, ◌<◌, ◌^◌, ◌≡◌, refl, sym, ap, ◌∙◌, List, [], ◌∷◌, ◌++◌, take, drop, get_or, pos, negsuc, append_assoc, append-nil, arith}
use native.Mathlib.Numerals.{add-one}
use Rattle.std.proofs.lemmas.Bool.{lt-ltb, le-ltb}
use Rattle.std.proofs.lemmas.Fmt.{AppendsLastDigit, decimal_from_appends, length-decimal-le}
use Rattle.std.specs.Fmt as std
use Rattle.std.proofs.lemmas.List.{get_or-take, get_or-drop}
use mir.Syntax.{w32}
use mir.Val.{SFits, to_z, of_z}
use mir.Facts.{to_z-of_z}
use lib.Signed.{mag}
use lib.ListN.{length-append}
use Rattle.definitions.specs.Values.{Word}
use Rattle.definitions.specs.Batch.{record_size}
use Rattle.printing.specs.Text.{decimal_in, decimal, space, newline, word_text, words_text, shown, record_at, line_text, lines_text, answer_text, refusal_text}
use Rattle.printing.specs.Writing.{Appends}
use Rattle.printing.specs.declared.Writer.{Writer}

-- ---- numbers

by-last_digit : AppendsLastDigit decimal_in
unfolding decimal_in
by-last_digit = record { one = λ k n h. rw (lt-ltb n 10 h) refl; more = λ k n h. rw (le-ltb n 10 h) refl }

decimal-is : (n : ℕ) → n < 2 ^ 64 → std.decimal n ≡ decimal n
decimal-is n h = sym (decimal_from_appends decimal_in by-last_digit 20 n h (length-decimal-le 20 n (omega arith) (omega arith) h))

word-is : (x : Word) → mag x < 2 ^ 63 → std.signed_decimal x ≡ word_text x
unfolding word_text
word-is (pos n) h = decimal-is n (omega arith)
word-is (negsuc n) h = ap (λ l. 45 ∷ l) (decimal-is (suc n) (omega arith))

-- as the code has a word
pub word-text : {x : Word} → SFits w32 x → std.signed_decimal (to_z w32 (of_z w32 x)) ≡ word_text x
word-text {x} f = rw (to_z-of_z f) (word-is x (omega (arith, f.sfits)))

-- ---- texts put one after the other

pub appends_none : (w : Writer) → Appends w [] w
appends_none w = record { same = refl; room = refl; len' = omega arith; text = sym (append-nil _) }

pub appends_then : {a b c : Writer} {s t : List ℕ} → Appends a s b → Appends b t c → Appends a (s ++ t) c
appends_then {a} {b} {c} {s} {t} p q =
    record {
      same = q.same ∙ p.same;
      room = q.room ∙ p.room;
      len' = omega (arith, p.len', q.len', length-append s t);
      text = q.text ∙ ap (λ l. l ++ t) p.text ∙ append_assoc (take a.len a.out.now) s t;
    }

-- what was put there, by another name
pub appends_as : {w new : Writer} {s t : List ℕ} → Appends w s new → s ≡ t → Appends w t new
appends_as p e = rw e at p

-- ---- texts that grow at the end

-- one more, of the n words from `from` on
pub words_more : (ws : List Word) (from n i : ℕ) {t : List ℕ} → i < n → t ≡ word_text (get_or (take (from + n - from) (drop from ws)) i (pos 0)) → words_text ws from i ++ (space ++ t) ≡ words_text ws from (i + 1)
unfolding words_text
words_more ws from n i h e =
    rw (add-one, e, get_or-take (from + n - from) (drop from ws) i (pos 0) (omega arith), get_or-drop from ws i (pos 0)) refl

pub lines_more : (q : ℕ) (result : List Word) (n : ℕ) → lines_text q result n ++ line_text q result n ≡ lines_text q result (n + 1)
unfolding lines_text
lines_more q result n = rw add-one refl

-- a line, from what is put: x is the record's count as the code reads it, and n the labels that it shows
pub line-is : (q : ℕ) (result : List Word) (row : ℕ) {from : ℕ} {x : Word} {n words : ℕ} → row < 2 ^ 64 → from ≡ record_at q row → n ≡ shown q x → x ≡ get_or result (from + 2) (pos 0) → words ≡ record_size n
    → (std.decimal row ++ words_text result from words) ++ newline ≡ line_text q result row
unfolding line_text
line-is q result row lt ef h e ew = rw (decimal-is row lt, ew, h, e, ef) (append_assoc (decimal row) (words_text result (record_at q row) _) newline)

-- ---- the whole texts, from what is put

pub answer-is : (result : List Word) (rows q most : ℕ) → most < 2 ^ 64 → lines_text q result rows ++ ((114 ∷ 111 ∷ 117 ∷ 110 ∷ 100 ∷ 115 ∷ space) ++ (std.decimal most ++ newline)) ≡ answer_text result rows q most
unfolding answer_text
answer-is result rows q most h = rw (decimal-is most h) refl

pub refusal-is : (number place : ℕ) → number < 2 ^ 64 → place < 2 ^ 64 → (114 ∷ 101 ∷ 102 ∷ 117 ∷ 115 ∷ 101 ∷ 100 ∷ space) ++ (std.decimal number ++ (space ++ (std.decimal place ++ newline))) ≡ refusal_text number place
unfolding refusal_text
refusal-is number place h k = rw (decimal-is number h, decimal-is place k) refl
