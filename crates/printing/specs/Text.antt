-- 01, the program, and K4 of 02: the text that it prints of a batch's result, and of a refusal.
use Rattle.std.specs.Prelude.{ℕ, zero, suc, ◌+◌, ◌*◌, ◌/◌, ◌%◌, min, cond, List, [], ◌∷◌, ◌++◌, ltb, pos, negsuc, get_or}
use Rattle.definitions.specs.Values.{Word}
use Rattle.definitions.specs.Batch.{record_size}
use Rattle.definitions.specs.Finder.{most_quota}

-- ---- numbers

-- the ASCII code of a digit
abbrev pub digit : ℕ → ℕ
digit d = 48 + d

-- the decimal digits of n, of which the first number bounds how many there are
unfoldable pub decimal_in : ℕ → ℕ → List ℕ
decimal_in zero n = []
decimal_in (suc f) n = cond (ltb n 10) (digit n ∷ []) (decimal_in f (n / 10) ++ (digit (n % 10) ∷ []))

-- no number of 64 bits has more than 20
abbrev pub decimal : ℕ → List ℕ
decimal n = decimal_in 20 n

-- a word, with a minus sign where it is negative
unfoldable pub word_text : Word → List ℕ
word_text (pos n) = decimal n
word_text (negsuc n) = 45 ∷ decimal (suc n)

-- ---- a batch's result

abbrev pub space : List ℕ
space = 32 ∷ []

abbrev pub newline : List ℕ
newline = 10 ∷ []

-- n words of ws, from word `from` on, each after a space
unfoldable pub words_text : List Word → ℕ → ℕ → List ℕ
words_text ws from zero = []
words_text ws from (suc n) = words_text ws from n ++ (space ++ word_text (get_or ws (from + n) (pos 0)))

-- how many labels a record's line shows: its count. A count that no run leaves is held to 0 and the quota
unfoldable pub shown : ℕ → Word → ℕ
shown q (pos n) = min n q
shown q (negsuc n) = 0

-- where a row's record begins
abbrev pub record_at : ℕ → ℕ → ℕ
record_at q row = row * record_size q

-- a row's line: its number; status, rounds, count and the fault's place; the labels
unfoldable pub line_text : ℕ → List Word → ℕ → List ℕ
line_text q result row =
    decimal row ++ (words_text result (record_at q row) (record_size (shown q (get_or result (record_at q row + 2) (pos 0)))) ++ newline)

-- the most bytes that it takes: 3 digits, a record's words of 12 bytes each, with their spaces, and the newline
abbrev pub line_room : ℕ
line_room = 3 + 12 * record_size most_quota + 1

-- the lines of the first rows
unfoldable pub lines_text : ℕ → List Word → ℕ → List ℕ
lines_text q result zero = []
lines_text q result (suc n) = lines_text q result n ++ line_text q result n

-- all of it: `rounds ` and the most rounds come last
unfoldable pub answer_text : List Word → ℕ → ℕ → ℕ → List ℕ
answer_text result rows q most =
    lines_text q result rows ++ (((114 ∷ 111 ∷ 117 ∷ 110 ∷ 100 ∷ 115 ∷ space) ++ decimal most) ++ newline)

-- room for all that is printed: the lines of the most rows and the last line fit
abbrev pub text_room : ℕ
text_room = 65536

-- ---- a refusal: `refused `, its number and its place
unfoldable pub refusal_text : ℕ → ℕ → List ℕ
refusal_text number place =
    ((114 ∷ 101 ∷ 102 ∷ 117 ∷ 115 ∷ 101 ∷ 100 ∷ space) ++ decimal number) ++ ((space ++ decimal place) ++ newline)
