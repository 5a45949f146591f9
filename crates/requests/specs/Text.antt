-- What is printed of an answer: a reply, bytes in hexadecimal and words in decimal.
use Rattle.std.specs.Prelude.{ℕ, ◌/◌, ◌%◌, List, [], ◌∷◌, ◌++◌}
use Rattle.std.specs.List.{flat_map}
use Rattle.std.specs.Fmt.{decimal, signed_decimal}
use Rattle.io.specs.Digits.{hex_digit_ascii}
use Rattle.definitions.specs.Values.{Word}
use Rattle.definitions.specs.Refusals.{Reply}
use Rattle.std.specs.Prelude.{Ok, Err}
use Rattle.definitions.specs.Refusals.{number_of}

abbrev pub space : List ℕ
space = 32 ∷ []

abbrev pub dash : List ℕ
dash = 45 ∷ []

-- `ok ` and the size written or the most rounds, or `refused `, the number and the place
abbrev pub reply_text : Reply → List ℕ
reply_text (Ok n) = (111 ∷ 107 ∷ space) ++ decimal n
reply_text (Err f) = (114 ∷ 101 ∷ 102 ∷ 117 ∷ 115 ∷ 101 ∷ 100 ∷ space) ++ (decimal (number_of f.reason) ++ (space ++ decimal f.place))

-- a byte's two digits, the higher first
abbrev pub byte_digits : ℕ → List ℕ
byte_digits x = hex_digit_ascii (x / 16) ∷ hex_digit_ascii (x % 16) ∷ []

abbrev pub hex_digits : List ℕ → List ℕ
hex_digits xs = flat_map byte_digits xs

-- all bytes, or a dash
abbrev pub hex_text : List ℕ → List ℕ
hex_text [] = dash
hex_text (x ∷ xs) = hex_digits (x ∷ xs)

-- words that follow another: each after a space
abbrev pub more_words : List Word → List ℕ
more_words xs = flat_map (λ x. space ++ signed_decimal x) xs

-- all words with single spaces between them, or a dash
abbrev pub words_text : List Word → List ℕ
words_text [] = dash
words_text (x ∷ xs) = signed_decimal x ++ more_words xs
