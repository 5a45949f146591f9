-- The two texts that document 01 shows, the first with K4's word, and a line that tells a fault's place. Assumes nothing.
use mathlib.Core.Path.{◌≡◌, refl}
use mathlib.Core.List.{[], ◌∷◌}
use lib.IntN.{pos, negsuc}
use Rattle.printing.specs.Text.{decimal_in, word_text, words_text, shown, line_text, lines_text, answer_text, refusal_text}

rows : answer_text
    (pos 0 ∷ pos 2 ∷ pos 1 ∷ pos 0 ∷ pos 2 ∷ pos 0 ∷ pos 0 ∷ pos 0 ∷ pos 1 ∷ pos 1 ∷ pos 2 ∷ pos 0 ∷ pos 0 ∷ pos 0 ∷ pos 0 ∷ pos 0 ∷ pos 1 ∷ pos 1 ∷ pos 2 ∷ pos 0 ∷ negsuc 4 ∷ pos 0 ∷ pos 0 ∷ pos 0 ∷ []) 3 4 2
    ≡ 48 ∷ 32 ∷ 48 ∷ 32 ∷ 50 ∷ 32 ∷ 49 ∷ 32 ∷ 48 ∷ 32 ∷ 50 ∷ 10 ∷ 49 ∷ 32 ∷ 49 ∷ 32 ∷ 49 ∷ 32 ∷ 50 ∷ 32 ∷ 48 ∷ 32 ∷ 48 ∷ 32 ∷ 48 ∷ 10 ∷ 50 ∷ 32 ∷ 49 ∷ 32 ∷ 49 ∷ 32 ∷ 50 ∷ 32 ∷ 48 ∷ 32 ∷ 45 ∷ 53 ∷ 32 ∷ 48 ∷ 10 ∷ 114 ∷ 111 ∷ 117 ∷ 110 ∷ 100 ∷ 115 ∷ 32 ∷ 50 ∷ 10 ∷ []
unfolding decimal_in word_text words_text shown line_text lines_text answer_text
rows = refl

-- a row that divided by 0 in its third round, at byte 17, after one label
fault : line_text 2 (pos 2 ∷ pos 3 ∷ pos 1 ∷ pos 17 ∷ pos 5 ∷ pos 0 ∷ []) 0 ≡ 48 ∷ 32 ∷ 50 ∷ 32 ∷ 51 ∷ 32 ∷ 49 ∷ 32 ∷ 49 ∷ 55 ∷ 32 ∷ 53 ∷ 10 ∷ []
unfolding decimal_in word_text words_text shown line_text
fault = refl

refusal : refusal_text 9 4 ≡ 114 ∷ 101 ∷ 102 ∷ 117 ∷ 115 ∷ 101 ∷ 100 ∷ 32 ∷ 57 ∷ 32 ∷ 52 ∷ 10 ∷ []
unfolding decimal_in refusal_text
refusal = refl
