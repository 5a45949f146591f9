-- 01, A batch, with K4 and K10 of 02: the rows' states, a row's record, the LOOP table, the most rounds.
use Rattle.std.specs.Prelude.{ℕ, zero, suc, ◌+◌, ◌-◌, ◌*◌, max, Bool, cond, List, [], ◌∷◌, ◌++◌, pos, length, take, drop, get_or, replicate}
use Rattle.definitions.specs.Values.{Word, Val, values_in, words_of, unset}
use Rattle.definitions.specs.Rule.{Rule}
use Rattle.definitions.specs.Direct.{State, told_of, goes_on, start, after}
use Rattle.definitions.specs.declared.Finish.{Finish}
use Rattle.definitions.specs.declared.Told.{Told}

-- ---- the rows

-- row n at its start: its arguments lie row after row among the values
abbrev pub start_at : Rule → List Word → ℕ → State
start_at r values n = start r (values_in (take r.arguments (drop (n * r.arguments) values)))

unfoldable pub starts_of : Rule → List Word → ℕ → List State
starts_of r values zero = []
starts_of r values (suc n) = starts_of r values n ++ (start_at r values n ∷ [])

-- the rows, numbered from k on, each gone on by the step of its number
unfoldable pub map_from : (ℕ → State → State) → ℕ → List State → List State
map_from g k [] = []
map_from g k (s ∷ ss) = g k s ∷ map_from g (k + 1) ss

-- 02, K10: how many rounds the rows may begin: one number for all, or one for each
pub data Budgets : Type 0 where
  common : ℕ → Budgets
  each : List ℕ → Budgets

-- how many row n may begin
abbrev pub budget_of : Budgets → ℕ → ℕ
budget_of (common N) n = N
budget_of (each Ns) n = get_or Ns n 0

-- all rows, each after as many of the direct run's rounds as its own budget says
abbrev pub states_of : Rule → List Word → ℕ → Budgets → ℕ → List State
states_of r values rows bs q = map_from (λ n. after r q (budget_of bs n)) 0 (starts_of r values rows)

-- ---- the result buffer

abbrev pub record_size : ℕ → ℕ
record_size q = 4 + q

-- the status, the rounds begun, how many labels, where the fault lies (02, K4), so many labels, and zeros up to the quota
abbrev pub told_words : ℕ → Told → ℕ → ℕ → List Word → List Word
told_words q told begun count labels = pos told.status ∷ pos begun ∷ pos count ∷ pos told.place ∷ (labels ++ replicate (q - count) (pos 0))

abbrev pub record_words : ℕ → Finish → ℕ → ℕ → List Word → List Word
record_words q how begun count labels = told_words q (told_of how) begun count labels

abbrev pub record_of : ℕ → State → List Word
record_of q s = record_words q s.finish s.begun (length s.labels) (words_of s.labels)

unfoldable pub records_of : ℕ → List State → List Word
records_of q [] = []
records_of q (s ∷ ss) = record_of q s ++ records_of q ss

-- ---- the working buffer

-- how many numbers below v the set holds
unfoldable pub count_to : ℕ → (ℕ → Bool) → ℕ
count_to zero f = 0
count_to (suc v) f = count_to v f + cond (f v) 1 0

-- the values of the variables below v that the set holds, in rising order
unfoldable pub columns_of : ℕ → (ℕ → Bool) → List Val → List Val
columns_of zero f vars = []
columns_of (suc v) f vars = columns_of v f vars ++ cond (f v) (get_or vars v unset ∷ []) []

-- a line's size, with so many columns
abbrev pub line_size : ℕ → ℕ
line_size columns = 3 + columns

-- which row it is, where its next round begins, the rounds begun (02, K10), and what it knows
abbrev pub line_words : ℕ → ℕ → ℕ → List Val → List Word
line_words row block begun known = pos row ∷ pos block ∷ pos begun ∷ words_of known

abbrev pub line_of : ℕ → (ℕ → Bool) → ℕ → State → List Word
line_of v lc row s = line_words row s.block s.begun (columns_of v lc s.vars)

-- the lines of the unfinished rows, in row order; the rows are numbered from k on
unfoldable pub lines_from : ℕ → (ℕ → Bool) → ℕ → List State → List Word
lines_from v lc k [] = []
lines_from v lc k (s ∷ ss) = cond (goes_on s.finish) (line_of v lc k s) [] ++ lines_from v lc (k + 1) ss

unfoldable pub live_of : List State → ℕ
live_of [] = 0
live_of (s ∷ ss) = cond (goes_on s.finish) 1 0 + live_of ss

-- the LOOP table: those lines, and zeros to the size that all rows would take
abbrev pub table_of : ℕ → (ℕ → Bool) → List State → List Word
table_of v lc ss = lines_from v lc 0 ss ++ replicate ((length ss - live_of ss) * line_size (count_to v lc)) (pos 0)

-- ---- the most rounds that any row began, 0 for no rows
unfoldable pub most_of : List State → ℕ
most_of [] = 0
most_of (s ∷ ss) = max s.begun (most_of ss)
