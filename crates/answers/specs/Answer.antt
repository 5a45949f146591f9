-- 01, the program: what it prints, of the file's bytes and the input's bytes.
use Rattle.std.specs.Prelude.{ℕ, zero, suc, ◌+◌, ◌-◌, ◌*◌, ◌/◌, ◌%◌, Bool, cond, not, ◌||◌, List, [], ◌∷◌, ◌++◌, eqb, ltb, length, take, get_or, Ok, Err}
use Rattle.definitions.specs.Values.{Word}
use Rattle.definitions.specs.Grammar.{word_of, constant_in, most_variables}
use Rattle.definitions.specs.Plan.{planned, longest_plan}
use Rattle.definitions.specs.Batch.{common, record_size, line_size}
use Rattle.definitions.specs.Finder.{most_rows, most_quota, most_columns}
use Rattle.definitions.specs.Calls.{Batch, to_compile, reply_in, bytes_in, run_reply, records_in}
use Rattle.definitions.specs.Refusals.{Reply, number_of}
use Rattle.printing.specs.Text.{answer_text, refusal_text}

-- ---- the input: rows, budget and quota, then the values

-- the number in the four bytes at a place
abbrev pub number_in : List ℕ → ℕ → ℕ
number_in s at = word_of (get_or s at 0) (get_or s (at + 1) 0) (get_or s (at + 2) 0) (get_or s (at + 3) 0)

-- the first n values' words, which start after the three numbers
unfoldable pub words_in : List ℕ → ℕ → List Word
words_in s zero = []
words_in s (suc n) = words_in s n ++ (constant_in s (12 + 4 * n) ∷ [])

-- the most bytes of an input: the three numbers, and all values of the most rows
abbrev pub most_input : ℕ
most_input = 12 + 4 * (most_rows * most_variables)

-- a length that holds no batch: too short for the numbers, longer than any input, or with a value cut short
abbrev pub no_batch : ℕ → Bool
no_batch size = ltb size 12 || (ltb most_input size || not (eqb (size % 4) 0))

abbrev pub batch_in : List ℕ → List ℕ → Batch
batch_in plan s =
    record { plan = plan; rows = number_in s 0; values = words_in s ((length s - 12) / 4); budgets = common (number_in s 4); quota = number_in s 8 }

-- ---- the text

-- room for the records and the lines of every batch
abbrev pub result_room : ℕ
result_room = most_rows * record_size most_quota

abbrev pub work_room : ℕ
work_room = most_rows * line_size most_columns

-- what a buffer holds of an answer, or the refusal in its place
abbrev pub text_of : Reply → List ℕ → List ℕ
text_of (Ok n) out = take n out
text_of (Err f) out = refusal_text (number_of f.reason) f.place

-- of a batch: its records, or why it is refused
unfoldable pub ran_answer : Batch → Reply → List Word → List ℕ
ran_answer b (Ok most) records = answer_text records b.rows b.quota most
ran_answer b (Err f) records = refusal_text (number_of f.reason) f.place

unfoldable pub batch_answer : Batch → List ℕ
batch_answer b = ran_answer b (run_reply b (planned b.plan) result_room work_room) (records_in b (planned b.plan))

-- of a plan and an input; 13 where the input holds no batch
unfoldable pub input_answer : List ℕ → List ℕ → List ℕ
input_answer plan s = cond (no_batch (length s)) (refusal_text 13 0) (batch_answer (batch_in plan s))

-- of a file and an input: the file's refusals come first
unfoldable pub file_answer : Reply → List ℕ → List ℕ → List ℕ
file_answer (Ok n) plan s = input_answer plan s
file_answer (Err f) plan s = refusal_text (number_of f.reason) f.place

unfoldable pub answer_to : List ℕ → List ℕ → List ℕ
answer_to file s = file_answer (reply_in longest_plan (to_compile file)) (bytes_in (to_compile file)) s
