-- 01, Reply numbers, and What the contracts have to say: the calls' contracts. Each gives the reply and every buffer in full, on every input.
use Rattle.std.specs.Prelude.{ℕ, ◌+◌, ◌*◌, ◌≡◌, Bool, true, cond, not, ◌||◌, List, [], ◌∷◌, ◌++◌, eqb, ltb, length, drop}
use Rattle.definitions.specs.Values.{Word}
use Rattle.definitions.specs.Rule.{Rule}
use Rattle.definitions.specs.Grammar.{Got, got, refused, then, rule_of, longest}
use Rattle.definitions.specs.Direct.{State}
use Rattle.definitions.specs.Columns.{flow_of, LC}
use Rattle.definitions.specs.Plan.{plan_of, planned}
use Rattle.definitions.specs.Pages.{file_of, unpacked}
use Rattle.definitions.specs.Batch.{Budgets, common, each, states_of, record_size, records_of, count_to, line_size, table_of, most_of}
use Rattle.definitions.specs.Finder.{most_rows, most_quota}
use Rattle.definitions.specs.Refusals.{Reply, refusal}
use Rattle.std.specs.Prelude.{Ok, Err}
use Rattle.definitions.specs.declared.Reason.TheVariants.{TooLong, NoRoom, Misfit, OverLimit, NotPlan}

-- a buffer after a reply: a refusal changes nothing, and what lies beyond the written part stays
abbrev pub left : {A : Type 0} → Reply → List A → List A → List A
left (Ok n) new old = new ++ drop (length new) old
left (Err f) new old = old

-- ---- read, write and compile: bytes into one buffer

-- reading: the file's pages, then the rule in them
unfoldable pub to_read : List ℕ → Got (List ℕ)
to_read file = then (unpacked file) (λ s _. then (rule_of s) (λ r n. got s n))

-- writing: 11 comes first, then the rule
unfoldable pub to_write : List ℕ → Got (List ℕ)
to_write s = cond (ltb longest (length s)) (refused TooLong 0) (then (rule_of s) (λ r n. got (file_of s) n))

-- compiling: as reading, but the rule's plan is written
unfoldable pub to_compile : List ℕ → Got (List ℕ)
to_compile file = then (unpacked file) (λ s _. then (rule_of s) (λ r n. got (plan_of r s) n))

-- the reply with so much room: 12 comes last, and the size written is the answer
unfoldable pub reply_in : ℕ → Got (List ℕ) → Reply
reply_in room (got xs n) = cond (ltb room (length xs)) (refusal NoRoom 0) (Ok (length xs))
reply_in room (refused k p) = refusal k p

unfoldable pub bytes_in : Got (List ℕ) → List ℕ
bytes_in (got xs n) = xs
bytes_in (refused k p) = []

-- the contract of all three: `what` is the call's own, `old` and `new` are the buffer before and after
pub record Wrote (what : Got (List ℕ)) (old : List ℕ) (r : Reply) (new : List ℕ) : Type 0 where
  pub reply : r ≡ reply_in (length old) what
  pub buffer : new ≡ left r (bytes_in what) old

-- ---- run: records into one buffer, the LOOP table into another

-- what a call is given besides its buffers
pub record Batch : Type 0 where
  pub plan : List ℕ
  pub rows : ℕ
  pub values : List Word
  pub budgets : Budgets
  pub quota : ℕ

abbrev pub most_budget : ℕ
most_budget = 65535

-- 02, K10: the budgets that a call brings, in the order of the rows that they are for
abbrev pub brought : Budgets → List ℕ
brought (common N) = N ∷ []
brought (each Ns) = Ns

-- whether they are as many as the rows; one for all always is
abbrev pub as_many : ℕ → Budgets → Bool
as_many rows (common N) = true
as_many rows (each Ns) = eqb (length Ns) rows

-- the place of the first budget over the limit, or how many there are
unfoldable pub first_over : List ℕ → ℕ
first_over [] = 0
first_over (N ∷ Ns) = cond (ltb most_budget N) 0 (1 + first_over Ns)

abbrev pub some_over : List ℕ → Bool
some_over Ns = ltb (first_over Ns) (length Ns)

-- the rows that the direct run of the plan's rule leaves
abbrev pub rows_of : Batch → Rule → List State
rows_of b r = states_of r b.values b.rows b.budgets b.quota

-- the columns of a line
abbrev pub columns : Rule → ℕ
columns r = count_to r.variables (LC (flow_of r))

-- 13, 14 for the quota, 14 for the lowest row with too high a budget, then 12 for the output and 12 for the working buffer; the answer is the most rounds
-- that any row began
unfoldable pub ran_reply : Batch → Rule → ℕ → ℕ → Reply
ran_reply b r out_room work_room =
    cond (ltb most_rows b.rows || (not (eqb (length b.values) (b.rows * r.arguments)) || not (as_many b.rows b.budgets))) (refusal Misfit 0)
    (cond (ltb most_quota b.quota) (refusal OverLimit 0)
    (cond (some_over (brought b.budgets)) (refusal OverLimit (first_over (brought b.budgets)))
    (cond (ltb out_room (b.rows * record_size b.quota)) (refusal NoRoom 0)
    (cond (ltb work_room (b.rows * line_size (columns r))) (refusal NoRoom 1)
    (Ok (most_of (rows_of b r)))))))

-- 15 comes first
unfoldable pub run_reply : Batch → Got Rule → ℕ → ℕ → Reply
run_reply b (got r n) out_room work_room = ran_reply b r out_room work_room
run_reply b (refused k p) out_room work_room = refusal NotPlan 0

-- all records, and the LOOP table
unfoldable pub records_in : Batch → Got Rule → List Word
records_in b (got r n) = records_of b.quota (rows_of b r)
records_in b (refused k p) = []

unfoldable pub table_in : Batch → Got Rule → List Word
table_in b (got r n) = table_of r.variables (LC (flow_of r)) (rows_of b r)
table_in b (refused k p) = []

pub record Ran (b : Batch) (out work : List Word) (r : Reply) (out' work' : List Word) : Type 0 where
  pub reply : r ≡ run_reply b (planned b.plan) (length out) (length work)
  pub result : out' ≡ left r (records_in b (planned b.plan)) out
  pub working : work' ≡ left r (table_in b (planned b.plan)) work

-- ---- columns: how many columns a line has, for a caller who is to make room for lines
unfoldable pub columns_reply : Got Rule → Reply
columns_reply (got r n) = Ok (columns r)
columns_reply (refused k p) = refusal NotPlan 0

-- ---- find: its contract is the definition `found_in` of Finder.antt
