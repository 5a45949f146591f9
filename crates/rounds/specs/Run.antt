-- What stands where a block runs, and the answers of its statements and its ending. Assumes nothing: these are definitions.
use Rattle.std.specs.Prelude.{ℕ, ◌+◌, ◌≤◌, ◌<◌, ◌≡◌, Bool, List, length, get_or, take, drop, Result, Ok, Err}
use Rattle.definitions.specs.Values.{Word, Val, values_in, Out, value, fault}
use Rattle.definitions.specs.Rule.{Stmt, End, Block}
use Rattle.definitions.specs.declared.Flaw.{Flaw}
use Rattle.definitions.specs.declared.Finish.{Finish}
use Rattle.definitions.specs.Grammar.{got, end_at, block_from, levels}
use Rattle.definitions.specs.Plan.{bit_of}
use Rattle.definitions.specs.Spelling.{body_size}
use Rattle.definitions.specs.Meaning.{Where, at_byte}
use Rattle.definitions.specs.Direct.{Way, on, ended, step, steps, Exit, to_block, to_round, to_stop, exit, Round, jumped, finished, leave}
use Rattle.readers.specs.Readings.{stmt_at}
use Rattle.columns.specs.OnPlan.{kept}
use Rattle.rounds.specs.declared.blocks.Entry.{Entry}
use Rattle.rounds.specs.declared.blocks.Leading.{Leading}
use Rattle.definitions.specs.declared.Finish.TheVariants.{Stopped}

-- ---- where a rule lies

-- s' begins with s
pub record Prefix (s s' : List ℕ) : Type 0 where
  pub longer : length s ≤ length s'
  pub same : (k : ℕ) → k < length s → get_or s' k 0 ≡ get_or s k 0

-- ---- endings

-- an ending of some block stands there
pub record EndHere (left v : ℕ) (s : List ℕ) (at : ℕ) : Type 0 where
  pub targets : ℕ
  pub ending : End
  pub next : ℕ
  pub reads : end_at left targets v s at ≡ got ending next

-- the answer of the code for each case
abbrev pub leading_of : Out Flaw Exit → Result Leading Flaw
leading_of (value (to_block t)) = Ok (Leading.Goto t)
leading_of (value (to_round t)) = Ok (Leading.Jump t)
leading_of (value to_stop) = Ok Leading.Stop
leading_of (fault k) = Err k

-- ---- statements

-- one statement stands there
pub record StmtHere (v : ℕ) (s : List ℕ) (at : ℕ) : Type 0 where
  pub what : Stmt
  pub next : ℕ
  pub reads : stmt_at v s at ≡ got what next

-- a block, or what is left of one, stands there
pub record BlockHere (v : ℕ) (s : List ℕ) (at : ℕ) : Type 0 where
  pub bound : ℕ
  pub targets : ℕ
  pub what : Block
  pub next : ℕ
  pub reads : block_from bound targets v s at ≡ got what next

-- the first n labels, of their words
abbrev pub labels_in : ℕ → List Word → List Val
labels_in n labels = values_in (take n labels)

-- the code's answer for statements: the place after them, or how the row has ended
abbrev pub Ran : Type 0
Ran = Result ℕ Finish

-- what it says, with the number of labels and the words of the variables and labels that it leaves
abbrev pub way_of : Ran → ℕ → List Word → List Word → Way
way_of (Ok p) k vars labels = on (values_in vars) (labels_in k labels)
way_of (Err how) k vars labels = ended how (labels_in k labels)

-- the statement x, which stands from at to next, was run: the way, the place after it, room for the labels, and the words after them as they were
pub record StmtRun (x : Stmt) (at next q count : ℕ) (vars labels : List Word) (r : Ran) (count' : ℕ) (vars' labels' : List Word) : Type 0 where
  pub way : way_of r count' vars' labels' ≡ step q x (at_byte at) (values_in vars) (labels_in count labels)
  pub place : (p : ℕ) → r ≡ Ok p → p ≡ next
  pub grows : count ≤ count'
  pub within : count' ≤ q
  pub rest : drop count' labels' ≡ drop count' labels

-- all statements of a block were run: likewise, and the place after them is the ending's
pub record BodyRun (v : ℕ) (s : List ℕ) (at : ℕ) (h : BlockHere v s at) (q count : ℕ) (vars labels : List Word) (r : Ran) (count' : ℕ) (vars' labels' : List Word) : Type 0 where
  pub way : way_of r count' vars' labels' ≡ steps q h.what.body (at_byte at) (values_in vars) (labels_in count labels)
  pub ending : (p : ℕ) → r ≡ Ok p → end_at levels h.targets v s p ≡ got h.what.ending h.next
  pub place : (p : ℕ) → r ≡ Ok p → p ≡ at + body_size h.what
  pub within : count' ≤ q
  pub rest : drop count' labels' ≡ drop count' labels

-- ---- a block

-- the code's answer for a block: where its ending leads, or how the row has ended
abbrev pub Passage : Type 0
Passage = Result Leading Finish

-- what it says, with the number of labels and the words of the variables and labels that it leaves: W goes on at another block
abbrev pub round_of : Passage → ℕ → List Word → List Word → (ℕ → List Val → List Val → Round) → Round
round_of (Ok (Leading.Goto t)) k vars labels W = W t (values_in vars) (labels_in k labels)
round_of (Ok (Leading.Jump t)) k vars labels W = jumped t (values_in vars) (labels_in k labels)
round_of (Ok Leading.Stop) k vars labels W = finished Stopped (labels_in k labels)
round_of (Err how) k vars labels W = finished how (labels_in k labels)

-- a block is left: its ending, which stands at p, sees all that the block has, and what it leads to gets the variables of a set
abbrev pub left_by : ℕ → (ℕ → Bool) → Way → End → Where → (ℕ → List Val → List Val → Round) → Round
left_by v out (on env ls) e p W = leave (exit e p env) (kept v out env) ls (λ t. W t (kept v out env) ls)
left_by v out (ended how ls) e p W = finished how ls

-- the block of an entry was run, entered with the variables of one mask and left with those of another
pub record BlockRun (v : ℕ) (s : List ℕ) (e : Entry) (h : BlockHere v s e.place) (q count : ℕ) (vars labels : List Word) (r : Passage) (count' : ℕ) (vars' labels' : List Word) : Type 0 where
  pub round : (W : ℕ → List Val → List Val → Round) → round_of r count' vars' labels' W ≡ left_by v (bit_of e.outputs) (steps q h.what.body (at_byte e.place) (kept v (bit_of e.inputs) (values_in vars)) (labels_in count labels)) h.what.ending (at_byte (e.place + body_size h.what)) W
  pub within : count' ≤ q
  pub rest : drop count' labels' ≡ drop count' labels
