-- A row as its record and its line hold it, carried on by rounds on the plan's columns. That this is the direct run, seen through the LC columns, is the
-- theorem `seen-after` of proofs/Rows.antt.
use Rattle.std.specs.Prelude.{ℕ, zero, suc, ◌+◌, ◌≤◌, ◌<◌, ◌≡◌, true, cond, List, length}
use Rattle.definitions.specs.Values.{Val}
use Rattle.definitions.specs.Rule.{Rule, size}
use Rattle.definitions.specs.Direct.{State, status_number, goes_on, Round, jumped, finished}
use Rattle.definitions.specs.declared.Finish.{Finish}
use Rattle.definitions.specs.Columns.{flow_of, J, LC}
use Rattle.definitions.specs.Batch.{columns_of}
use Rattle.columns.specs.OnPlan.{line_round}
use Rattle.definitions.specs.declared.Finish.TheVariants.{Unfinished}

pub record Row : Type 0 where
  pub finish : Finish
  pub begun : ℕ  -- rounds
  pub labels : List Val
  pub block : ℕ  -- where the next round starts
  pub cols : List Val

-- of the direct run's variables a line holds the LC columns
abbrev pub seen : Rule → State → Row
seen r s = record { finish = s.finish; begun = s.begun; labels = s.labels; block = s.block; cols = columns_of r.variables (LC (flow_of r)) s.vars }

-- the row after the round that it asked for, as `joined` of the direct run
abbrev pub joined_on : Row → Round → Row
joined_on s (jumped b cols ls) = record { finish = Unfinished; begun = s.begun + 1; labels = ls; block = b; cols = cols }
joined_on s (finished how ls) = record { finish = how; begun = s.begun + 1; labels = ls; block = s.block; cols = s.cols }

unfoldable pub advance_on : Rule → ℕ → Row → Row
advance_on r q s = cond (goes_on s.finish) (joined_on s (line_round r q s.block s.cols s.labels)) s

unfoldable pub after_on : Rule → ℕ → ℕ → Row → Row
after_on r q zero s = s
after_on r q (suc n) s = advance_on r q (after_on r q n s)

-- what holds of a row's state in the direct run after n rounds
pub record Sound (r : Rule) (q n : ℕ) (s : State) : Type 0 where
  pub status-low : status_number s.finish ≤ 4
  pub unended : goes_on s.finish ≡ true → s.finish ≡ Unfinished
  pub began : s.begun ≤ n
  pub going : goes_on s.finish ≡ true → s.begun ≡ n
  pub labels-few : length s.labels ≤ q
  pub block-below : s.block < size r
  pub block_in-J : J (flow_of r) s.block ≡ true
  pub vars-all : length s.vars ≡ r.variables

-- and of a state by the rounds that it has begun itself
abbrev pub SoundNow : Rule → ℕ → State → Type 0
SoundNow r q s = Sound r q s.begun s
