-- A row that stands in the two buffers, and what is read of it.
use Rattle.std.specs.Prelude.{ℕ, ◌*◌, ◌<◌, ◌≡◌, true, List, length, take, drop}
use Rattle.definitions.specs.Values.{Word, values_in}
use Rattle.definitions.specs.Rule.{Rule}
use Rattle.definitions.specs.Columns.{flow_of, LC}
use Rattle.definitions.specs.Direct.{State, goes_on}
use Rattle.definitions.specs.Batch.{record_size, record_of}
use Rattle.definitions.specs.Finder.{most_rows, most_quota}
use Rattle.columns.specs.Row.{SoundNow}
use Rattle.columns.specs.Alike.{Alike}
use Rattle.layouts.specs.Layout.{width, line_in, Known}
use Rattle.layouts.specs.declared.Layout.{Layout}
use Rattle.layouts.specs.declared.Row.{Row}

-- an unfinished row that stands in the two buffers: its line at `from`, and its record
pub record RowAt (r : Rule) (q from : ℕ) (out work : List Word) : Type 0 where
  pub row : ℕ
  pub state : State
  pub few : row < most_rows
  pub sound : SoundNow r q state
  pub going : goes_on state.finish ≡ true
  pub line : take (width r) (drop from work) ≡ line_in r row state
  pub record' : take (record_size q) (drop (row * record_size q) out) ≡ record_of q state

-- a row of some rule
pub record SomeRowAt (l : Layout) (from : ℕ) (out work : List Word) : Type 0 where
  pub rule : Rule
  pub known : Known rule l
  pub at : RowAt rule l.quota from out work

-- what the two buffers say of it
pub record RowRead (l : Layout) (from : ℕ) (out work : List Word) (p : SomeRowAt l from out work) (k : Row) : Type 0 where
  pub row : k.row ≡ p.at.row
  pub begun : k.begun ≡ p.at.state.begun
  pub count : k.count ≡ length p.at.state.labels
  pub block : k.block ≡ p.at.state.block
  pub labels' : values_in (take k.count k.labels) ≡ p.at.state.labels
  pub room : length k.labels ≡ most_quota
  pub vars' : Alike p.rule.variables (LC (flow_of p.rule)) p.at.state.vars (values_in k.vars)
