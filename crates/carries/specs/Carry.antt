-- A row that is carried on in locals: as the code has it before, and after.
use Rattle.std.specs.Prelude.{ℕ, ◌+◌, ◌≡◌, true, List, length, take}
use Rattle.definitions.specs.Values.{Word, values_in}
use Rattle.definitions.specs.Rule.{Rule}
use Rattle.definitions.specs.Columns.{flow_of, LC}
use Rattle.definitions.specs.Plan.{carried}
use Rattle.definitions.specs.Direct.{State, goes_on}
use Rattle.columns.specs.Row.{SoundNow}
use Rattle.columns.specs.Alike.{Alike}
use Rattle.plans.specs.Accepted.{Accepted}
use Rattle.rounds.specs.Round.{Lies}
use Rattle.carries.specs.declared.Progress.{Progress}

-- an accepted plan, and an array that begins with the rule that it carries
pub record Running (plan rule : List ℕ) : Type 0 where
  pub accepted : Accepted plan
  pub bytes : Lies (carried plan) rule

-- an unfinished row, as its block and the words of its labels and its variables have it: of these the LC columns count
pub record InHand (r : Rule) (q block : ℕ) (labels vars : List Word) : Type 0 where
  pub state : State
  pub sound : SoundNow r q state
  pub going : goes_on state.finish ≡ true
  pub block' : block ≡ state.block
  pub labels' : values_in labels ≡ state.labels
  pub vars' : Alike r.variables (LC (flow_of r)) state.vars (values_in vars)

-- what the code has of it when it has gone on from s to s'
pub record ProgressTo (r : Rule) (s s' : State) (c : Progress) (labels vars : List Word) : Type 0 where
  pub finish : c.finish ≡ s'.finish
  pub begun : s.begun + c.rounds ≡ s'.begun
  pub count : c.count ≡ length s'.labels
  pub labels' : values_in (take c.count labels) ≡ s'.labels
  pub block : goes_on s'.finish ≡ true → c.block ≡ s'.block
  pub vars' : goes_on s'.finish ≡ true → Alike r.variables (LC (flow_of r)) s'.vars (values_in vars)
