-- A round on the plan, as the code has it.
use Rattle.std.specs.Prelude.{ℕ, ◌≤◌, ◌<◌, ◌≡◌, true, cond, List, length}
use Rattle.definitions.specs.Values.{Word, Val, values_in}
use Rattle.definitions.specs.Rule.{size}
use Rattle.definitions.specs.Grammar.{longest}
use Rattle.definitions.specs.Columns.{flow_of, inputs_of, outputs_of}
use Rattle.definitions.specs.Plan.{mask_of, place_of, carried}
use Rattle.definitions.specs.Direct.{goes_on, Round, jumped, finished}
use Rattle.columns.specs.OnPlan.{plan_walk}
use Rattle.plans.specs.Accepted.{rule_in}
use Rattle.definitions.specs.declared.Finish.{Finish}
use Rattle.rounds.specs.Run.{Prefix, labels_in}
use Rattle.rounds.specs.declared.blocks.Entry.{Entry}
use Rattle.rounds.specs.declared.RoundEnd.{RoundEnd}
use Rattle.definitions.specs.declared.Finish.TheVariants.{Unfinished}

-- the bytes of a rule lie at the start of an array that holds the longest
abbrev pub Lies : List ℕ → List ℕ → Type 0
Lies s rule = Prefix s rule × (length rule ≡ longest)

-- what the entry of block b says
pub record Entered (plan : List ℕ) (b : ℕ) (e : Entry) : Type 0 where
  pub place' : e.place ≡ place_of (rule_in plan) (carried plan) b
  pub inputs' : e.inputs ≡ mask_of (rule_in plan).variables (inputs_of (flow_of (rule_in plan)) b)
  pub outputs' : e.outputs ≡ mask_of (rule_in plan).variables (outputs_of (flow_of (rule_in plan)) b)

-- the code's answer for each case, with the labels and the variables that it leaves
unfoldable pub ended_as : Finish → ℕ → List Val → List Val → Round
ended_as how block labels vars = cond (goes_on how) (jumped block vars labels) (finished how labels)

-- the answer to a jump
abbrev pub jump_to : ℕ → ℕ → RoundEnd
jump_to block count = record { finish = Unfinished; block = block; count = count }

-- the round that was walked
pub record Walked (plan : List ℕ) (q block count : ℕ) (vars labels : List Word) (r : RoundEnd) (vars' labels' : List Word) : Type 0 where
  pub round : ended_as r.finish r.block (labels_in r.count labels') (values_in vars') ≡ plan_walk (size (rule_in plan)) (rule_in plan) q block (values_in vars) (labels_in count labels)
  pub unended : goes_on r.finish ≡ true → r.finish ≡ Unfinished
  pub within : r.count ≤ q

-- on the way: the walk that is left, from block b on, gives what the whole walk gives
pub record Going (plan : List ℕ) (q block count : ℕ) (vars₀ labels₀ : List Word) (left b n : ℕ) (vars labels : List Word) : Type 0 where
  pub below : b < size (rule_in plan)
  pub few : n ≤ q
  pub walk' : plan_walk left (rule_in plan) q b (values_in vars) (labels_in n labels) ≡ plan_walk (size (rule_in plan)) (rule_in plan) q block (values_in vars₀) (labels_in count labels₀)
