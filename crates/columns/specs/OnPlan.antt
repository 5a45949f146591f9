-- The run of a rule on the columns of its plan: of a row only the LC columns are kept from round to round, each block sees no more than its inputs and
-- passes on no more than its outputs. That it gives what the direct run gives is the theorem `on-plan` of proofs/Walks.antt.
use Rattle.std.specs.Prelude.{ℕ, zero, suc, Bool, cond, List, get_or, set, replicate}
use Rattle.definitions.specs.Values.{Val, unset}
use Rattle.definitions.specs.Rule.{End, Rule, size, block_of}
use Rattle.definitions.specs.Direct.{Way, on, ended, steps, exit, Round, jumped, finished, leave, body_at, ending_at, origin}
use Rattle.definitions.specs.Columns.{flow_of, inputs_of, outputs_of, LC}
use Rattle.definitions.specs.Batch.{columns_of, count_to}

-- the variables below v that the set does not hold, unset
unfoldable pub kept : ℕ → (ℕ → Bool) → List Val → List Val
kept zero f env = env
kept (suc v) f env = cond (f v) (kept v f env) (set (kept v f env) v unset)

-- what block b is entered with, and what it hands on
abbrev pub entered : Rule → ℕ → List Val → List Val
entered r b env = kept r.variables (inputs_of (flow_of r) b) env

abbrev pub handed : Rule → ℕ → List Val → List Val
handed r b env = kept r.variables (outputs_of (flow_of r) b) env

-- a block's ending sees all that the block has; what it leads to gets what the block hands on
abbrev pub leaving : Rule → ℕ → Way → End → (ℕ → List Val → List Val → Round) → Round
leaving r b (on env ls) e W = leave (exit e (ending_at origin r b) env) (handed r b env) ls (λ t. W t (handed r b env) ls)
leaving r b (ended how ls) e W = finished how ls

-- from block b on, as `walk` of the direct run
unfoldable pub plan_walk : ℕ → Rule → ℕ → ℕ → List Val → List Val → Round
plan_walk zero r q b env ls = jumped b env ls
plan_walk (suc f) r q b env ls = leaving r b (steps q (block_of r b).body (body_at origin r b) (entered r b env) ls) (block_of r b).ending (λ t env ls. plan_walk f r q t env ls)

-- a line's columns as 16 variables, those that are no columns unset
unfoldable pub spread : ℕ → (ℕ → Bool) → List Val → List Val
spread zero f cols = replicate 16 unset
spread (suc v) f cols = cond (f v) (set (spread v f cols) v (get_or cols (count_to v f) unset)) (spread v f cols)

-- one round of a line: from its columns to the columns of its next line
abbrev pub narrowed : Rule → Round → Round
narrowed r (jumped b env ls) = jumped b (columns_of r.variables (LC (flow_of r)) env) ls
narrowed r (finished how ls) = finished how ls

unfoldable pub line_round : Rule → ℕ → ℕ → List Val → List Val → Round
line_round r q b cols ls = narrowed r (plan_walk (size r) r q b (spread r.variables (LC (flow_of r)) cols) ls)
