-- 01, Meaning and A batch, and K4 of 02: the direct run of a rule for one row. It goes by rounds, keeps all variables, and tells where a fault lies.
use Rattle.std.specs.Prelude.{ℕ, zero, suc, ◌+◌, ◌-◌, Bool, true, false, cond, List, [], ◌∷◌, ◌++◌, ltb, length, set, replicate}
use Rattle.definitions.specs.Values.{Val, unset, Out, value, fault, also, kind_number}
use Rattle.definitions.specs.Rule.{Stmt, Set, Emit, End, Goto, Jump, Stop, If, Rule, size, block_of}
use Rattle.definitions.specs.Spelling.{cond_size, stmt_size, end_size, body_size, block_place}
use Rattle.definitions.specs.Meaning.{Where, at_byte, further, eval, holds}
use Rattle.definitions.specs.declared.Flaw.{Flaw}
use Rattle.definitions.specs.declared.Finish.{Finish}
use Rattle.definitions.specs.declared.Told.{Told}
use Rattle.definitions.specs.declared.Finish.TheVariants.{Unfinished, Stopped, Faulted, QuotaFull}

-- ---- how a row ends, or that it has not

-- its status; a fault's is its kind's number, 2 or 3
abbrev pub status_number : Finish → ℕ
status_number Unfinished = 0
status_number Stopped = 1
status_number (Faulted f) = kind_number f.kind
status_number QuotaFull = 4

-- where its fault lies, 0 if it has none
abbrev pub fault_place : Finish → ℕ
fault_place Unfinished = 0
fault_place Stopped = 0
fault_place (Faulted f) = f.place
fault_place QuotaFull = 0

abbrev pub told_of : Finish → Told
told_of how = record { status = status_number how; place = fault_place how }

abbrev pub goes_on : Finish → Bool
goes_on Unfinished = true
goes_on Stopped = false
goes_on (Faulted f) = false
goes_on QuotaFull = false

-- ---- inside a block

-- on the way through a block: the variables and the row's labels so far; or the row has ended, with its labels
pub data Way : Type 0 where
  on : List Val → List Val → Way
  ended : Finish → List Val → Way

abbrev pub onward : Way → (List Val → List Val → Way) → Way
onward (on env ls) f = f env ls
onward (ended how ls) f = ended how ls

-- what is worked out, used where it is a value; a fault ends the row, and its labels stay
abbrev pub with : {B : Type 0} → Out Flaw B → List Val → (B → Way) → Way
with (value b) ls f = f b
with (fault k) ls f = ended (Faulted k) ls

-- an emit works out its expression first; then, where the quota is used up, the row ends
abbrev pub emitted : ℕ → List Val → List Val → Val → Way
emitted q env ls z = cond (ltb (length ls) q) (on env (ls ++ (z ∷ []))) (ended QuotaFull ls)

unfoldable pub step : ℕ → Stmt → Where → List Val → List Val → Way
step q (Set x e) w env ls = with (eval e (further w 2) env) ls (λ z. on (set env x z) ls)
step q (Emit e) w env ls = with (eval e (further w 1) env) ls (λ z. emitted q env ls z)

-- each statement sees the ones before it
unfoldable pub steps : ℕ → List Stmt → Where → List Val → List Val → Way
steps q [] w env ls = on env ls
steps q (x ∷ xs) w env ls = onward (step q x w env ls) (λ env ls. steps q xs (further w (stmt_size x)) env ls)

-- where an ending leads
pub data Exit : Type 0 where
  to_block : ℕ → Exit
  to_round : ℕ → Exit
  to_stop : Exit

unfoldable pub exit : End → Where → List Val → Out Flaw Exit
exit (Goto t) w env = value (to_block t)
exit (Jump t) w env = value (to_round t)
exit Stop w env = value to_stop
exit (If c x y) w env = also (holds c (further w 1) env) (λ h. cond h (exit x (further w (1 + cond_size c)) env) (exit y (further w (1 + cond_size c + end_size x)) env))

-- ---- a round

-- what a round comes to: a jump asks for the next round at a block, or the row has ended
pub data Round : Type 0 where
  jumped : ℕ → List Val → List Val → Round
  finished : Finish → List Val → Round

-- a block's ending, after its statements: W goes on at another block, in the same round
abbrev pub leave : Out Flaw Exit → List Val → List Val → (ℕ → Round) → Round
leave (value (to_block t)) env ls W = W t
leave (value (to_round t)) env ls W = jumped t env ls
leave (value to_stop) env ls W = finished Stopped ls
leave (fault k) env ls W = finished (Faulted k) ls

-- the ending stands at w
abbrev pub through : Way → End → Where → (ℕ → List Val → List Val → Round) → Round
through (on env ls) e w W = leave (exit e w env) env ls (λ t. W t env ls)
through (ended how ls) e w W = finished how ls

-- where the statements and the ending of block b stand, in a rule that lies at w
abbrev pub body_at : Where → Rule → ℕ → Where
body_at w r b = further w (block_place r b)

abbrev pub ending_at : Where → Rule → ℕ → Where
ending_at w r b = further (body_at w r b) (body_size (block_of r b))

-- from block b on. The first number bounds how many blocks a round enters: gotos only rise, so the number of blocks is enough
unfoldable pub walk : ℕ → Where → Rule → ℕ → ℕ → List Val → List Val → Round
walk zero w r q b env ls = jumped b env ls
walk (suc f) w r q b env ls = through (steps q (block_of r b).body (body_at w r b) env ls) (block_of r b).ending (ending_at w r b) (λ t env ls. walk f w r q t env ls)

-- ---- a row

pub record State : Type 0 where
  pub finish : Finish
  pub begun : ℕ  -- rounds
  pub labels : List Val
  pub block : ℕ  -- where the next round starts
  pub vars : List Val

-- the arguments, and all other variables unset; round 1 starts at the entry
abbrev pub start : Rule → List Val → State
start r args = record { finish = Unfinished; begun = 0; labels = []; block = 0; vars = args ++ replicate (r.variables - length args) unset }

-- the state after the round that it asked for; a row that ended keeps the block and the variables it had
abbrev pub joined : State → Round → State
joined s (jumped b env ls) = record { finish = Unfinished; begun = s.begun + 1; labels = ls; block = b; vars = env }
joined s (finished how ls) = record { finish = how; begun = s.begun + 1; labels = ls; block = s.block; vars = s.vars }

-- one round under quota q, of a rule that lies at w; a finished row stays as it is
unfoldable pub advance_from : Where → Rule → ℕ → State → State
advance_from w r q s = cond (goes_on s.finish) (joined s (walk (size r) w r q s.block s.vars s.labels)) s

-- with budget N, N rounds may begin
unfoldable pub after_from : Where → Rule → ℕ → ℕ → State → State
after_from w r q zero s = s
after_from w r q (suc n) s = advance_from w r q (after_from w r q n s)

-- a fault's place is its offset in the rule, so the rule lies at 0
abbrev pub origin : Where
origin = at_byte 0

abbrev pub advance : Rule → ℕ → State → State
advance = advance_from origin

abbrev pub after : Rule → ℕ → ℕ → State → State
after = after_from origin

-- ---- a row but for where its fault lies

abbrev pub placeless : Finish → Finish
placeless Unfinished = Unfinished
placeless Stopped = Stopped
placeless (Faulted f) = Faulted (record { kind = f.kind; place = 0 })
placeless QuotaFull = QuotaFull

abbrev pub unplaced : State → State
unplaced s = record { finish = placeless s.finish; begun = s.begun; labels = s.labels; block = s.block; vars = s.vars }
