-- A block: its statements, its ending, its columns, put together. Assumes nothing.
use Prim.Native.Nat.{ℕ}
use native.Mathlib.Omega.{arith}
use mathlib.Core.Path.{◌≡◌, refl}
use mathlib.Core.List.{List}
use Rattle.definitions.specs.Values.{Word, Val, values_in, Out, value, fault}
use Rattle.definitions.specs.declared.Flaw.{Flaw}
use Rattle.definitions.specs.declared.Finish.{Finish}
use Rattle.definitions.specs.Grammar.{levels}
use Rattle.definitions.specs.Plan.{bit_of}
use Rattle.definitions.specs.Meaning.{at_byte}
use Rattle.definitions.specs.Direct.{Exit, to_block, to_round, to_stop, exit, Round, leave}
use Rattle.columns.specs.OnPlan.{kept}
use Rattle.rounds.specs.Run.{EndHere, leading_of, BlockHere, labels_in, BodyRun, round_of, BlockRun}
use Rattle.std.specs.Prelude.{Ok, Err}
use Rattle.rounds.specs.declared.blocks.Entry.{Entry}
use Rattle.rounds.specs.declared.blocks.Leading.{Leading}
use Rattle.definitions.specs.declared.Finish.TheVariants.{Faulted}

-- where an ending leads is where the code's answer leads
led : (o : Out Flaw Exit) (l : Leading) (n : ℕ) (vars labels : List Word) (W : ℕ → List Val → List Val → Round) → Ok l ≡ leading_of o → round_of (Ok l) n vars labels W ≡ leave o (values_in vars) (labels_in n labels) (λ t. W t (values_in vars) (labels_in n labels))
led (value (to_block t)) l n vars labels W e = let same : l ≡ Leading.Goto t = cc in rw same
led (value (to_round t)) l n vars labels W e = let same : l ≡ Leading.Jump t = cc in rw same
led (value to_stop) l n vars labels W e = let same : l ≡ Leading.Stop = cc in rw same
led (fault k) l n vars labels W e = let z : ◌≡◌ {A = ℕ} 0 1 = cc in absurd (omega arith)

-- a fault of the code is the ending's
failed : (o : Out Flaw Exit) (k : Flaw) → Err k ≡ leading_of o → o ≡ fault k
failed (value (to_block t)) k e = let z : ◌≡◌ {A = ℕ} 0 1 = cc in absurd (omega arith)
failed (value (to_round t)) k e = let z : ◌≡◌ {A = ℕ} 0 1 = cc in absurd (omega arith)
failed (value to_stop) k e = let z : ◌≡◌ {A = ℕ} 0 1 = cc in absurd (omega arith)
failed (fault l) k e = cc

-- where the statements end, the block's ending stands
pub block-ending : (v : ℕ) (s : List ℕ) (at : ℕ) (h : BlockHere v s at) (q count : ℕ) (env labels : List Word) (p n : ℕ) (vars' labels' : List Word) → BodyRun v s at h q count env labels (Ok p) n vars' labels' → EndHere levels v s p
block-ending v s at h q count env labels p n vars' labels' w = record { targets = h.targets; ending = h.what.ending; next = h.next; reads = w.ending p refl }

module _ (v : ℕ) (s : List ℕ) (e : Entry) (h : BlockHere v s e.place) (q count : ℕ) (vars labels : List Word) where
  -- the row ended among the statements
  pub block-ended : (env : List Word) (how : Finish) (n : ℕ) (vars' labels' : List Word) → values_in env ≡ kept v (bit_of e.inputs) (values_in vars) → BodyRun v s e.place h q count env labels (Err how) n vars' labels' → BlockRun v s e h q count vars labels (Err how) n vars' labels'
  block-ended env how n vars' labels' a w = record { round = λ W. rw (← a, ← w.way) refl; within = w.within; rest = w.rest }

  -- the statements were run, and then the ending
  module _ (env : List Word) (p n : ℕ) (mid labels' : List Word) (a : values_in env ≡ kept v (bit_of e.inputs) (values_in vars)) (w : BodyRun v s e.place h q count env labels (Ok p) n mid labels') where
    here : EndHere levels v s p
    here = block-ending v s e.place h q count env labels p n mid labels' w

    pub block-left : (l : Leading) (vars' : List Word) → ((g : EndHere levels v s p) → Ok l ≡ leading_of (exit g.ending (at_byte p) (values_in mid))) → values_in vars' ≡ kept v (bit_of e.outputs) (values_in mid) → BlockRun v s e h q count vars labels (Ok l) n vars' labels'
    unfolding here block-ending
    block-left l vars' x k =
        record { round = λ W. rw (← a, ← w.way, ← k, ← w.place p refl) (led (exit h.what.ending (at_byte p) (values_in mid)) l n vars' labels' W (x here)); within = w.within; rest = w.rest }

    -- or the ending had a fault
    pub block-failed : (k : Flaw) → ((g : EndHere levels v s p) → Err k ≡ leading_of (exit g.ending (at_byte p) (values_in mid))) → BlockRun v s e h q count vars labels (Err (Faulted k)) n mid labels'
    unfolding here block-ending
    block-failed k x =
        let o = failed (exit h.what.ending (at_byte p) (values_in mid)) k (x here) in
        record { round = λ W. rw (← a, ← w.way, ← w.place p refl, o); within = w.within; rest = w.rest }
