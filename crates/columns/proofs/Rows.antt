-- A row, round after round: what its states keep to, and that a row on the plan's columns is the direct run's row. Assumes nothing.
use Prim.Native.Nat.{ℕ, zero, suc, ◌+◌, ◌-◌, ◌≤◌, ◌<◌}
use mathlib.Core.Path.{◌≡◌, refl, sym, ap, ◌∙◌}
use mathlib.Core.Bool.{Bool, true, false, cond}
use mathlib.Core.List.{List, [], ◌∷◌, ◌++◌, append_assoc, append-nil}
use native.Mathlib.Omega.{arith}
use native.Mathlib.Nat.{zero-add, add-zero, add-suc}
use lib.ListN.{length, replicate, length-append, length-replicate, length-set}
use Rattle.definitions.specs.Values.{Val, unset}
use Rattle.definitions.specs.Rule.{Rule, size}
use Rattle.definitions.proofs.Ends.{goes-unfinished, above-ended, no-both}
use Rattle.definitions.specs.Direct.{State, goes_on, Round, jumped, finished, origin, walk, start, joined, advance_from, advance, after_from, after}
use Rattle.definitions.specs.Columns.{flow_of}
use Rattle.definitions.proofs.Columns.{entry_in_J}
use Rattle.columns.specs.OnPlan.{narrowed, line_round}
use Rattle.columns.specs.Proper.{Proper}
use Rattle.columns.specs.Row.{seen, joined_on, advance_on, after_on, Sound, SoundNow}
use Rattle.columns.proofs.Walks.{jumps_into_J, on-plan}
use Rattle.columns.proofs.Keeping.{KeptRound, walk_kept}

-- the round that a row asks for
abbrev pub round_of : Rule → ℕ → State → Round
round_of r q s = walk (size r) origin r q s.block s.vars s.labels

-- labels only grow, and no further than the quota
pub record Grown (q : ℕ) (old new : List Val) : Type 0 where
  pub more : List Val
  pub longer : new ≡ old ++ more
  pub few : length new ≤ q

grown_self : (q : ℕ) (ls : List Val) → length ls ≤ q → Grown q ls ls
grown_self q ls h = record { more = []; longer = sym (append-nil ls); few = h }

grown-more : (q : ℕ) (old new : List Val) (z : Val) → length new < q → Grown q old new → Grown q old (new ++ (z ∷ []))
grown-more q old new z h g = record {
  more = g.more ++ (z ∷ []);
  longer = ap (λ (l : List Val). l ++ (z ∷ [])) g.longer ∙ append_assoc old g.more (z ∷ []);
  few = omega (arith, length-append new (z ∷ []));
}

grown_trans : (q : ℕ) (a b c : List Val) → Grown q a b → Grown q b c → Grown q a c
grown_trans q a b c g h = record {
  more = g.more ++ h.more;
  longer = h.longer ∙ ap (λ (l : List Val). l ++ h.more) g.longer ∙ append_assoc a g.more h.more;
  few = h.few;
}

seen-joined : (r : Rule) (s : State) (R : Round) → seen r (joined s R) ≡ joined_on (seen r s) (narrowed r R)
seen-joined r s (jumped t env ls) = refl
seen-joined r s (finished how ls) = refl

-- ---- one round
module _ (r : Rule) (q : ℕ) where
  pub advance-done : (s : State) → goes_on s.finish ≡ false → advance r q s ≡ s
  unfolding advance_from
  advance-done s e = rw e

  pub advance-on : (s : State) → goes_on s.finish ≡ true → advance r q s ≡ joined s (round_of r q s)
  unfolding advance_from
  advance-on s e = rw e

  walk-keeps : (f b : ℕ) (env ls : List Val) → length ls ≤ q → KeptRound (λ x. length x ≡ length env) (Grown q ls) (walk f origin r q b env ls)
  walk-keeps f b env ls h =
      walk_kept q (λ s. Unit {0}) (λ x. length x ≡ length env) (Grown q ls)
      (λ i a w x z o e p. length-set x i z ∙ e)
      (λ a w x ms z o e g p l. grown-more q ls ms z l g)
      r (λ b s m. tt) f origin b env ls refl (grown_self q ls h)

  module _ (ok : Proper r) (n : ℕ) (s : State) (h : Sound r q n s) where
    joined-sound : goes_on s.finish ≡ true → Sound r q (suc n) (joined s (round_of r q s))
    joined-sound e = go (round_of r q s) refl (walk-keeps (size r) s.block s.vars s.labels h.labels-few)
      where
        go : (R : Round) → round_of r q s ≡ R → KeptRound (λ x. length x ≡ length s.vars) (Grown q s.labels) R → Sound r q (suc n) (joined s R)
        go (jumped t env ls) p k =
            let j = jumps_into_J r ok q s.block s.vars s.labels h.vars-all h.block-below h.block_in-J t env ls p in
            record {
              status-low = omega arith;
              unended = λ z. refl;
              began = omega (arith, h.began);
              going = λ z. omega (arith, h.going e);
              labels-few = k.1.few;
              block-below = j.0;
              block_in-J = j.1;
              vars-all = k.0 ∙ h.vars-all;
            }
        go (finished how ls) p k = record {
          status-low = k.0.1;
          unended = λ z. goes-unfinished how z;
          began = omega (arith, h.began);
          going = λ z. no-both how z (above-ended how k.0.0);
          labels-few = k.1.few;
          block-below = h.block-below;
          block_in-J = h.block_in-J;
          vars-all = h.vars-all;
        }

    pub advance-sound : Sound r q (suc n) (advance r q s)
    advance-sound = go (goes_on s.finish) refl
      where
        go : (t : Bool) → goes_on s.finish ≡ t → Sound r q (suc n) (advance r q s)
        go true e = rw (advance-on s e) (joined-sound e)
        go false e = rw (advance-done s e) record {
          status-low = h.status-low;
          unended = h.unended;
          began = omega (arith, h.began);
          going = λ z. no-both s.finish z e;
          labels-few = h.labels-few;
          block-below = h.block-below;
          block_in-J = h.block_in-J;
          vars-all = h.vars-all;
        }

    advance-grown : Grown q s.labels (advance r q s).labels
    unfolding advance_from
    advance-grown = go (goes_on s.finish)
      where
        ended : (R : Round) → KeptRound (λ x. length x ≡ length s.vars) (Grown q s.labels) R → Grown q s.labels (joined s R).labels
        ended (jumped t env ls) k = k.1
        ended (finished how ls) k = k.1

        go : (t : Bool) → Grown q s.labels (cond t (joined s (round_of r q s)) s).labels
        go true = ended (round_of r q s) (walk-keeps (size r) s.block s.vars s.labels h.labels-few)
        go false = grown_self q s.labels h.labels-few

    pub seen-advance : seen r (advance r q s) ≡ advance_on r q (seen r s)
    unfolding advance_from advance_on
    seen-advance = go (goes_on s.finish)
      where
        go : (t : Bool) → seen r (cond t (joined s (round_of r q s)) s) ≡ cond t (joined_on (seen r s) (line_round r q s.block (seen r s).cols s.labels)) (seen r s)
        go true = rw (on-plan r ok q s.block s.vars s.labels h.vars-all h.block-below h.block_in-J) (seen-joined r s (round_of r q s))
        go false = refl

  pub sound_now : (n : ℕ) (s : State) → Sound r q n s → SoundNow r q s
  sound_now n s h = record {
    status-low = h.status-low;
    unended = h.unended;
    began = omega arith;
    going = λ z. refl;
    labels-few = h.labels-few;
    block-below = h.block-below;
    block_in-J = h.block_in-J;
    vars-all = h.vars-all;
  }

  -- ---- round after round
  pub after_add : (n m : ℕ) (s : State) → after r q (n + m) s ≡ after r q m (after r q n s)
  unfolding after_from
  after_add n zero s = rw add-zero
  after_add n (suc m) s = rw (add-suc, after_add n m s)

  -- a row that still goes on has begun every round that it might
  pub after-begun : (n : ℕ) (s : State) → goes_on (after r q n s).finish ≡ true → (after r q n s).begun ≡ s.begun + n
  unfolding after_from
  after-begun zero s e = omega arith
  after-begun (suc n) s e = go (goes_on (after r q n s).finish) refl (after-begun n s)
    where
      one_more : (R : Round) (t : State) → (joined t R).begun ≡ t.begun + 1
      one_more (jumped b env ls) t = refl
      one_more (finished how ls) t = refl

      go : (b : Bool) → goes_on (after r q n s).finish ≡ b → (goes_on (after r q n s).finish ≡ true → (after r q n s).begun ≡ s.begun + n) → (advance r q (after r q n s)).begun ≡ s.begun + suc n
      go true h before = rw (advance-on (after r q n s) h) (omega (arith, one_more (round_of r q (after r q n s)) (after r q n s), before h))
      go false h before = let z : ◌≡◌ {A = Bool} true false = sym e ∙ ap (λ (t : State). goes_on t.finish) (advance-done (after r q n s) h) ∙ h in let z' : ◌≡◌ {A = ℕ} 0 1 = cc in absurd (omega arith)

  pub after-done : (n : ℕ) (s : State) → goes_on s.finish ≡ false → after r q n s ≡ s
  unfolding after_from
  after-done zero s e = refl
  after-done (suc n) s e = rw (after-done n s e) (advance-done s e)

  module _ (ok : Proper r) where
    pub start-sound : (args : List Val) → length args ≤ r.variables → Sound r q 0 (start r args)
    start-sound args l = record {
      status-low = omega arith;
      unended = λ z. refl;
      began = omega arith;
      going = λ z. refl;
      labels-few = omega arith;
      block-below = ok.entry;
      block_in-J = entry_in_J (flow_of r);
      vars-all = omega (arith, length-append args (replicate (r.variables - length args) unset), length-replicate (r.variables - length args) unset);
    }

    module _ (m : ℕ) (s : State) (h : Sound r q m s) where
      pub after-sound : (n : ℕ) → Sound r q (m + n) (after r q n s)
      unfolding after_from
      after-sound zero = rw add-zero h
      after-sound (suc n) = rw add-suc (advance-sound ok (m + n) (after r q n s) (after-sound n))

      pub after-grown : (n : ℕ) → Grown q s.labels (after r q n s).labels
      unfolding after_from
      after-grown zero = grown_self q s.labels h.labels-few
      after-grown (suc n) = grown_trans q _ _ _ (after-grown n) (advance-grown ok (m + n) (after r q n s) (after-sound n))

      pub seen-after : (n : ℕ) → seen r (after r q n s) ≡ after_on r q n (seen r s)
      unfolding after_from after_on
      seen-after zero = refl
      seen-after (suc n) = seen-advance ok (m + n) (after r q n s) (after-sound n) ∙ ap (advance_on r q) (seen-after n)

    pub after-now : (s : State) → SoundNow r q s → (n : ℕ) → SoundNow r q (after r q n s)
    after-now s h n = sound_now (s.begun + n) (after r q n s) (after-sound s.begun s h n)

    -- the states of the direct run
    pub run_sound : (args : List Val) → length args ≤ r.variables → (n : ℕ) → Sound r q n (after r q n (start r args))
    run_sound args l n = rw zero-add at (after-sound 0 (start r args) (start-sound args l) n)
