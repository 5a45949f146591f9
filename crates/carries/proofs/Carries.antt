-- One row carried on in locals, round by round: it goes as the direct run does. Assumes nothing.
use mathlib.Core.Path.{◌≡◌, refl, sym, ap, ◌∙◌}
use mathlib.Core.Bool.{Bool, true, false}
use Prim.Native.Nat.{ℕ, ◌+◌, ◌-◌, ◌≤◌, ◌<◌}
use native.Mathlib.Omega.{arith}
use native.Mathlib.Numerals.{add-one}
use mathlib.Core.List.{List}
use lib.ListN.{length, take}
use lib.Seq.{length-take-le}
use borrow.Author.Tests.{eqb-true, eqb-false}
use Rattle.definitions.specs.Values.{Word, Val, values_in}
use Rattle.definitions.specs.declared.Finish.{Finish}
use Rattle.definitions.specs.Rule.{Rule, size}
use Rattle.definitions.specs.Columns.{flow_of, inputs_of, LC}
use Rattle.definitions.specs.Direct.{State, Round, jumped, finished, joined, after_from, after, goes_on}
use Rattle.definitions.proofs.Values.{values_length}
use Rattle.definitions.proofs.Columns.{shared}
use Rattle.columns.specs.OnPlan.{plan_walk}
use Rattle.columns.specs.Proper.{Proper}
use Rattle.columns.specs.Row.{Sound, SoundNow}
use Rattle.columns.specs.Alike.{Alike}
use Rattle.columns.proofs.Alike.{alike-less}
use Rattle.definitions.proofs.Led.{J-led}
use Rattle.columns.proofs.Walks.{Rounds, both-jumped, both-finished, walk-alike}
use Rattle.columns.proofs.Rows.{round_of, advance-on, after_add, after-done, after-sound}
use Rattle.rounds.specs.Round.{ended_as}
use Rattle.rounds.specs.declared.RoundEnd.{RoundEnd}
use Rattle.carries.specs.Carry.{InHand, ProgressTo}
use Rattle.carries.specs.declared.Progress.{Progress}
use Rattle.definitions.specs.declared.Finish.TheVariants.{Unfinished}
use Rattle.definitions.proofs.Ends.{no-both}

-- what a round's answer says of the state that it leads to
record Gone (r : Rule) (s s' : State) (how : Finish) (block : ℕ) (labels vars : List Val) : Type 0 where
  finish' : how ≡ s'.finish
  begun : s'.begun ≡ s.begun + 1
  labels' : labels ≡ s'.labels
  block' : goes_on s'.finish ≡ true → block ≡ s'.block
  vars' : goes_on s'.finish ≡ true → Alike r.variables (LC (flow_of r)) s'.vars vars

gone : (r : Rule) (s : State) (R P : Round) → Rounds r R P → (how : Finish) (b : ℕ) (ls vars : List Val) → ended_as how b ls vars ≡ P → (goes_on how ≡ true → how ≡ Unfinished) → Gone r s (joined s R) how b ls vars
unfolding ended_as
gone r s R P (both-jumped t x y ms p p' m j w) how b ls vars e u = go (goes_on how) refl
  where
    go : (d : Bool) → goes_on how ≡ d → Gone r s (joined s R) how b ls vars
    go true z =
        let k : jumped b vars ls ≡ jumped t y ms = rw z at (e ∙ p') in
        let eb : b ≡ t = cc in
        let ev : vars ≡ y = cc in
        let el : ls ≡ ms = cc in
        rw p record { finish' = u z; begun = refl; labels' = el; block' = λ _. eb; vars' = λ _. rw ev w }
    go false z =
        let k : finished how ls ≡ jumped t y ms = rw z at (e ∙ p') in
        let f : ◌≡◌ {A = ℕ} 0 1 = cc in
        absurd (omega arith)
gone r s R P (both-finished t ms p p') how b ls vars e u = go (goes_on how) refl
  where
    go : (d : Bool) → goes_on how ≡ d → Gone r s (joined s R) how b ls vars
    go true z =
        let k : jumped b vars ls ≡ finished t ms = rw z at (e ∙ p') in
        let f : ◌≡◌ {A = ℕ} 0 1 = cc in
        absurd (omega arith)
    go false z =
        let k : finished how ls ≡ finished t ms = rw z at (e ∙ p') in
        let et : how ≡ t = cc in
        let el : ls ≡ ms = cc in
        rw p record { finish' = et; begun = refl; labels' = el; block' = λ h. no-both how (ap goes_on et ∙ h) z; vars' = λ h. no-both how (ap goes_on et ∙ h) z }

-- before the first round
pub progress_none : (r : Rule) (q block count : ℕ) (labels vars : List Word) (k : InHand r q block (take count labels) vars) → count ≤ length labels
    → ProgressTo r k.state (after r q 0 k.state) (record { finish = Unfinished; rounds = 0; block = block; count = count }) labels vars
unfolding after_from
progress_none r q block count labels vars k h = record {
  finish = sym (k.sound.unended k.going);
  begun = omega arith;
  count = sym (values_length (take count labels) ∙ length-take-le count labels h) ∙ ap length k.labels';
  labels' = k.labels';
  block = λ _. k.block';
  vars' = λ _. k.vars';
}

module _ {r : Rule} {q : ℕ} {s : State} {labels vars : List Word} (ok : Proper r) (sound : SoundNow r q s) (n : ℕ) (c : Progress) (w : ProgressTo r s (after r q n s) c labels vars) where
  abbrev here : State
  here = after r q n s

  here-sound : Sound r q (s.begun + n) here
  here-sound = after-sound r q ok s.begun s sound n

  pub few : c.count ≤ q
  few = omega (arith, w.count, here-sound.labels-few)

  module _ (on : goes_on c.finish ≡ true) where
    going : goes_on here.finish ≡ true
    going = ap goes_on (sym w.finish) ∙ on

    pub block-below : c.block < size r
    block-below = omega (arith, w.block going, here-sound.block-below)

    both : Rounds r (round_of r q here) (plan_walk (size r) r q here.block (values_in vars) here.labels)
    both =
        walk-alike r ok (size r) q here.block here.vars (values_in vars) here.labels here-sound.block-below (J-led r here.block here-sound.block-below here-sound.block_in-J) (ok.ranked.below _ here-sound.block-below)
        (alike-less r.variables (LC (flow_of r)) (inputs_of (flow_of r) here.block) here.vars (values_in vars)
        (λ k i p. sym (shared (flow_of r) here.block k here-sound.block-below i here-sound.block_in-J) ∙ p) (w.vars' going))

    same-round : plan_walk (size r) r q c.block (values_in vars) (values_in (take c.count labels)) ≡ plan_walk (size r) r q here.block (values_in vars) here.labels
    same-round = rw (w.block going, w.labels')

    -- one round more
    pub progress-next : c.rounds ≡ n → (e : RoundEnd) (labels' vars' : List Word) → ended_as e.finish e.block (values_in (take e.count labels')) (values_in vars') ≡ plan_walk (size r) r q c.block (values_in vars) (values_in (take c.count labels)) → (goes_on e.finish ≡ true → e.finish ≡ Unfinished) → e.count ≤ length labels'
        → ProgressTo r s (after r q (n + 1) s) (record { finish = e.finish; rounds = n + 1; block = e.block; count = e.count }) labels' vars'
    unfolding after_from
    progress-next k e labels' vars' walked u h =
        let ls = values_in (take e.count labels') in
        let g : Gone r here (joined here (round_of r q here)) e.finish e.block ls (values_in vars') = gone r here _ _ both e.finish e.block ls (values_in vars') (walked ∙ same-round) u in
        rw (add-one, advance-on r q here going) record {
          finish = g.finish';
          begun = omega (arith, g.begun, w.begun);
          count = sym (values_length (take e.count labels') ∙ length-take-le e.count labels' h) ∙ ap length g.labels';
          labels' = g.labels';
          block = g.block';
          vars' = g.vars';
        }

  -- a row that has ended stays
  pub progress_early : (N : ℕ) → n ≤ N → goes_on c.finish ≡ false → ProgressTo r s (after r q N s) c labels vars
  progress_early N h z =
      let d : n + (N - n) ≡ N = omega arith in
      let e : after r q N s ≡ here =
      ap (λ (k : ℕ). after r q k s) (sym d) ∙ after_add r q n (N - n) s ∙ after-done r q (N - n) here (ap goes_on (sym w.finish) ∙ z) in
      rw e w
