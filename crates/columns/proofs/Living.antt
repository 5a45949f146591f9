-- Whatever stands in blocks that are not led to, the columns are the same, and a run, which enters none of them, is in the same state after any number of
-- rounds, in all but where a fault lies. Assumes nothing.
use Prim.Native.Nat.{ℕ, zero, suc, ◌<◌}
use mathlib.Core.Path.{◌≡◌, refl, sym, ap, ap₂, ◌∙◌}
use mathlib.Core.Bool.{Bool, true, false, cond, not, ◌&&◌, ◌||◌}
use lib.Dec.{eqb}
use mathlib.Core.List.{List}
use Rattle.definitions.specs.Values.{Val}
use Rattle.definitions.specs.Rule.{Block, Rule, size, block_of}
use Rattle.definitions.specs.Meaning.{nowhere}
use Rattle.definitions.specs.Direct.{State, Round, goes_on, steps, walk, joined, origin, advance_from, after_from, after, unplaced}
use Rattle.definitions.specs.Columns.{LedTo, at_entry, along, led_to, flow_of, J, inputs_of, outputs_of, read_first, sets, goes_to, jumps_to}
use Rattle.definitions.proofs.Tests.{or_left, both_ways, some_same}
use Rattle.definitions.proofs.Led.{names-below, led-exactly, led-along, J-led}
use Rattle.definitions.proofs.Agreeing.{Agree, same_inputs, same-outputs}
use Rattle.definitions.proofs.Unplaced.{advance-unplaced}
use Rattle.columns.specs.Proper.{Proper}
use Rattle.columns.specs.Row.{SoundNow}
use Rattle.columns.specs.Living.{SameLiving}
use Rattle.columns.proofs.Walks.{through_same}
use Rattle.columns.proofs.Rows.{after-now}

-- ---- the same blocks are led to, and the columns are the same
module _ (r other : Rule) (w : SameLiving r other) where
  led_too : (b : ℕ) → LedTo r b → LedTo other b
  led_too b at_entry = at_entry
  led_too t (along {b} c p) = along {t = t} (led_too b c) (rw (w.same b (names-below r b t p) c) p)

  led-back : (b : ℕ) → LedTo other b → LedTo r b
  led-back b at_entry = at_entry
  led-back t (along {b} c p) =
      let d = led-back b c in
      let l : b < size r = rw w.blocks at (names-below other b t p) in
      along {t = t} d (rw (w.same b l d) at p)

  same-led : (b : ℕ) → b < size r → led_to other b ≡ led_to r b
  same-led b l =
      let m : b < size other = rw w.blocks l in
      both_ways (led_to other b) (led_to r b) (λ p. (led-exactly r b l).1 (led-back b ((led-exactly other b m).0 p))) (λ p. (led-exactly other b m).1 (led_too b ((led-exactly r b l).0 p)))

  -- what is asked of a block that counts is the same, and of the others nothing is
  asked : (F : Block → Bool) (b : ℕ) → b < size r → (led_to r b && F (block_of r b)) ≡ (led_to other b && F (block_of other b))
  asked F b l = rw (same-led b l) (go (led_to r b) refl)
    where
      go : (t : Bool) → led_to r b ≡ t → (t && F (block_of r b)) ≡ (t && F (block_of other b))
      go true p = ap F (sym (w.same b l ((led-exactly r b l).0 p)))
      go false p = refl

  agreeing : Agree (flow_of r) (flow_of other)
  agreeing = record {
    blocks = w.blocks;
    FV = λ b k l. asked (λ x. read_first x.body x.ending k) b l;
    named = λ b t l. ap₂ (λ (x y : Bool). x || y) (asked (λ x. goes_to x.ending t) b l) (asked (λ x. jumps_to x.ending t) b l);
    unset = λ b t k l. rw (same-led b l) (unset-here b t k (led_to r b) refl l);
    joins = λ t _. ap (λ (x : Bool). eqb t 0 || x) (rw w.blocks (some_same (size r) _ _ (λ b l. asked (λ x. jumps_to x.ending t) b l)));
  }
    where
      unset-here : (b t k : ℕ) (c : Bool) → led_to r b ≡ c → b < size r
          → ((c && goes_to (block_of r b).ending t || c && jumps_to (block_of r b).ending t) && not (sets (block_of r b).body k))
          ≡ ((c && goes_to (block_of other b).ending t || c && jumps_to (block_of other b).ending t) && not (sets (block_of other b).body k))
      unset-here b t k true p l = rw (w.same b l ((led-exactly r b l).0 p))
      unset-here b t k false p l = refl

  pub living_joins : (b : ℕ) → b < size r → J (flow_of r) b ≡ J (flow_of other) b
  living_joins b l = agreeing.joins b l

  pub living_inputs : (b k : ℕ) → b < size r → inputs_of (flow_of r) b k ≡ inputs_of (flow_of other) b k
  living_inputs b k l = same_inputs agreeing k b l

  pub living_outputs : (b k : ℕ) → b < size r → outputs_of (flow_of r) b k ≡ outputs_of (flow_of other) b k
  living_outputs b k l = same-outputs agreeing k b l

-- ---- the runs are the same, in all but where a fault lies: what stands before a block may have another length
module _ (r other : Rule) (ok : Proper r) (w : SameLiving r other) where
  pub living_walk : (f q b : ℕ) (env ls : List Val) → b < size r → led_to r b ≡ true → walk f nowhere other q b env ls ≡ walk f nowhere r q b env ls
  unfolding walk
  living_walk zero q b env ls l e = refl
  living_walk (suc f) q b env ls l e =
      rw (w.same b l ((led-exactly r b l).0 e))
      (through_same r ok (block_of r b).ending nowhere _ _
      (λ t env ls p. let m = ok.goto-below b t l p in living_walk f q t env ls m (led-along r b t l m e (or_left (goes_to (block_of r b).ending t) _ p)))
      (steps q (block_of r b).body nowhere env ls))

  living_advance : (q : ℕ) (s : State) → s.block < size r → J (flow_of r) s.block ≡ true → advance_from nowhere other q s ≡ advance_from nowhere r q s
  unfolding advance_from
  living_advance q s l j =
      ap (λ (x : Round). cond (goes_on s.finish) (joined s x) s)
      (ap (λ (f : ℕ). walk f nowhere other q s.block s.vars s.labels) w.blocks ∙ living_walk (size r) q s.block s.vars s.labels l (J-led r s.block l j))

  pub living_after : (q : ℕ) (s : State) → SoundNow r q s → (n : ℕ) → unplaced (after other q n s) ≡ unplaced (after r q n s)
  unfolding after_from
  living_after q s h zero = refl
  living_after q s h (suc n) =
      let g = after-now r q ok s h n in
      advance-unplaced origin other q (after other q n s)
      ∙ ap (advance_from nowhere other q) (living_after q s h n)
      ∙ living_advance q (unplaced (after r q n s)) g.block-below g.block_in-J
      ∙ sym (advance-unplaced origin r q (after r q n s))
