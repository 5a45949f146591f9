-- A round on the plan's columns is the direct run's round. Assumes nothing.
use Prim.Native.Nat.{ℕ, zero, suc, ◌<◌}
use mathlib.Core.Path.{◌≡◌, refl, sym, ap, ◌∙◌}
use mathlib.Core.Bool.{Bool, true, false, ◌&&◌, ◌||◌}
use mathlib.Core.List.{List}
use native.Mathlib.Omega.{arith}
use lib.Dec.{eqb}
use lib.ListN.{length}
use Rattle.definitions.specs.Values.{Val, Out, value, fault}
use Rattle.definitions.specs.declared.Flaw.{Flaw}
use Rattle.definitions.specs.declared.Finish.{Finish}
use Rattle.definitions.specs.Rule.{End, Rule, size, block_of}
use Rattle.definitions.specs.Direct.{Exit, to_block, to_round, to_stop, exit, Way, on, ended, Round, jumped, finished, leave, through, steps, body_at, ending_at, origin, walk}
use Rattle.definitions.specs.Meaning.{Where}
use Rattle.definitions.specs.Columns.{led_to, flow_of, inputs_of, outputs_of, names, J, outputs, LC, sets, goes_to, jumps_to}
use Rattle.definitions.specs.Batch.{columns_of}
use Rattle.definitions.proofs.Tests.{or_left, or_right, and_both, some_in}
use Rattle.definitions.proofs.Columns.{computed, shared}
use Rattle.definitions.proofs.Led.{led-along, J-led}
use Rattle.columns.specs.OnPlan.{entered, handed, leaving, plan_walk, spread, narrowed, line_round}
use Rattle.columns.specs.Proper.{Proper}
use Rattle.columns.proofs.Reading.{exit-alike}
use Rattle.columns.specs.Alike.{Alike}
use Rattle.columns.proofs.Alike.{Ways, both-on, both-ended, Covered, alike-less, alike_self, looks-agree, steps_alike}
use Rattle.columns.proofs.Sets.{alike-kept, columns-same, spread-alike}
use Rattle.columns.proofs.Endings.{Named, exit_named}
use Rattle.definitions.specs.declared.Finish.TheVariants.{Stopped, Faulted}

-- two rounds: both ended alike, or both jump to one block of J, with the same labels and environments that agree on the LC columns
pub data Rounds (r : Rule) (a b : Round) : Type 0 where
  both-jumped : (t : ℕ) (x y ls : List Val) → a ≡ jumped t x ls → b ≡ jumped t y ls → t < size r → J (flow_of r) t ≡ true → Alike r.variables (LC (flow_of r)) x y → Rounds r a b
  both-finished : (how : Finish) (ls : List Val) → a ≡ finished how ls → b ≡ finished how ls → Rounds r a b

module _ (r : Rule) (ok : Proper r) where
  -- ---- the sets of a block
  module _ (b : ℕ) (l : b < size r) (led : led_to r b ≡ true) where
    covered : Covered r.variables (block_of r b).body (block_of r b).ending (inputs_of (flow_of r) b)
    covered = record {
      set_below = λ k p. ok.set_below b k l p;
      below = λ k p. ok.read_below b k l p;
      known = λ k p. (computed (flow_of r)).meets.own b k l (ok.read_below b k l p) (and_both (led_to r b) _ led p);
    }

    -- what a block hands on it had, or has set
    handed-on : (k : ℕ) → k < r.variables → outputs_of (flow_of r) b k ≡ true → (inputs_of (flow_of r) b k || sets (block_of r b).body k) ≡ true
    handed-on k h p = go (sets (block_of r b).body k) refl
      where
        go : (t : Bool) → sets (block_of r b).body k ≡ t → (inputs_of (flow_of r) b k || sets (block_of r b).body k) ≡ true
        go true q = or_right (inputs_of (flow_of r) b k) _ q
        go false q = or_left _ _ ((computed (flow_of r)).meets.through b k l h p q)

    -- and hands on the inputs of each block that it names
    named-inputs : (t : ℕ) → t < size r → names (flow_of r) b t ≡ true → (k : ℕ) → k < r.variables → inputs_of (flow_of r) t k ≡ true → outputs_of (flow_of r) b k ≡ true
    unfolding outputs
    named-inputs t m n k h p = some_in (size r) t (λ u. names (flow_of r) b u && inputs_of (flow_of r) u k) m (and_both _ _ n p)

    jumped-in-J : (t : ℕ) → jumps_to (block_of r b).ending t ≡ true → J (flow_of r) t ≡ true
    jumped-in-J t p = or_right (eqb t 0) _ (some_in (size r) b (λ c. (flow_of r).jumps c t) l (and_both (led_to r b) _ led p))

    -- ---- the ending
    leave-alike : (o : Out Flaw Exit) → Named (block_of r b).ending o → (x y ls : List Val) → Alike r.variables (outputs_of (flow_of r) b) x y → (W U : ℕ → Round)
        → ((t : ℕ) → t < size r → led_to r t ≡ true → ok.rank t < ok.rank b → Alike r.variables (inputs_of (flow_of r) t) x y → Rounds r (W t) (U t)) → Rounds r (leave o x ls W) (leave o y ls U)
    leave-alike (value (to_block t)) n x y ls w W U h =
        let m = ok.goto-below b t l (n.goes t refl) in
        h t m (led-along r b t l m led (or_left (goes_to (block_of r b).ending t) _ (n.goes t refl))) (ok.ranked.falls b t l (n.goes t refl))
        (alike-less _ _ _ x y (named-inputs t m (or_left ((flow_of r).gotos b t) _ (and_both (led_to r b) _ led (n.goes t refl)))) w)
    leave-alike (value (to_round t)) n x y ls w W U h =
        let j = jumped-in-J t (n.jumps t refl) in
        let m = ok.jump_below b t l (n.jumps t refl) in
        both-jumped t x y ls refl refl m j (alike-less _ _ _ x y (λ k i p. named-inputs t m (or_right ((flow_of r).gotos b t) _ (and_both (led_to r b) _ led (n.jumps t refl))) k i (shared (flow_of r) t k m i j ∙ p)) w)
    leave-alike (value to_stop) n x y ls w W U h = both-finished Stopped ls refl refl
    leave-alike (fault k) n x y ls w W U h = both-finished (Faulted k) ls refl refl

    -- ---- the block
    block-alike : (q : ℕ) (x y ls : List Val) → Alike r.variables (inputs_of (flow_of r) b) x y → (W U : ℕ → List Val → List Val → Round)
        → ((t : ℕ) (x y ls : List Val) → t < size r → led_to r t ≡ true → ok.rank t < ok.rank b → Alike r.variables (inputs_of (flow_of r) t) x y → Rounds r (W t x ls) (U t y ls))
        → Rounds r (through (steps q (block_of r b).body (body_at origin r b) x ls) (block_of r b).ending (ending_at origin r b) W) (leaving r b (steps q (block_of r b).body (body_at origin r b) (entered r b y) ls) (block_of r b).ending U)
    block-alike q x y ls w W U h = go _ _ (steps_alike r.variables (block_of r b).ending q (block_of r b).body (body_at origin r b) _ x (entered r b y) ls covered (alike-kept _ r.variables x y w))
      where
        go : (c d : Way) → Ways r.variables (λ k. inputs_of (flow_of r) b k || sets (block_of r b).body k) c d → Rounds r (through c (block_of r b).ending (ending_at origin r b) W) (leaving r b d (block_of r b).ending U)
        go c d (both-on x y ls p q w) =
            rw (p, q, exit-alike (block_of r b).ending (ending_at origin r b) x y (looks-agree r.variables _ (block_of r b).body _ x y covered w))
            (leave-alike (exit (block_of r b).ending (ending_at origin r b) y) (exit_named (block_of r b).ending (ending_at origin r b) y) x (handed r b y) ls (alike-kept _ r.variables x y (alike-less _ _ _ x y handed-on w)) _ _ (λ t m e n. h t x (handed r b y) ls m e n))
        go c d (both-ended how ls p q) = both-finished how ls (rw p) (rw q)

  -- ---- the round: from block b on, more blocks than its rank are enough
  pub walk-alike : (f q b : ℕ) (x y ls : List Val) → b < size r → led_to r b ≡ true → ok.rank b < f → Alike r.variables (inputs_of (flow_of r) b) x y → Rounds r (walk f origin r q b x ls) (plan_walk f r q b y ls)
  unfolding walk plan_walk
  walk-alike zero q b x y ls l e s w = absurd (omega arith)
  walk-alike (suc f) q b x y ls l e s w = block-alike b l e q x y ls w _ _ (λ t x y ls m e n u. walk-alike f q t x y ls m e (omega arith) u)

  -- ---- and more make no difference

  leave_same : (o : Out Flaw Exit) (env ls : List Val) (W U : ℕ → Round) → ((t : ℕ) → o ≡ value (to_block t) → W t ≡ U t) → leave o env ls W ≡ leave o env ls U
  leave_same (value (to_block t)) env ls W U h = h t refl
  leave_same (value (to_round t)) env ls W U h = refl
  leave_same (value to_stop) env ls W U h = refl
  leave_same (fault k) env ls W U h = refl

  pub through_same : (e : End) (p : Where) (W U : ℕ → List Val → List Val → Round) → ((t : ℕ) (env ls : List Val) → goes_to e t ≡ true → W t env ls ≡ U t env ls) → (w : Way) → through w e p W ≡ through w e p U
  through_same e p W U h (on env ls) = leave_same _ env ls _ _ (λ t g. h t env ls ((exit_named e p env).goes t g))
  through_same e p W U h (ended how ls) = refl

  pub walk-enough : (f g : ℕ) (w : Where) (q b : ℕ) (env ls : List Val) → b < size r → ok.rank b < f → ok.rank b < g → walk f w r q b env ls ≡ walk g w r q b env ls
  unfolding walk
  walk-enough zero g w q b env ls l m n = absurd (omega arith)
  walk-enough (suc f) zero w q b env ls l m n = absurd (omega arith)
  walk-enough (suc f) (suc g) w q b env ls l m n =
      through_same (block_of r b).ending (ending_at w r b) _ _
      (λ t env ls p. let j = ok.ranked.falls b t l p in walk-enough f g w q t env ls (ok.goto-below b t l p) (omega (arith, j)) (omega (arith, j)))
      (steps q (block_of r b).body (body_at w r b) env ls)

  -- a round that goes on, goes on at a block of J
  pub jumps_into_J : (q b : ℕ) (vars ls : List Val) → length vars ≡ r.variables → b < size r → J (flow_of r) b ≡ true → (t : ℕ) (x ms : List Val) → walk (size r) origin r q b vars ls ≡ jumped t x ms → (t < size r) × (J (flow_of r) t ≡ true)
  jumps_into_J q b vars ls e l i t x ms h = go _ (walk-alike (size r) q b vars vars ls l (J-led r b l i) (ok.ranked.below b l) (alike_self _ _ vars (omega arith)))
    where
      go : (d : Round) → Rounds r (walk (size r) origin r q b vars ls) d → (t < size r) × (J (flow_of r) t ≡ true)
      go d (both-jumped u x y ls p q m j w) =
          let same : u ≡ t = cc in
          (rw same at m, rw same at j)
      go d (both-finished how ls p q) =
          let clash : ◌≡◌ {A = ℕ} 0 1 = cc in
          absurd (omega arith)

  -- one round of a line is the direct run's round, narrowed to the LC columns
  pub on-plan : (q b : ℕ) (vars ls : List Val) → length vars ≡ r.variables → b < size r → J (flow_of r) b ≡ true
      → line_round r q b (columns_of r.variables (LC (flow_of r)) vars) ls ≡ narrowed r (walk (size r) origin r q b vars ls)
  unfolding line_round
  on-plan q b vars ls e l j =
      go _ _
      (walk-alike (size r) q b vars (spread r.variables (LC (flow_of r)) (columns_of r.variables (LC (flow_of r)) vars)) ls l (J-led r b l j) (ok.ranked.below b l)
      (alike-less _ _ _ _ _ (λ k i p. sym (shared (flow_of r) b k l i j) ∙ p) (spread-alike (LC (flow_of r)) r.variables vars ok.few (omega arith))))
    where
      go : (c d : Round) → Rounds r c d → narrowed r d ≡ narrowed r c
      go c d (both-jumped t x y ls p q m i w) = rw (p, q) (ap (λ (l : List Val). jumped t l ls) (sym (columns-same (LC (flow_of r)) r.variables x y w.same)))
      go c d (both-finished how ls p q) = rw (p, q)
