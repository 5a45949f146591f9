-- The computed inputs are the smallest sets, there is one such choice only, and all blocks of J have LC as inputs. Assumes nothing.
use mathlib.Core.Path.{◌≡◌, refl, ◌∙◌}
use mathlib.Core.Bool.{Bool, true, not, ◌&&◌}
use mathlib.Core.Logic.{⊎_elim}
use Prim.Native.Nat.{ℕ, ◌<◌}
use native.Mathlib.Omega.{arith}
use borrow.Author.Tests.{not-true}
use Rattle.definitions.specs.Columns.{Flow, names, J, outputs, Meets, Inputs, passes, inputs_of, LC}
use Rattle.definitions.specs.Smallest.{Closed, Smallest}
use Rattle.definitions.proofs.Tests.{or_left, or_right, or_case, and_both, and_parts, some_in, some_out, both_ways}
use Rattle.definitions.proofs.Reached.{closure-smallest}

module _ (g : Flow) where
  -- for one variable, the demands say that a set of blocks is closed
  meets_closed : (i : ℕ → ℕ → Bool) → Meets g i → (k : ℕ) → k < g.variables → Closed g.blocks (λ b. g.FV b k) (passes g k) (λ b. i b k)
  unfolding outputs
  meets_closed i m k l = record {
    holds = λ b h p. m.own b k h l p;
    back = λ b t h j e p. ⊎_elim
        (λ q. let r = and_parts (names g b t) (not (g.BV b k)) q in
        m.through b k h l (some_in g.blocks t (λ t. names g b t && i t k) j (and_both _ _ r.0 p)) (not-true (g.BV b k) r.1))
        (λ q. let r = and_parts (J g b) (J g t) q in m.shared b t k h j l r.0 r.1 ∙ p)
        (or_case (names g b t && not (g.BV b k)) (J g b && J g t) e);
  }

  closed_meets : (i : ℕ → ℕ → Bool) → ((k : ℕ) → k < g.variables → Closed g.blocks (λ b. g.FV b k) (passes g k) (λ b. i b k)) → Meets g i
  unfolding outputs
  closed_meets i c = record {
    own = λ b k h l p. (c k l).holds b h p;
    through = λ b k h l o n.
        let r = some_out g.blocks (λ t. names g b t && i t k) o in
        let q = and_parts (names g b r.0) (i r.0 k) r.2 in
        (c k l).back b r.0 h r.1 (or_left _ _ (and_both (names g b r.0) (not (g.BV b k)) q.0 (rw n))) q.1;
    shared = λ b t k h j l x y. both_ways (i b k) (i t k)
        (λ p. (c k l).back t b j h (or_right (names g t b && not (g.BV t k)) _ (and_both (J g t) (J g b) y x)) p)
        (λ p. (c k l).back b t h j (or_right (names g b t && not (g.BV b k)) _ (and_both (J g b) (J g t) x y)) p);
  }

  -- the smallest set of blocks for each variable: the smallest sets of variables
  smallest_inputs : (i : ℕ → ℕ → Bool) → ((k : ℕ) → k < g.variables → Smallest g.blocks (λ b. g.FV b k) (passes g k) (λ b. i b k)) → Inputs g i
  smallest_inputs i s = record {
    meets = closed_meets i (λ k l. (s k l).closed);
    least = λ other m b k h l p. (s k l).least (λ c. other c k) (meets_closed other m k l) b h p;
  }

  pub computed : Inputs g (inputs_of g)
  unfolding inputs_of
  computed = smallest_inputs (inputs_of g) (λ k l. closure-smallest g.blocks (λ c. g.FV c k) (passes g k))

  pub only : (i j : ℕ → ℕ → Bool) → Inputs g i → Inputs g j → (b k : ℕ) → b < g.blocks → k < g.variables → i b k ≡ j b k
  only i j p q b k h l = both_ways (i b k) (j b k) (p.least j q.meets b k h l) (q.least i p.meets b k h l)

  -- all blocks of J have the inputs LC
  pub shared : (b k : ℕ) → b < g.blocks → k < g.variables → J g b ≡ true → inputs_of g b k ≡ LC g k
  shared b k h l j = computed.meets.shared b 0 k h (omega arith) l j refl

-- block 0 is one of them
pub entry_in_J : (g : Flow) → J g 0 ≡ true
entry_in_J g = refl
