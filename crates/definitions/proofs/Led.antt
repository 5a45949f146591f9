-- The blocks that are led to: the computed ones are those of the chains; they are closed under what endings name; every block of J is one of them, and
-- a block that is none of them has no columns. Assumes nothing.
use mathlib.Core.Path.{◌≡◌, refl}
use mathlib.Core.Bool.{Bool, true, false, ◌&&◌}
use mathlib.Core.Logic.{◌↔◌, ⊎_elim}
use mathlib.Core.List.{List, [], ◌∷◌}
use Prim.Native.Nat.{ℕ, zero, suc, ◌≤◌, ◌<◌}
use native.Mathlib.Omega.{arith}
use lib.Dec.{eqb}
use lib.ListN.{length, get_or}
use borrow.Author.Tests.{eqb-true}
use Rattle.definitions.specs.Rule.{Rule, size, block_of}
use Rattle.definitions.specs.Columns.{some, end_names, goes_to, jumps_to, LedTo, at_entry, along, led_to, flow_of, names, J, outputs, Meets, inputs_of, outputs_of}
use Rattle.definitions.proofs.Tests.{or_right, or_case, and_both, and_parts, clash, not_so, some_in, some_out, some-none, less_or}
use Rattle.definitions.proofs.Reached.{closure-smallest, closure-all}
use Rattle.definitions.proofs.Columns.{computed}

beyond : {A : Type 0} (xs : List A) (i : ℕ) (d : A) → length xs ≤ i → get_or xs i d ≡ d
beyond [] i d h = refl
beyond (x ∷ xs) zero d h = absurd (omega arith)
beyond (x ∷ xs) (suc i) d h = beyond xs i d (omega arith)

module _ (r : Rule) where
  -- only a block of the rule names another
  pub names-below : (b t : ℕ) → end_names r b t ≡ true → b < size r
  unfolding goes_to jumps_to
  names-below b t p = ⊎_elim (λ l. l) (λ h. absurd (clash p (rw (beyond r.blocks b _ h)))) (less_or b (size r))

  -- ---- the chain, and the computed set

  pub led-entry : 0 < size r → led_to r 0 ≡ true
  unfolding led_to
  led-entry l = (closure-smallest (size r) _ _).closed.holds 0 l refl

  pub led-along : (b t : ℕ) → b < size r → t < size r → led_to r b ≡ true → end_names r b t ≡ true → led_to r t ≡ true
  unfolding led_to
  led-along b t l m h p = (closure-smallest (size r) _ _).closed.back t b m l p h

  chain : (b : ℕ) → b < size r → led_to r b ≡ true → LedTo r b
  unfolding led_to
  chain = closure-all (size r) (λ b. eqb b 0) (λ t b. end_names r b t) (LedTo r) (λ b l p. rw (eqb-true b 0 p) at_entry) (λ t b m l p c. along c p)

  found : (b : ℕ) → b < size r → LedTo r b → led_to r b ≡ true
  found b l at_entry = led-entry l
  found t l (along {b} c p) = let m = names-below b t p in led-along b t m l (found b m c) p

  pub led-exactly : (b : ℕ) → b < size r → (led_to r b ≡ true) ↔ LedTo r b
  led-exactly b l = (chain b l, found b l)

  -- ---- who is led to

  pub J-led : (t : ℕ) → t < size r → J (flow_of r) t ≡ true → led_to r t ≡ true
  J-led t m j = ⊎_elim (λ p. rw (eqb-true t 0 p) (led-entry (omega arith))) by_jump (or_case (eqb t 0) _ j)
    where
      by_jump : some (size r) (λ b. (flow_of r).jumps b t) ≡ true → led_to r t ≡ true
      by_jump p =
          let o = some_out (size r) (λ b. (flow_of r).jumps b t) p in
          let q = and_parts (led_to r o.0) _ o.2 in
          led-along o.0 t o.1 m q.0 (or_right (goes_to (block_of r o.0).ending t) _ q.1)

  names-led : (b t : ℕ) → names (flow_of r) b t ≡ true → led_to r b ≡ true
  names-led b t p = ⊎_elim (λ q. (and_parts (led_to r b) _ q).0) (λ q. (and_parts (led_to r b) _ q).0) (or_case ((flow_of r).gotos b t) _ p)

  -- ---- a block that is not led to

  -- the inputs of the others alone meet the demands
  abbrev of_led : ℕ → ℕ → Bool
  of_led b k = led_to r b && inputs_of (flow_of r) b k

  led_meets : Meets (flow_of r) of_led
  unfolding outputs
  led_meets = record {
    own = λ b k l m p. and_both (led_to r b) _ (and_parts (led_to r b) _ p).0 ((computed (flow_of r)).meets.own b k l m p);
    through = λ b k l m o n.
        let s = some_out (size r) (λ t. names (flow_of r) b t && of_led t k) o in
        let q = and_parts (names (flow_of r) b s.0) _ s.2 in
        and_both (led_to r b) _ (names-led b s.0 q.0)
        ((computed (flow_of r)).meets.through b k l m
        (some_in (size r) s.0 (λ t. names (flow_of r) b t && inputs_of (flow_of r) t k) s.1 (and_both (names (flow_of r) b s.0) _ q.0 (and_parts (led_to r s.0) _ q.1).1)) n);
    shared = λ b t k l m i x y. rw (J-led b l x, J-led t m y) ((computed (flow_of r)).meets.shared b t k l m i x y);
  }

  module _ (b : ℕ) (l : b < size r) (d : led_to r b ≡ false) where
    pub dead-inputs : (k : ℕ) → k < r.variables → inputs_of (flow_of r) b k ≡ false
    dead-inputs k m = not_so _ (λ p. clash (and_parts (led_to r b) _ ((computed (flow_of r)).least of_led led_meets b k l m p)).0 d)

    pub dead-outputs : (k : ℕ) → outputs_of (flow_of r) b k ≡ false
    unfolding outputs
    dead-outputs k = some-none (size r) (λ t. names (flow_of r) b t && inputs_of (flow_of r) t k) (λ t m. rw d)

    pub dead-joins : J (flow_of r) b ≡ false
    dead-joins = not_so _ (λ j. clash (J-led b l j) d)
