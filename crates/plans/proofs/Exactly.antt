-- The numbers in an accepted plan's bytes are exactly its rule's columns, for any input sets that are the smallest. Assumes nothing.
use Prim.Native.Nat.{ℕ, ◌+◌, ◌-◌, ◌/◌, ◌^◌, ◌≤◌, ◌<◌}
use mathlib.Core.Path.{◌≡◌, sym, ap, ◌∙◌}
use mathlib.Core.Bool.{Bool, ◌&&◌}
use mathlib.Core.List.{List, ◌++◌}
use native.Mathlib.Omega.{arith}
use native.Mathlib.Nat.{div-eq_of_lt}
use lib.ListN.{length, take, drop}
use lib.Seq.{drop-drop, drop-append-add, length-take-le}
use lib.Pow.{pow_mono}
use Rattle.definitions.specs.Rule.{Rule, size}
use Rattle.definitions.specs.Columns.{flow_of, names, outputs, inputs_of, Inputs}
use Rattle.definitions.specs.Plan.{mask_of, place_of, bodies_from, bodies_at, carried}
use Rattle.definitions.proofs.Tests.{some_same}
use Rattle.definitions.proofs.Columns.{computed, only, entry_in_J}
use Rattle.definitions.proofs.Masks.{mask_lt, read_back}
use Rattle.plans.specs.Accepted.{rule_in, Accepted}
use Rattle.plans.specs.Promised.{offset_in, Exactly, Carries}
use Rattle.plans.proofs.Carried.{head-fits, at-bodies, at-past, at-lc, at_offset, at-inputs, at-outputs, at-joins}

-- a mask has the bits of the set that it was made from, and of every set that is the same below v
exactly : {mask : ℕ} (v : ℕ) (f g : ℕ → Bool) → mask ≡ mask_of v f → ((k : ℕ) → k < v → f k ≡ g k) → Exactly v mask g
exactly v f g e h = rw e (record { below = λ k l. read_back v f k l ∙ h k l; above = λ k l. rw (none k l) })
  where
    none : (k : ℕ) → v ≤ k → mask_of v f / 2 ^ k ≡ 0
    none k l = let m : 2 ^ v ≤ 2 ^ k = pow_mono l in div-eq_of_lt (omega (arith, mask_lt v f))

-- what a plan carries past the header are the plan's bodies
past_head : (p : List ℕ) (x y : ℕ) → 4 ≤ length p → 4 ≤ x → y ≡ x - 4 + bodies_at p → drop y p ≡ drop x (carried p)
past_head p x y h l ey =
    let to : bodies_at p + (x - 4) ≡ y = omega arith in
    let from : length (take 4 p) + (x - 4) ≡ x = omega (arith, length-take-le 4 p h) in
    let rest : List ℕ = drop (bodies_at p) p in
    (ap (λ (m : ℕ). drop m p) (sym to) ∙ sym (drop-drop (x - 4) (bodies_at p) p) ∙ sym (drop-append-add (take 4 p) rest (x - 4)) ∙ ap (λ (m : ℕ). drop m (take 4 p ++ rest)) from)

module _ (p : List ℕ) (a : Accepted p) (inputs : ℕ → ℕ → Bool) (smallest : Inputs (flow_of (rule_in p)) inputs) where
  abbrev r : Rule
  r = rule_in p

  -- the computed sets are the smallest
  same : (b k : ℕ) → b < size r → k < r.variables → inputs_of (flow_of r) b k ≡ inputs b k
  same = only (flow_of r) (inputs_of (flow_of r)) inputs (computed (flow_of r)) smallest

  same-outputs : (b k : ℕ) → k < r.variables → outputs (flow_of r) (inputs_of (flow_of r)) b k ≡ outputs (flow_of r) inputs b k
  unfolding outputs
  same-outputs b k l = some_same (size r) _ _ (λ t h. ap (λ (x : Bool). names (flow_of r) b t && x) (same t k h l))

  offset : (b : ℕ) → b < size r → offset_in p b ≡ place_of r (carried p) b - 4 + bodies_from r
  offset b h = at_offset p a b h ∙ omega (arith, at-bodies p a)

  pub carries : Carries p r inputs
  carries = record {
    lc = λ b h j. exactly r.variables _ (inputs b) (at-lc p a) (λ k l. same 0 k (omega arith) l ∙ smallest.meets.shared 0 b k (omega arith) h l (entry_in_J (flow_of r)) j);
    offset = offset;
    body = λ b h. past_head p (place_of r (carried p) b) _ (omega (arith, head-fits p a)) (at-past p a b h) (at_offset p a b h);
    input = λ b h. exactly r.variables _ (inputs b) (at-inputs p a b h) (λ k l. same b k h l);
    output = λ b h. exactly r.variables _ (outputs (flow_of r) inputs b) (at-outputs p a b h) (λ k l. same-outputs b k l);
    joins = at-joins p a;
  }
