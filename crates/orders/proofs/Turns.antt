-- What a turn of the code's loops does. Assumes nothing.
use mathlib.Core.Path.{◌≡◌, refl, sym, ◌∙◌}
use mathlib.Core.Bool.{Bool, true, false}
use mathlib.Core.List.{List}
use mathlib.Core.Logic.{⊎_elim}
use Rattle.std.specs.Prelude.{Option, None, Some, MatchOption, IsSome}
use Rattle.std.specs.Fn.{CalledAt}
use Rattle.std.specs.Iterator.{FindsItem}
use Rattle.std.specs.declared.ops.Range.{Range}
use Rattle.std.proofs.iter.Yields.{nat_range_steps}
use Rattle.std.proofs.lemmas.Iterator.{first_from_Range}
use denote.Param.Members.{Mut}
use denote.Ref.{Bor}
use Prim.Native.Nat.{ℕ, suc, ◌+◌, ◌≤◌, ◌<◌}
use native.Mathlib.Numerals.{add-one}
use native.Mathlib.Omega.{arith}
use lib.ListN.{length, take, set, length-set}
use lib.Seq.{get_or-set_same, get_or-set_other, take-suc-set}
use Rattle.definitions.specs.Grammar.{most_blocks}
use Rattle.definitions.specs.Columns.{some, among}
use Rattle.definitions.proofs.Tests.{same_or}
use Rattle.definitions.specs.Paths.{NoCycle}
use Rattle.definitions.specs.Order.{listed, lowest_of, free, order_to}
use Rattle.definitions.proofs.Lowest.{lowest_does, lowest-only}
use Rattle.definitions.proofs.Orders.{free-same, pick, pick-below, order-next, order-here, order_other}

-- ---- the search for the lowest free block
-- what a call of `find` over 0..n answers, where the closure is f at each number and stays as it was
pub lowest-find : {F : Type 0} {g : Mut F (Bor ℕ × Unit {0}) Bool} (n : ℕ) (f : ℕ → Bool) (u : Range ℕ) (j : F) (r : Option ℕ) → FindsItem nat_range_steps g (record { start = 0; end = n }) j r u
    → ((x : ℕ) (b : Bool) (q : F) → CalledAt g j x b q → (q ≡ j) × (b ≡ f x)) → MatchOption r (lowest_of n f ≡ n) (λ b. b ≡ lowest_of n f)
lowest-find n f u j r ran h =
    by r (first_from_Range _ u j r (λ x. f x ≡ true) (λ x. f x ≡ false) ran (λ x q k. sym (h x true q k).1) (λ x q k. let p = h x false q k in (p.0, sym p.1)))
  where
    by : (o : Option ℕ) → MatchOption o ((k : ℕ) → 0 ≤ k → k < n → f k ≡ false) (λ i. (0 ≤ i) × (i < n) × (f i ≡ true) × ((k : ℕ) → 0 ≤ k → k < i → f k ≡ false))
        → MatchOption o (lowest_of n f ≡ n) (λ b. b ≡ lowest_of n f)
    by None h = lowest-only (λ j i. refl) (lowest_does n f) (record { most = omega arith; found = λ l. absurd (omega arith); none = λ k l. h k (omega arith) l })
    by (Some b) h = lowest-only (λ j i. refl) (record { most = omega (arith, h.1); found = λ l. h.2; none = λ k l. h.3 k (omega arith) l }) (lowest_does n f)

pub lowest-found : (n lowest : ℕ) (r : Option ℕ) → MatchOption r (lowest ≡ n) (λ b. b ≡ lowest) → lowest < n → IsSome r
lowest-found n lowest None e h = absurd (omega arith)
lowest-found n lowest (Some b) e h = refl

-- ---- the order, place by place
-- after i places: the array has the order's first i blocks, and they are done
pub record Sofar (n : ℕ) (edge : ℕ → ℕ → Bool) (i : ℕ) (out : List ℕ) (done : List Bool) : Type 0 where
  pub out-long : length out ≡ most_blocks
  pub done-long : length done ≡ most_blocks
  pub blocks : take i out ≡ order_to i n edge
  pub marks : (c : ℕ) → c < n → among done c ≡ listed (order_to i n edge) i c

module _ (n : ℕ) (edge : ℕ → ℕ → Bool) where
  pub sofar_none : (out : List ℕ) (done : List Bool) → length out ≡ most_blocks → length done ≡ most_blocks → ((c : ℕ) → c < n → among done c ≡ false) → Sofar n edge 0 out done
  unfolding order_to some
  sofar_none out done p q f = record { out-long = p; done-long = q; blocks = refl; marks = f }

module _ {n i : ℕ} {edge : ℕ → ℕ → Bool} {out : List ℕ} {done : List Bool} (s : Sofar n edge i out done) where
  -- one block more
  module _ {b : ℕ} (e : b ≡ lowest_of n (free n edge (among done))) where
    picked : b ≡ pick n edge i
    picked = e ∙ lowest-only (free-same n edge (among done) (listed (order_to i n edge) i) s.marks) (lowest_does n _) (lowest_does n _)

    -- there is one
    pub sofar-below : NoCycle n edge → i < n → b < n
    sofar-below z h = omega (arith, picked, pick-below n edge z i h)

    pub sofar-more : n ≤ most_blocks → NoCycle n edge → i < n → Sofar n edge (i + 1) (set out i b) (set done b true)
    sofar-more l z h = record {
      out-long = length-set out i b ∙ s.out-long;
      done-long = length-set done b true ∙ s.done-long;
      blocks = rw add-one (take-suc-set out i b (omega (arith, s.out-long)) ∙ order-next n edge i b (take i out) s.blocks picked);
      marks = rw add-one (λ c m. marked c m);
    }
      where
        marked : (c : ℕ) → c < n → among (set done b true) c ≡ listed (order_to (suc i) n edge) (suc i) c
        marked c m =
            ⊎_elim
            (λ q. rw q (get_or-set_same done b true false (omega (arith, s.done-long, sofar-below z h)) ∙ sym (rw picked (order-here n edge i))))
            (λ o. get_or-set_other done b c true false o ∙ s.marks c m ∙ sym (order_other n edge i c (λ q. o (q ∙ sym picked))))
            (same_or c b)
