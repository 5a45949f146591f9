-- What an order of evaluation gives: each block once, gotos that lead on, a rank, and the plain order where every goto rises. Assumes nothing.
use mathlib.Core.Path.{◌≡◌, refl, sym, ◌∙◌}
use mathlib.Core.Bool.{Bool, true, false}
use mathlib.Core.List.{List, [], ◌∷◌}
use mathlib.Core.Logic.{⊎_elim}
use Prim.Native.Nat.{ℕ, zero, suc, ◌≤◌, ◌<◌}
use native.Mathlib.Nat.{not-suc-le-zero}
use native.Mathlib.Omega.{arith}
use borrow.Author.Tests.{eqb-true, eq-eqb, ne_eqb}
use lib.Dec.{eqb}
use lib.ListN.{length, get_or, length-append, get_or-append}
use lib.Seq.{get_or_at}
use Rattle.definitions.specs.Columns.{some}
use Rattle.definitions.specs.Batch.{count_to}
use Rattle.definitions.proofs.Tests.{clash, not_so, less_or, neither-less, last_or, some_in, some_out, some-none}
use Rattle.definitions.proofs.Counts.{count-full}
use Rattle.definitions.specs.Paths.{Step, GotoPath, one, NoCycle, visits}
use Rattle.definitions.specs.Order.{listed, Next, Order, order_of, lowest_of, goes_back, up_to, Once}
use Rattle.definitions.proofs.Lowest.{lowest_does, lowest-in}
use Rattle.definitions.proofs.Ranks.{Rank, rank-no-cycle, path-short}
use Rattle.definitions.proofs.Orders.{listed_here, begun-count, order-only, order_is}

-- a block's place in a list
abbrev pub place_in : List ℕ → ℕ → ℕ → ℕ
place_in l n b = lowest_of n (λ i. eqb (get_or l i 0) b)

-- every goto leads to a higher number
abbrev pub Rises : ℕ → (ℕ → ℕ → Bool) → Type 0
Rises n edge = (b t : ℕ) → Step n edge b t → b < t

module _ (n : ℕ) (edge : ℕ → ℕ → Bool) where
  module _ (l : List ℕ) (o : Order n edge l) where
    -- ---- each block stands at one place
    not-twice : (i j : ℕ) → i < j → j < n → get_or l i 0 ≡ get_or l j 0 → ⊥
    not-twice i j h k e = clash (listed_here j i (get_or l j 0) l h e) (o.step j k).free.new

    same_place : (i j : ℕ) → i < n → j < n → get_or l i 0 ≡ get_or l j 0 → i ≡ j
    same_place i j h k e = neither-less i j (λ p. not-twice i j p k e) (λ p. not-twice j i p h (sym e))

    pub order-once : (b : ℕ) → b < n → Once n l b
    order-once b h =
        let f : n ≤ count_to n (listed l n) = omega (arith, begun-count n edge n l o.step) in
        let r = some_out n (λ j. eqb (get_or l j 0) b) (count-full n (listed l n) f b h) in
        let e = eqb-true (get_or l r.0 0) b r.2 in
        record { place = r.0; below = r.1; there = e; only = λ j k q. same_place j r.0 k r.1 (q ∙ sym e) }

    -- ---- a goto leads from a place to a later one
    pub order-ahead : (i j : ℕ) → i < n → j < n → edge (get_or l i 0) (get_or l j 0) ≡ true → i < j
    order-ahead i j h k e =
        let r = some_out j (λ m. eqb (get_or l m 0) (get_or l i 0)) ((o.step j k).free.ready (get_or l i 0) (o.step i h).free.block e) in
        let q = same_place r.0 i (omega (arith, r.1)) h (eqb-true _ _ r.2) in
        omega (arith, r.1)

    -- ---- the place is a rank
    place-below : (b : ℕ) → b < n → place_in l n b < n
    place-below b h = let s = order-once b h in lowest-in n s.place (λ i. eqb (get_or l i 0) b) s.below (eq-eqb _ b s.there)

    pub place-there : (b : ℕ) → b < n → get_or l (place_in l n b) 0 ≡ b
    place-there b h = eqb-true _ b ((lowest_does n (λ i. eqb (get_or l i 0) b)).found (place-below b h))

    pub order-rank : Rank n edge (place_in l n)
    order-rank = record {
      below = place-below;
      rises = λ b t s. order-ahead (place_in l n b) (place_in l n t) (place-below b s.from) (place-below t s.to) (rw (place-there b s.from, place-there t s.to) s.goto);
    }

    -- an order shows that there is no cycle, and that no path visits more than n blocks
    pub order-no-cycle : NoCycle n edge
    order-no-cycle = rank-no-cycle n edge (place_in l n) order-rank

    pub order-short : {b t : ℕ} (p : GotoPath n edge b t) → visits p ≤ n
    order-short p = path-short n edge (place_in l n) order-rank p

  -- ---- where every goto rises
  pub rises_no_cycle : Rises n edge → NoCycle n edge
  rises_no_cycle r = rank-no-cycle n edge (λ b. b) (record { below = λ b h. h; rises = r })

up_to-length : (n : ℕ) → length (up_to n) ≡ n
unfolding up_to
up_to-length zero = refl
up_to-length (suc n) = length-append (up_to n) (n ∷ []) ∙ rw (up_to-length n) (omega arith)

pub up_to-at : (n i : ℕ) → i < n → get_or (up_to n) i 0 ≡ i
unfolding up_to
up_to-at zero i h = absurd (not-suc-le-zero h)
up_to-at (suc n) i h =
    ⊎_elim
    (λ e. rw e (get_or_at (up_to n) n [] 0 n (up_to-length n)))
    (λ k. get_or-append (up_to n) (n ∷ []) 0 i (omega (arith, up_to-length n)) ∙ up_to-at n i k)
    (last_or h)

module _ (n : ℕ) (edge : ℕ → ℕ → Bool) where
  up_to-order : Rises n edge → Order n edge (up_to n)
  up_to-order r = record { long = up_to-length n; step = λ i h. rw (up_to-at n i h) (next i h) }
    where
      below : (i c : ℕ) → i < n → c < i → listed (up_to n) i c ≡ true
      below i c h k = listed_here i c c (up_to n) k (up_to-at n c (omega arith))

      next : (i : ℕ) → i < n → Next n edge (listed (up_to n) i) i
      next i h = record {
        free = record {
          block = h;
          new = some-none i (λ j. eqb (get_or (up_to n) j 0) i) (λ j k. ne_eqb _ i (λ e. omega (arith, up_to-at n j (omega arith))));
          ready = λ c k e. below i c h (r c i (record { from = k; to = h; goto = e }));
        };
        lowest = λ c k f. clash (below i c h k) f.new;
      }

  -- the blocks are evaluated in the order of their numbers
  pub rises-order : Rises n edge → order_of n edge ≡ up_to n
  rises-order r = order-only n edge _ _ (order_is n edge (rises_no_cycle n edge r)) (up_to-order r)

  -- ---- where some goto goes back
  pub goes_back_lem : goes_back n edge ≡ true → (b t : ℕ) × Step n edge b t × (t < b)
  unfolding goes_back
  goes_back_lem e =
      let r = some_out n (λ b. some b (λ t. edge b t)) e in
      let s = some_out r.0 (λ t. edge r.0 t) r.2 in
      (r.0, s.0, record { from = r.1; to = omega (arith, r.1, s.1); goto = s.2 }, s.1)

  pub none-back : goes_back n edge ≡ false → (b t : ℕ) → Step n edge b t → b ≤ t
  unfolding goes_back
  none-back e b t s =
      ⊎_elim
      (λ h. absurd (clash (some_in n b (λ b. some b (λ t. edge b t)) s.from (some_in b t (λ t. edge b t) h s.goto)) e))
      (λ h. h)
      (less_or t b)

  -- no goto back and none to its own block: no cycle
  pub only_up : goes_back n edge ≡ false → some n (λ b. edge b b) ≡ false → NoCycle n edge
  only_up e k =
      rises_no_cycle n edge (λ b t s.
      ⊎_elim (λ h. h) (λ h. let q : t ≡ b = omega (arith, none-back e b t s) in absurd (clash (some_in n b (λ b. edge b b) s.from (rw q at s.goto)) k)) (less_or b t))

  -- without cycles and with no goto back, every goto rises: such a rule keeps the order of its numbers
  pub none_back_rises : NoCycle n edge → goes_back n edge ≡ false → Rises n edge
  none_back_rises z e b t s =
      ⊎_elim (λ h. h) (λ h. let q : t ≡ b = omega (arith, none-back e b t s) in absurd (z b (rw q at (one s)))) (less_or b t)

  pub none_back_order : NoCycle n edge → goes_back n edge ≡ false → order_of n edge ≡ up_to n
  none_back_order z e = rises-order (none_back_rises z e)

  -- and only such a rule
  pub plain-rises : NoCycle n edge → order_of n edge ≡ up_to n → Rises n edge
  plain-rises z e b t s =
      order-ahead n edge (up_to n) (rw e at (order_is n edge z)) b t s.from s.to (rw (up_to-at n b s.from, up_to-at n t s.to) s.goto)

  pub rises_none_back : Rises n edge → goes_back n edge ≡ false
  rises_none_back r = not_so (goes_back n edge) (λ p. let w = goes_back_lem p in omega (arith, r w.0 w.1 w.2, w.3))
