-- Without cycles the computed order is the order of evaluation, and there is one only. Assumes nothing.
use mathlib.Core.Path.{◌≡◌, refl, sym, ap, ◌∙◌, fun_ext}
use mathlib.Core.Bool.{Bool, true, false, not, ◌&&◌, ◌||◌}
use mathlib.Core.List.{List, [], ◌∷◌, ◌++◌}
use mathlib.Core.Logic.{⊎_elim}
use Prim.Native.Nat.{ℕ, zero, suc, ◌≤◌, ◌<◌}
use native.Mathlib.Nat.{not-suc-le-zero}
use native.Mathlib.Omega.{arith}
use borrow.Author.Tests.{not-true, eq-eqb, ne_eqb}
use lib.Dec.{eqb}
use lib.ListN.{length, get_or, length-append, get_or-append}
use lib.Seq.{get_or_at, ext_get_or}
use Rattle.definitions.specs.Columns.{some}
use Rattle.definitions.specs.Batch.{count_to}
use Rattle.definitions.proofs.Tests.{clash, not_so, must_be, last_or, and_both, and_parts, some_in, some_out, some-none, some_same}
use Rattle.definitions.specs.Paths.{Step, NoCycle}
use Rattle.definitions.specs.Order.{listed, Free, Next, Order, lowest_of, waits, free, order_to, order_of}
use Rattle.definitions.proofs.Lowest.{Lowest, lowest_does, lowest-only, lowest-in, count_none, count_add, count_lacks}
use Rattle.definitions.proofs.Ranks.{Rank, depth-rank}

-- ---- lists
or_no : (x y : Bool) → y ≡ false → (x || y) ≡ x
or_no true y h = refl
or_no false y h = h

-- two lists have the same numbers at the first k places
abbrev pub Agree : ℕ → List ℕ → List ℕ → Type 0
Agree k l m = (j : ℕ) → j < k → get_or l j 0 ≡ get_or m j 0

pub listed_same : (k : ℕ) (l m : List ℕ) → Agree k l m → (c : ℕ) → listed l k c ≡ listed m k c
listed_same k l m a c = some_same k _ _ (λ j h. ap (λ x. eqb x c) (a j h))

pub listed_here : (k i c : ℕ) (l : List ℕ) → i < k → get_or l i 0 ≡ c → listed l k c ≡ true
listed_here k i c l h e = some_in k i (λ j. eqb (get_or l j 0) c) h (eq-eqb (get_or l i 0) c e)

pub listed_more : (k c : ℕ) (l : List ℕ) → listed l (suc k) c ≡ (listed l k c || eqb (get_or l k 0) c)
unfolding some
listed_more k c l = refl

pub listed-other : (k c : ℕ) (l : List ℕ) → (c ≡ get_or l k 0 → ⊥) → listed l (suc k) c ≡ listed l k c
listed-other k c l o = listed_more k c l ∙ or_no (listed l k c) _ (ne_eqb (get_or l k 0) c (λ e. o (sym e)))

module _ (n : ℕ) (edge : ℕ → ℕ → Bool) where
  -- ---- a free block, and the lowest, by their tests
  free-true : (done : ℕ → Bool) (b : ℕ) → b < n → free n edge done b ≡ true → Free n edge done b
  unfolding free waits
  free-true done b h p =
      let q = and_parts (not (done b)) (not (waits n edge done b)) p in
      record {
        block = h;
        new = not-true (done b) q.0;
        ready = λ c l e. must_be (done c) (λ f. clash (some_in n c (λ c. edge c b && not (done c)) l (and_both (edge c b) (not (done c)) e (ap not f))) (not-true (waits n edge done b) q.1));
      }

  free_test : (done : ℕ → Bool) (b : ℕ) → Free n edge done b → free n edge done b ≡ true
  unfolding free waits
  free_test done b f =
      and_both (not (done b)) (not (waits n edge done b)) (ap not f.new)
      (ap not (some-none n (λ c. edge c b && not (done c)) (λ c l. not_so (edge c b && not (done c)) (λ p.
      let q = and_parts (edge c b) (not (done c)) p in clash (f.ready c l q.0) (not-true (done c) q.1)))))

  pub free-same : (done also : ℕ → Bool) → ((c : ℕ) → c < n → done c ≡ also c) → (j : ℕ) → j < n → free n edge done j ≡ free n edge also j
  unfolding free waits
  free-same done also e j h = rw (e j h, some_same n (λ c. edge c j && not (done c)) (λ c. edge c j && not (also c)) (λ c l. rw (e c l)))

  next-is : (done : ℕ → Bool) (b : ℕ) → b < n → Lowest n (free n edge done) b → Next n edge done b
  next-is done b h l = record { free = free-true done b h (l.found h); lowest = λ c k f. clash (free_test done c f) (l.none c k) }

  next-lowest : (done : ℕ → Bool) (b : ℕ) → Next n edge done b → Lowest n (free n edge done) b
  next-lowest done b s = record {
    most = omega (arith, s.free.block);
    found = λ h. free_test done b s.free;
    none = λ j h. not_so (free n edge done j) (λ p. s.lowest j h (free-true done j (omega (arith, s.free.block)) p));
  }

  next-only : (done also : ℕ → Bool) (a b : ℕ) → ((c : ℕ) → c < n → done c ≡ also c) → Next n edge done a → Next n edge also b → a ≡ b
  next-only done also a b e p q = lowest-only (free-same done also e) (next-lowest done a p) (next-lowest also b q)

  next-alike : (done also : ℕ → Bool) (a b : ℕ) → ((c : ℕ) → done c ≡ also c) → a ≡ b → Next n edge done a → Next n edge also b
  next-alike done also a b e q p = let f : done ≡ also = fun_ext e in rw (f, q) at p

  -- ---- the first k places of an order
  abbrev pub Begun : ℕ → List ℕ → Type 0
  Begun k l = (i : ℕ) → i < k → Next n edge (listed l i) (get_or l i 0)

  begun-alike : (k : ℕ) (l m : List ℕ) → Agree k l m → Begun k l → Begun k m
  begun-alike k l m a g i h = next-alike (listed l i) (listed m i) _ _ (listed_same i l m (λ j q. a j (omega arith))) (a i h) (g i h)

  -- they are k blocks
  pub begun-count : (k : ℕ) (l : List ℕ) → Begun k l → count_to n (listed l k) ≡ k
  unfolding some
  begun-count zero l g = count_none n (listed l 0) (λ b. refl)
  begun-count (suc k) l g =
      let s = g k (omega arith) in
      count_add n (get_or l k 0) (listed l k) (listed l (suc k)) s.free.block s.free.new (listed_here (suc k) k _ l (omega arith) refl) (λ c o. listed-other k c l o)
      ∙ ap suc (begun-count k l (λ i h. g i (omega arith)))

  begun-only : (k : ℕ) (l m : List ℕ) → Begun k l → Begun k m → Agree k l m
  begun-only zero l m f g j h = absurd (not-suc-le-zero h)
  begun-only (suc k) l m f g j h =
      let a : Agree k l m = begun-only k l m (λ i q. f i (omega arith)) (λ i q. g i (omega arith)) in
      ⊎_elim
      (λ e. rw e (next-only (listed l k) (listed m k) _ _ (λ c q. listed_same k l m a c) (f k (omega arith)) (g k (omega arith))))
      (λ q. a j q)
      (last_or h)

  pub order-only : (l m : List ℕ) → Order n edge l → Order n edge m → l ≡ m
  order-only l m p q = ext_get_or 0 l m (p.long ∙ sym q.long) (λ i h. begun-only n l m p.step q.step i (omega (arith, p.long)))

  -- ---- some block is free as long as one is not done: going back from it along gotos, the rank falls
  module _ (rank : ℕ → ℕ) (r : Rank n edge rank) (done : ℕ → Bool) where
    free-found : (k b : ℕ) → b < n → rank b < k → done b ≡ false → (c : ℕ) × Free n edge done c
    unfolding free waits
    free-found zero b h l p = absurd (not-suc-le-zero l)
    free-found (suc k) b h l p = go (waits n edge done b) refl (λ c s q. free-found k c s.from (omega (arith, r.rises c b s)) q)
      where
        go : (x : Bool) → waits n edge done b ≡ x → ((c : ℕ) → Step n edge c b → done c ≡ false → (d : ℕ) × Free n edge done d) → (d : ℕ) × Free n edge done d
        go true e f =
            let w = some_out n (λ c. edge c b && not (done c)) e in
            let q = and_parts (edge w.0 b) (not (done w.0)) w.2 in
            f w.0 (record { from = w.1; to = h; goto = q.0 }) (not-true (done w.0) q.1)
        go false e f = (b, free-true done b h (and_both (not (done b)) (not (waits n edge done b)) (ap not p) (ap not e)))

  -- ---- the computed order
  -- the block at place k
  abbrev pub pick : ℕ → ℕ
  pick k = lowest_of n (free n edge (listed (order_to k n edge) k))

  pub order-length : (k : ℕ) → length (order_to k n edge) ≡ k
  unfolding order_to
  order-length zero = refl
  order-length (suc k) = length-append (order_to k n edge) (pick k ∷ []) ∙ rw (order-length k) (omega arith)

  order_last : (k : ℕ) → get_or (order_to (suc k) n edge) k 0 ≡ pick k
  unfolding order_to
  order_last k = get_or_at (order_to k n edge) (pick k) [] 0 k (order-length k)

  order_agrees : (k : ℕ) → Agree k (order_to k n edge) (order_to (suc k) n edge)
  unfolding order_to
  order_agrees k j h = sym (get_or-append (order_to k n edge) (pick k ∷ []) 0 j (omega (arith, order-length k)))

  -- the first k + 1 places: the first k, and the block at place k
  pub order-next : (k b : ℕ) (l : List ℕ) → l ≡ order_to k n edge → b ≡ pick k → l ++ (b ∷ []) ≡ order_to (suc k) n edge
  unfolding order_to
  order-next k b l p q = rw (p, q)

  -- what stands there, in the first k + 1 places
  pub order-here : (k : ℕ) → listed (order_to (suc k) n edge) (suc k) (pick k) ≡ true
  order-here k = listed_here (suc k) k (pick k) (order_to (suc k) n edge) (omega arith) (order_last k)

  pub order_other : (k c : ℕ) → (c ≡ pick k → ⊥) → listed (order_to (suc k) n edge) (suc k) c ≡ listed (order_to k n edge) k c
  order_other k c o =
      listed-other k c (order_to (suc k) n edge) (λ e. o (e ∙ order_last k))
      ∙ sym (listed_same k (order_to k n edge) (order_to (suc k) n edge) (order_agrees k) c)

  begun-below : NoCycle n edge → (k : ℕ) → k < n → Begun k (order_to k n edge) → pick k < n
  begun-below z k h g =
      let done = listed (order_to k n edge) k in
      let m = count_lacks n done (omega (arith, begun-count k (order_to k n edge) g)) in
      let f = free-found _ (depth-rank n edge z) done n m.0 m.1 ((depth-rank n edge z).below m.0 m.1) m.2 in
      lowest-in n f.0 (free n edge done) f.1.block (free_test done f.0 f.1)

  begun : NoCycle n edge → (k : ℕ) → k ≤ n → Begun k (order_to k n edge)
  begun z zero h i q = absurd (not-suc-le-zero q)
  begun z (suc k) h i q =
      let l = order_to k n edge in
      let m = order_to (suc k) n edge in
      let g : Begun k l = begun z k (omega arith) in
      let last : Next n edge (listed l k) (pick k) = next-is (listed l k) (pick k) (begun-below z k h g) (lowest_does n (free n edge (listed l k))) in
      ⊎_elim
      (λ e. rw e (next-alike (listed l k) (listed m k) _ _ (listed_same k l m (order_agrees k)) (sym (order_last k)) last))
      (λ p. begun-alike k l m (order_agrees k) g i p)
      (last_or q)

  pub pick-below : NoCycle n edge → (k : ℕ) → k < n → pick k < n
  pick-below z k h = begun-below z k h (begun z k (omega arith))

  pub order_is : NoCycle n edge → Order n edge (order_of n edge)
  order_is z = record { long = order-length n; step = begun z n (omega arith) }
