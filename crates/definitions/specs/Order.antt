-- 02, K5: the order of evaluation, lowest first among the blocks whose goto predecessors are done; and whether a goto goes back.
-- `edge b t ≡ true` says that block b has a goto to block t.
use Rattle.std.specs.Prelude.{◌≡◌, Bool, true, false, not, cond, ◌&&◌, List, [], ◌∷◌, ◌++◌, ℕ, zero, suc, ◌<◌, eqb, length, get_or}
use Rattle.definitions.specs.Columns.{some}

-- b stands at one of the first i places of the list
abbrev pub listed : List ℕ → ℕ → ℕ → Bool
listed l i b = some i (λ j. eqb (get_or l j 0) b)

-- block b is not done, and every block with a goto to it is
pub record Free (n : ℕ) (edge : ℕ → ℕ → Bool) (done : ℕ → Bool) (b : ℕ) : Type 0 where
  pub block : b < n
  pub new : done b ≡ false
  pub ready : (c : ℕ) → c < n → edge c b ≡ true → done c ≡ true

-- and no lower block is free
pub record Next (n : ℕ) (edge : ℕ → ℕ → Bool) (done : ℕ → Bool) (b : ℕ) : Type 0 where
  pub free : Free n edge done b
  pub lowest : (c : ℕ) → c < b → Free n edge done c → ⊥

-- the order of evaluation: at each of n places stands the lowest block that is free after those before it
pub record Order (n : ℕ) (edge : ℕ → ℕ → Bool) (l : List ℕ) : Type 0 where
  pub long : length l ≡ n
  pub step : (i : ℕ) → i < n → Next n edge (listed l i) (get_or l i 0)

-- b stands at just one of the first n places
pub record Once (n : ℕ) (l : List ℕ) (b : ℕ) : Type 0 where
  pub place : ℕ
  pub below : place < n
  pub there : get_or l place 0 ≡ b
  pub only : (j : ℕ) → j < n → get_or l j 0 ≡ b → j ≡ place

-- ---- the order, computed. That without cycles it is the order, and the only one, are the theorems `order_is` and `order-only` of proofs/Orders.antt

-- the lowest number below n that passes the test, n if none does
unfoldable pub lowest_of : ℕ → (ℕ → Bool) → ℕ
lowest_of zero f = zero
lowest_of (suc n) f = cond (f 0) 0 (suc (lowest_of n (λ k. f (suc k))))

-- some block with a goto to b is not done
unfoldable pub waits : ℕ → (ℕ → ℕ → Bool) → (ℕ → Bool) → ℕ → Bool
waits n edge done b = some n (λ c. edge c b && not (done c))

unfoldable pub free : ℕ → (ℕ → ℕ → Bool) → (ℕ → Bool) → ℕ → Bool
free n edge done b = not (done b) && not (waits n edge done b)

-- the first k places
unfoldable pub order_to : ℕ → ℕ → (ℕ → ℕ → Bool) → List ℕ
order_to zero n edge = []
order_to (suc k) n edge = order_to k n edge ++ (lowest_of n (free n edge (listed (order_to k n edge) k)) ∷ [])

abbrev pub order_of : ℕ → (ℕ → ℕ → Bool) → List ℕ
order_of n edge = order_to n n edge

-- ---- gotos that go back

-- some block has a goto to a lower one
unfoldable pub goes_back : ℕ → (ℕ → ℕ → Bool) → Bool
goes_back n edge = some n (λ b. some b (λ t. edge b t))

-- 0, 1, .., n - 1
unfoldable pub up_to : ℕ → List ℕ
up_to zero = []
up_to (suc n) = up_to n ++ (n ∷ [])
