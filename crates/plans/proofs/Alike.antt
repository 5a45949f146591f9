-- Two tables that say the same of the gotos between n blocks have one order, and the same gotos back. Assumes nothing.
use Prim.Native.Nat.{ℕ, ◌<◌}
use mathlib.Core.Path.{◌≡◌, sym, ◌∙◌}
use mathlib.Core.Bool.{Bool}
use mathlib.Core.List.{List}
use native.Mathlib.Omega.{arith}
use lib.ListN.{get_or}
use Rattle.definitions.specs.Columns.{some}
use Rattle.definitions.specs.Paths.{NoCycle}
use Rattle.definitions.specs.Order.{Free, Next, Order, order_of, goes_back}
use Rattle.definitions.proofs.Tests.{some_same}
use Rattle.definitions.proofs.Orders.{order_is, order-only}

module _ (n : ℕ) (edge also : ℕ → ℕ → Bool) (same : (b t : ℕ) → b < n → t < n → edge b t ≡ also b t) where
  pub same_back : goes_back n edge ≡ goes_back n also
  unfolding goes_back
  same_back = some_same n (λ b. some b (λ t. edge b t)) (λ b. some b (λ t. also b t)) (λ b h. some_same b (edge b) (also b) (λ t l. same b t h (omega arith)))

module _ (n : ℕ) (edge also : ℕ → ℕ → Bool) (same : (b t : ℕ) → b < n → t < n → edge b t ≡ also b t) where
  free_as : (done : ℕ → Bool) (b : ℕ) → Free n edge done b → Free n also done b
  free_as done b f = record { block = f.block; new = f.new; ready = λ c h e. f.ready c h (same c b h f.block ∙ e) }

module _ (n : ℕ) (edge also : ℕ → ℕ → Bool) (same : (b t : ℕ) → b < n → t < n → edge b t ≡ also b t) where
  next_as : (done : ℕ → Bool) (b : ℕ) → Next n edge done b → Next n also done b
  next_as done b s = record { free = free_as n edge also same done b s.free; lowest = λ c h f. s.lowest c h (free_as n also edge (λ b t h l. sym (same b t h l)) done c f) }

  order_as : (l : List ℕ) → Order n edge l → Order n also l
  order_as l o = record { long = o.long; step = λ i h. next_as _ (get_or l i 0) (o.step i h) }

  pub same-order : NoCycle n edge → NoCycle n also → order_of n edge ≡ order_of n also
  same-order z k = order-only n also (order_of n edge) (order_of n also) (order_as (order_of n edge) (order_is n edge z)) (order_is n also k)
