-- `orders::order` meets its contract. After i places the array has the order's first i blocks, and they are done.
use mathlib.Core.Path.{refl}
use mathlib.Core.Bool.{false}
use lib.ListN.{get_or-replicate}
use Rattle.std.proofs.lemmas.Option.{MatchOption-at_some}
use Rattle.definitions.specs.Grammar.{most_blocks}
use Rattle.orders.proofs.Turns.{lowest-found, sofar_none, sofar-below, sofar-more}
use native.Mathlib.Omega.{arith}
use Rattle.orders.proofs.order.Goals as goal

pub loop-i-init : goal.loop-i-init
loop-i-init c = sofar_none _ _ _ _ refl refl (λ i l. get_or-replicate most_blocks i false false (omega arith))

pub unwrap-b-requires : goal.unwrap-b-requires
unwrap-b-requires c =
    lowest-found _ _ _ c.lowest_free.ensures (sofar-below c.loop-i.invariant refl c.requires.1 c.loop-i-test.true)

pub overflow_cast-out : goal.overflow_cast-out
overflow_cast-out c =
    let is = MatchOption-at_some _ _ _ c.unwrap-b.ensures c.lowest_free.ensures in
    omega (arith, sofar-below c.loop-i.invariant is c.requires.1 c.loop-i-test.true)

pub bounds-done-b : goal.bounds-done-b
bounds-done-b c =
    let is = MatchOption-at_some _ _ _ c.unwrap-b.ensures c.lowest_free.ensures in
    omega (arith, sofar-below c.loop-i.invariant is c.requires.1 c.loop-i-test.true)

pub loop-i-preserved : goal.loop-i-preserved
loop-i-preserved c =
    let is = MatchOption-at_some _ _ _ c.unwrap-b.ensures c.lowest_free.ensures in
    sofar-more c.loop-i.invariant is c.requires.0 c.requires.1 c.loop-i-test.true
