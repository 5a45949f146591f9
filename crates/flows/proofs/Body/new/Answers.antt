-- `Body::new` meets its contract.
use native.Mathlib.Omega.{arith}
use Rattle.flows.proofs.Flow.{header, few, in_reach, placed}
use Rattle.flows.proofs.Body.new.Goals as goal

pub bounds-s-3 : goal.bounds-s-3
bounds-s-3 c = header _ c.requires

pub bounds-s-1 : goal.bounds-s-1
bounds-s-1 c = omega (arith, header _ c.requires)

pub places_of-places-requires : goal.places_of-places-requires
places_of-places-requires c = few _ c.requires

pub returns : goal.returns
returns c = placed _ _ c.places_of-places.ensures

pub invariant_of-result : goal.invariant_of-result
invariant_of-result c = record { few = few _ c.requires; near = in_reach _ c.requires _ c.places_of-places.ensures }
