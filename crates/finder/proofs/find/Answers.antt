-- The part that lies at the place is handed back.
use Rattle.std.proofs.Common.{arith}
use Rattle.std.proofs.lemmas.Grind.{common_steps}
use Rattle.layouts.proofs.Sizes.{item_in}
use Rattle.finder.specs.Limits.{within}
use Rattle.finder.specs.Place.{place_in, line_place}
use Rattle.finder.proofs.Finds.{line-whole}
use Rattle.finder.proofs.find.Goals as goal

pub slice_bounds-result-end : goal.slice_bounds-result-end
unfolding within place_in line_place
slice_bounds-result-end c = grind (arith, common_steps, item_in)

pub slice_bounds-result-end-in-Some-InWork : goal.slice_bounds-result-end-in-Some-InWork
unfolding within place_in line_place
slice_bounds-result-end-in-Some-InWork c = grind (arith, common_steps, line-whole)
