-- `pages::filler_ok` meets its contract: `all` over what follows the payload, up to the check.
use Rattle.std.proofs.Common.{◌≡◌, ◌+◌, take, drop, eqb, sym, ◌∙◌, arith, length-take-le, rules, tests}
use Rattle.std.specs.List.{list_all}
use Rattle.std.proofs.lemmas.Iterator.{YieldsList-from_slice}
use Rattle.std.proofs.lemmas.Iterator.Adapters.{YieldsList-from_skip}
use Rattle.std.proofs.lemmas.Iterator.Search.{all_from_yields_List}
use Rattle.definitions.specs.Pages.{check_place}
use Rattle.pages.proofs.Reading.{zero-all}
use Rattle.pages.proofs.filler_ok.Goals as goal

pub slice_bounds-iter-end : goal.slice_bounds-iter-end
slice_bounds-iter-end c = sym (length-take-le check_place c.args.p.now (omega arith))

pub returns : goal.returns
returns c =
    let p = take check_place c.args.p.now in
    let from = c.length_in.result + 2 in
    let h : c.all.result ≡ list_all (λ b. eqb b 0) (drop from p) =
    all_from_yields_List (λ b. eqb b 0) _ _ _ c.all.ensures.ran (YieldsList-from_skip from (YieldsList-from_slice p cc) c.skip.ensures.count) (λ x b q k. search (rules, tests)) in
    rw (← c.length_in.ensures) (h ∙ zero-all (drop from p))
