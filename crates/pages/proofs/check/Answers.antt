-- `pages::check` meets its contract: after i turns the sum is that of the first i words, wrapped.
use Rattle.std.proofs.Common.{refl, add-one, arith}
use Rattle.definitions.specs.Pages.{word_sum}
use Rattle.pages.proofs.Page.{check_law}
use Rattle.pages.proofs.check.Goals as goal

pub loop-i-init : goal.loop-i-init
unfolding word_sum
loop-i-init c = refl

pub loop-i-preserved : goal.loop-i-preserved
unfolding word_sum
loop-i-preserved c = rw add-one (omega arith)

pub returns : goal.returns
returns c =
    let l = c.loop-i in
    check_law c.args.p.now c.args.number l.sum l.i (omega arith) l.invariant
