-- `values::constants` meets its contract: one more word holds its constant.
use Rattle.std.proofs.Common.{refl, ◌∙◌, arith}
use native.Mathlib.Numerals.{add-one}
use lib.Seq.{take-suc-set}
use mir.Syntax.{w32}
use mir.Facts.{to_z-of_z}
use Rattle.values.specs.Words.{constants_in}
use Rattle.values.proofs.constants.Goals as goal

pub loop-i-init : goal.loop-i-init
unfolding constants_in
loop-i-init c = refl

pub loop-i-preserved : goal.loop-i-preserved
unfolding constants_in
loop-i-preserved c =
    let l = c.loop-i in
    let x = to_z-of_z {w = w32} (record { sfits = c.constant.type_inv }) ∙ c.constant.ensures in
    rw add-one (take-suc-set l.words l.i _ (omega arith) ∙ rw (x, l.invariant) refl)
