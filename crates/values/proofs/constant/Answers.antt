-- `values::constant` meets its contract.
use mathlib.Core.Path.{◌∙◌, ap}
use Prim.Native.Nat.{◌+◌}
use native.Mathlib.Omega.{arith}
use mir.Syntax.{w32}
use mir.Val.{SFits}
use mir.Facts.{to_z-of_z}
use Rattle.definitions.specs.Grammar.{twos}
use Rattle.values.proofs.Laws.{twos_is}
use Rattle.values.proofs.constant.Goals as goal

pub returns : goal.returns
returns c =
    let s = c.args.s.now in
    let at = c.args.at in
    let fits : SFits w32 c.from_le_bytes.result = record { sfits = c.from_le_bytes.type_inv } in
    rw (to_z-of_z fits) (c.from_le_bytes.ensures ∙ twos_is _ (omega (arith, c.type_inv.s at, c.type_inv.s (at + 1), c.type_inv.s (at + 2), c.type_inv.s (at + 3))) ∙ ap twos (omega arith))
