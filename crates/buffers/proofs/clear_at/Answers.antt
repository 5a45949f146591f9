-- `buffers::clear_at` meets its contract: the part that the library fills is n long.
use mathlib.Core.Path.{ap, ◌∙◌}
use Prim.Native.Nat.{ℕ}
use native.Mathlib.Omega.{arith}
use lib.IntN.{pos, ℤ}
use lib.ListN.{replicate, length-take, length-drop, length-replicate}
use Rattle.buffers.proofs.Laws.{over_mid}
use Rattle.buffers.proofs.clear_at.Goals as goal

pub returns : goal.returns
returns c =
    over_mid _ _ _ _ _
    (c.fill.ensures.after (λ y e. e) ∙ ap (λ (m : ℕ). replicate m (pos 0)) (omega (arith, length-take {A = ℤ}, length-drop {A = ℤ})))
    (omega (arith, length-replicate c.args.n (pos 0)))
