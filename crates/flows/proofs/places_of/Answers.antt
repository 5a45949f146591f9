-- `flows::places_of` meets its contract. Up to `b` the places are written, and the blocks before `b` are read.
use Prim.Native.Nat.{ℕ}
use native.Mathlib.Omega.{arith}
use mathlib.Core.Path.{◌≡◌, refl, sym, ap, ◌∙◌}
use Rattle.definitions.specs.Grammar.{read_of, blocks_to}
use lib.ListN.{replicate}
use Rattle.readers.proofs.Laws.{told}
use Rattle.readers.proofs.RuleLaws.{blocks-next, blocks-refused}
use Rattle.readers.proofs.Places.{next_place}
use Rattle.closure.proofs.Laws.{written_none, written-set}
use Rattle.flows.proofs.places_of.Goals as goal

pub loop-b-init : goal.loop-b-init
unfolding read_of blocks_to
loop-b-init c = (refl, written-set _ _ _ 0 (replicate 65 0) _ (omega arith) (written_none _ _ _ _ refl) refl)

pub returns-in_default : goal.returns-in_default
unfolding read_of
returns-in_default c = λ bs m e b h.
    let a = c.args in
    let r = told c.read_block.ensures c.in_default.is in
    let i = c.loop-b in
    let f = blocks-refused a.n a.v a.s.now i.b _ _ (omega arith) i.invariant.0 (rw (i.invariant.1.below i.b (omega arith)) at r) in
    let q = sym f ∙ ap read_of e in
    let z : ◌≡◌ {A = ℕ} 0 1 = cc in
    absurd (omega arith)

pub loop-b-preserved : goal.loop-b-preserved
loop-b-preserved c =
    let a = c.args in
    let r = told c.read_block.ensures c.in-Ok.is in
    let i = c.loop-b in
    let f = blocks-next a.n a.v a.s.now i.b _ _ i.invariant.0 (rw (i.invariant.1.below i.b (omega arith)) at r) in
    let g = next_place _ _ f in
    (rw (← g) f, written-set _ _ _ _ _ _ (omega arith) i.invariant.1 g)
