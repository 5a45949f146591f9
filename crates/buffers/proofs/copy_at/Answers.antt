-- `buffers::copy_at` meets its contract: one more element is copied each turn, and at the end all.
use mathlib.Core.Path.{◌∙◌}
use native.Mathlib.Omega.{arith}
use native.Mathlib.Numerals.{add-one}
use lib.Seq.{paste-zero, paste-suc}
use Rattle.buffers.proofs.Laws.{paste-all}
use Rattle.buffers.proofs.copy_at.Goals as goal

pub loop-i-init : goal.loop-i-init
loop-i-init g c = paste-zero c.args.dst.now c.args.at c.args.src.now

pub loop-i-preserved : goal.loop-i-preserved
loop-i-preserved g c =
    let a = c.args in
    rw (c.loop-i.invariant, c.index-src-i.is, add-one) (paste-suc a.dst.now a.at a.src.now c.loop-i.i c.index-src-i.result (omega arith) (omega arith))

pub returns : goal.returns
returns g c = let a = c.args in c.loop-i.invariant ∙ paste-all a.dst.now a.at a.src.now (omega arith)
