-- `closure::smallest` meets its contract. The set holds the seed and lies within every closed set; a sweep that adds a number brings the measure down, how many are not held.
use Rattle.closure.proofs.Sweeps.{sweep_sound, sweep_less, sweep_done}
use Rattle.closure.proofs.smallest.Goals as goal

pub loop-smaller : goal.loop-smaller
loop-smaller c = sweep_less _ _ _ _ _ c.sweep.ensures c.loop-test.true

pub loop-preserved : goal.loop-preserved
loop-preserved c =
    let w = c.sweep.ensures in (λ b h p. w.keeps b h (c.loop.invariant.0 b h p), sweep_sound _ _ _ _ _ _ w c.loop.invariant.1)

pub returns : goal.returns
returns c = sweep_done _ _ _ _ _ _ c.sweep.ensures c.loop-test.false c.loop.invariant.0 c.loop.invariant.1
