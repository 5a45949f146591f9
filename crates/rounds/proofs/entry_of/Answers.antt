-- `rounds::entry_of` meets its contract: an accepted plan's entries stand where the plan has them.
use mathlib.Core.Path.{refl}
use native.Mathlib.Omega.{arith}
use Rattle.plans.proofs.Carried.{head-fits}
use Rattle.rounds.proofs.Rounding.{entry-is, entry_past}
use Rattle.rounds.proofs.entry_of.Goals as goal

pub word_at-offset-requires : goal.word_at-offset-requires
word_at-offset-requires c = omega (arith, head-fits _ c.requires.0)

pub bodies_at-requires : goal.bodies_at-requires
bodies_at-requires c = omega (arith, head-fits _ c.requires.0)

pub overflow_sub-place : goal.overflow_sub-place
overflow_sub-place c = entry_past _ c.requires.0 _ c.requires.1 _ _ _ c.bodies_at.ensures refl c.word_at-offset.ensures

pub word_at-inputs-requires : goal.word_at-inputs-requires
word_at-inputs-requires c = omega (arith, head-fits _ c.requires.0)

pub word_at-outputs-requires : goal.word_at-outputs-requires
word_at-outputs-requires c = omega (arith, head-fits _ c.requires.0)

pub returns : goal.returns
returns c =
    entry-is _ c.requires.0 _ c.requires.1 _ _ _ _ _ _ c.bodies_at.ensures refl c.word_at-offset.ensures refl c.word_at-inputs.ensures c.word_at-outputs.ensures
