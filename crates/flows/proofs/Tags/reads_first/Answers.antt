-- `Tags::reads_first` meets its contract. The loop's invariant: the tags still to come say what all say, `setting` being the flag of `reads_first`.
use Rattle.flows.proofs.Steps.{first-none, first-here, first-shielded, first_part, first-inside}
use Rattle.flows.proofs.Tags.reads_first.Goals as goal

pub returns-then-eq : goal.returns-then-eq
returns-then-eq c = first-here _ _ _ _ c.loop-tag.invariant.2 _ _ _ c.in-Some.ensures.steps _ c.eq.ensures c.if-eq.true

pub returns-then-setting : goal.returns-then-setting
returns-then-setting c =
    first-shielded _ _ _ _ c.loop-tag.invariant.2 _ _ _ c.in-Some.ensures.steps _ c.eq.ensures c.if-eq.false c.if-tag-ge-STATEMENT.true c.if-setting.true

pub loop-tag-preserved-then-tag-ge-STATEMENT : goal.loop-tag-preserved-then-tag-ge-STATEMENT
loop-tag-preserved-then-tag-ge-STATEMENT c = (
  tt,
  tt,
  first_part _ _ _ _ c.loop-tag.invariant.2 _ _ _ c.in-Some.ensures.steps _ c.eq.ensures c.if-eq.false c.if-tag-ge-STATEMENT.true c.if-setting.false _ c.eq-setting.ensures,
)

pub loop-tag-preserved : goal.loop-tag-preserved
loop-tag-preserved c = (
  tt,
  tt,
  first-inside _ _ _ _ c.loop-tag.invariant.2 _ _ _ c.in-Some.ensures.steps _ c.eq.ensures c.if-eq.false c.if-tag-ge-STATEMENT.false,
)

pub returns : goal.returns
returns c = first-none _ _ _ _ c.loop-tag.invariant.2 c.in-None.ensures.steps.0
