-- `Tags::next` meets its contract.
use native.Mathlib.Omega.{arith}
use mathlib.Core.Path.{sym, ◌∙◌}
use Rattle.std.proofs.Common.{rules}
use Rattle.flows.proofs.Spans.{tag_width_bounds, tags-more, tags-none}
use Rattle.flows.proofs.TagsIterator.next.Goals as goal

pub returns-then-self-clause-steps : goal.returns-then-self-clause-steps
returns-then-self-clause-steps c =
    let i = c.self.inside in
    let e = sym c.self.view_is ∙ tags-none _ i.at i.to c.if-self.true in
    (e, e)

pub overflow_add-self : goal.overflow_add-self
overflow_add-self c = omega (arith, c.self.invariant, c.width_of.ensures, tag_width_bounds c.byte-tag.result)

pub returns-clause-steps : goal.returns-clause-steps
returns-clause-steps c =
    let i = c.self.inside in
    sym c.self.view_is ∙ rw (c.width_of.ensures, c.byte-tag.ensures, c.byte-x.ensures) (tags-more _ i.at i.to c.if-self.false)

pub returns-clause-goes : goal.returns-clause-goes
returns-clause-goes c = rw (returns-clause-steps c) (search rules)
