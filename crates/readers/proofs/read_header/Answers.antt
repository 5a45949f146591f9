-- `readers::read_header` meets its contract: the tests are those of the definition, in its order.
use Rattle.std.proofs.Common.{rules, ◌≡◌, true, false}
use borrow.Author.Tests.{lt-ltb, le-ltb, le-leb, lt-leb, eq-eqb, ne_eqb}
use Rattle.definitions.specs.Grammar.{read_of, headed, between, variables_in, blocks_in}
use Rattle.readers.proofs.read_header.Goals as goal

pub returns-then-s-lt4 : goal.returns-then-s-lt4
unfolding headed read_of
returns-then-s-lt4 c = simp (c.at.ensures, lt-ltb _ _ c.if-s-lt4.true)

pub returns-then-s-ne1 : goal.returns-then-s-ne1
unfolding headed read_of
returns-then-s-ne1 c =
    simp (c.at-then-s-ne1.ensures, le-ltb _ _ c.if-s-lt4.false, ne_eqb _ _ c.if-s-ne1.true)

pub returns-then-not-contains : goal.returns-then-not-contains
unfolding headed read_of
returns-then-not-contains c =
    let w : between 1 16 (variables_in c.args.s.now) ≡ false = search rules in
    simp (c.at-then-not-contains.ensures, le-ltb _ _ c.if-s-lt4.false, eq-eqb _ _ c.if-s-ne1.false, w)

pub returns-then-s : goal.returns-then-s
unfolding headed read_of
returns-then-s c =
    let w : between 1 16 (variables_in c.args.s.now) ≡ true = search rules in
    simp (c.at-then-s.ensures, le-ltb _ _ c.if-s-lt4.false, eq-eqb _ _ c.if-s-ne1.false, w, lt-leb _ _ c.if-s.true)

pub returns-then-not-contains-2 : goal.returns-then-not-contains-2
unfolding headed read_of
returns-then-not-contains-2 c =
    let w : between 1 16 (variables_in c.args.s.now) ≡ true = search rules in
    let u : between 1 64 (blocks_in c.args.s.now) ≡ false = search rules in
    simp (c.at-then-not-contains-2.ensures, le-ltb _ _ c.if-s-lt4.false, eq-eqb _ _ c.if-s-ne1.false, w, le-leb _ _ c.if-s.false, u)

pub returns : goal.returns
unfolding headed read_of
returns c =
    let w : between 1 16 (variables_in c.args.s.now) ≡ true = search rules in
    let u : between 1 64 (blocks_in c.args.s.now) ≡ true = search rules in
    simp (le-ltb _ _ c.if-s-lt4.false, eq-eqb _ _ c.if-s-ne1.false, w, le-leb _ _ c.if-s.false, u)
