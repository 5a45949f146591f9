-- `tokens::items_of` meets its contract: each range of tags is computed.
use native.Mathlib.Omega.{arith}
use mathlib.Core.Path.{refl}
use borrow.Author.Rules.{rules}
use mathlib.Core.Logic.{⊎_elim, inl, inr}
use Rattle.evaluators.specs.Skip.{token_of}
use Rattle.evaluators.proofs.Table.{token-is}
use Rattle.evaluators.proofs.tokens.items_of.Goals as goal

pub returns-in-3 : goal.returns-in-3
unfolding token_of
returns-in-3 c = ⊎_elim (λ e. rw e) (λ e. rw e) c.in-3.is

pub returns-in-9 : goal.returns-in-9
unfolding token_of
returns-in-9 c = ⊎_elim (λ e. rw e) (λ e. rw e) c.in-9.is

pub returns-in-4 : goal.returns-in-4
unfolding token_of
returns-in-4 c = token-is (λ w. w.items) 2 3 9 3 3 refl c.args.tag (omega arith) (omega arith) (λ a b. search (rules, inl, inr))

pub returns-in-4-2 : goal.returns-in-4-2
unfolding token_of
returns-in-4-2 c = token-is (λ w. w.items) 2 0x10 0x15 0x12 0x12 refl c.args.tag (omega arith) (omega arith) (λ a b. search (rules, inl, inr))

pub returns-in_default : goal.returns-in_default
unfolding token_of
returns-in_default c = token-is (λ w. w.items) 0 0 3 3 3 refl c.args.tag (omega arith) (omega arith) (λ a b. omega arith)

pub returns-in_default-2 : goal.returns-in_default-2
unfolding token_of
returns-in_default-2 c = token-is (λ w. w.items) 0 9 0x10 9 9 refl c.args.tag (omega arith) (omega arith) (λ a b. search (rules, inl, inr))

pub returns-in_default-3 : goal.returns-in_default-3
unfolding token_of
returns-in_default-3 c = token-is (λ w. w.items) 0 0x15 0x100 0x33 0x33 refl c.args.tag (omega arith) (omega arith) (λ a b. search (rules, inl, inr))
