-- `tokens::bytes_of` meets its contract: each range of tags is computed.
use native.Mathlib.Omega.{arith}
use mathlib.Core.Path.{refl}
use Rattle.evaluators.specs.Skip.{token_of}
use Rattle.evaluators.proofs.Table.{token-is}
use Rattle.evaluators.proofs.tokens.bytes_of.Goals as goal

pub returns-in-1 : goal.returns-in-1
unfolding token_of
returns-in-1 c = rw c.in-1.is

pub returns-in_default : goal.returns-in_default
unfolding token_of
returns-in_default c = token-is (λ w. w.bytes) 1 0 0x30 1 2 refl c.args.tag (omega arith) (omega arith) (λ a b. omega arith)

pub returns-in_default-2 : goal.returns-in_default-2
unfolding token_of
returns-in_default-2 c = token-is (λ w. w.bytes) 1 0x32 0x100 0 0 refl c.args.tag (omega arith) (omega arith) (λ a b. omega arith)

pub returns-in-2 : goal.returns-in-2
unfolding token_of
returns-in-2 c = rw c.in-2.is

pub returns-in-2-2 : goal.returns-in-2-2
unfolding token_of
returns-in-2-2 c = token-is (λ w. w.bytes) 2 0x30 0x32 0 0 refl c.args.tag (omega arith) (omega arith) (λ a b. omega arith)
