-- The proof of `readers::blocks::read_end`, which calls itself. The measure is the levels left.
-- Each return is a law of `BlockLaws.antt` at what the tag and the callees say.
use native.Mathlib.Omega.{arith}
use Rattle.std.proofs.Common.{ap, Err}
use Rattle.readers.proofs.Laws.{goes-on, ends}
use Rattle.readers.proofs.BlockLaws.{end_none, end-goes, end-if, end-bad}
use Rattle.readers.proofs.blocks.+read_end.Goals as goal

pub returns-in_err-tag : goal.returns-in_err-tag
returns-in_err-tag t c = end_none _ _ _ _ _ _ _ c.from_residual.ensures c.read_tag.ensures c.in_err-tag.was

pub returns-in-48 : goal.returns-in-48
returns-in-48 t c = end-goes _ _ _ _ _ _ _ c.read_tag.ensures c.in_ok-tag.was (omega arith) (omega arith) c.read_named.ensures

pub returns-in_err-n-in-51 : goal.returns-in_err-n-in-51
returns-in_err-n-in-51 t c = end-if _ _ _ _ _ _ _ c.read_tag.ensures c.in_ok-tag.was c.in-51.is (ends _ _ _ _ c.from_residual-in_err-n-in-51.ensures c.read_cond.ensures c.in_err-n-in-51.was)

pub returns-in_err-m-in-51 : goal.returns-in_err-m-in-51
returns-in_err-m-in-51 t c = end-if _ _ _ _ _ _ _ c.read_tag.ensures c.in_ok-tag.was c.in-51.is (goes-on _ _ _ _ c.read_cond.ensures c.in_ok-n-in-51.was (ends _ _ _ _ c.from_residual-in_err-m-in-51.ensures c.read_end.ensures c.in_err-m-in-51.was))

pub returns-in_ok-m-in-51 : goal.returns-in_ok-m-in-51
returns-in_ok-m-in-51 t c = end-if _ _ _ _ _ _ _ c.read_tag.ensures c.in_ok-tag.was c.in-51.is (goes-on _ _ _ _ c.read_cond.ensures c.in_ok-n-in-51.was (goes-on _ _ _ _ c.read_end.ensures c.in_ok-m-in-51.was c.read_end-in-51.ensures))

pub returns-in_default : goal.returns-in_default
returns-in_default t c = end-bad _ _ _ _ _ _ _ c.read_tag.ensures c.in_ok-tag.was (λ e. omega arith) (λ e. omega arith) (λ e. omega arith) (λ e. omega arith) (ap Err c.at.ensures)
