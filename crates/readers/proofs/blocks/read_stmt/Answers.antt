-- `readers::blocks::read_stmt` meets its contract: each return is a law of `BlockLaws.antt` at what the tag and the callees say.
use native.Mathlib.Omega.{arith}
use Rattle.std.proofs.Common.{ap, Err}
use Rattle.readers.proofs.Laws.{goes-on, ends}
use Rattle.readers.proofs.BlockLaws.{stmt_none, stmt-set, stmt-bad}
use Rattle.readers.proofs.blocks.read_stmt.Goals as goal

pub returns-in_err-tag : goal.returns-in_err-tag
returns-in_err-tag c = stmt_none _ _ _ _ _ c.from_residual.ensures c.read_tag.ensures c.in_err-tag.was

pub returns-in_ok-n-in-32 : goal.returns-in_ok-n-in-32
returns-in_ok-n-in-32 c = stmt-set _ _ _ _ _ c.read_tag.ensures c.in_ok-tag.was c.in-32.is (goes-on _ _ _ _ c.read_variable.ensures c.in_ok-n-in-32.was c.read_expr.ensures)

pub returns-in_err-n-in-32 : goal.returns-in_err-n-in-32
returns-in_err-n-in-32 c = stmt-set _ _ _ _ _ c.read_tag.ensures c.in_ok-tag.was c.in-32.is (ends _ _ _ _ c.from_residual-in_err-n-in-32.ensures c.read_variable.ensures c.in_err-n-in-32.was)

pub returns-in_default : goal.returns-in_default
returns-in_default c = stmt-bad _ _ _ _ _ c.read_tag.ensures c.in_ok-tag.was (λ e. omega arith) (λ e. omega arith) (ap Err c.at.ensures)
