-- `readers::read_tree` meets its contract: each return is a law of `RuleLaws.antt` at what the callees and the last test say.
use Rattle.std.proofs.Common.{ap, ◌∙◌, Err}
use Rattle.readers.proofs.RuleLaws.{rule_headless, rule-refused, rule-longer, rule-whole}
use Rattle.readers.proofs.read_tree.Goals as goal

pub returns-in_err-read_header : goal.returns-in_err-read_header
returns-in_err-read_header c = rule_headless _ _ _ c.from_residual.ensures c.read_header.ensures c.in_err-read_header.was

pub returns-in_err-n : goal.returns-in_err-n
returns-in_err-n c = rule-refused _ _ c.read_header.ensures c.in_ok-read_header.was _ _ c.from_residual-in_err-n.ensures c.read_blocks.ensures c.in_err-n.was

pub returns-then-n-s : goal.returns-then-n-s
returns-then-n-s c = ap Err c.at.ensures ∙ rule-longer _ _ c.read_header.ensures c.in_ok-read_header.was _ c.read_blocks.ensures c.in_ok-n.was c.if-n-s.true

pub returns : goal.returns
returns c = rule-whole _ _ c.read_header.ensures c.in_ok-read_header.was _ c.read_blocks.ensures c.in_ok-n.was c.if-n-s.false
