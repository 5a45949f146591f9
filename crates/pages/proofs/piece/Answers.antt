-- `pages::piece` meets its contract: what is left of the rule, or 508 bytes of it.
use Rattle.pages.proofs.Writing.{piece_cut}
use Rattle.pages.proofs.piece.Goals as goal

pub returns : goal.returns
returns c = piece_cut c.args.rule.now c.args.k c.min.result c.min.ensures
