-- `plans::take` meets its contract: what is carried is read, compiled again and compared.
use Rattle.std.proofs.Common.{sym, ◌∙◌}
use Rattle.definitions.proofs.Handed.{ok-some, ok-none}
use Rattle.readers.proofs.Laws.{told}
use Rattle.plans.proofs.Taking.{taking-refused, taken-ruled, taking-all, taking-not}
use Rattle.plans.proofs.take.Goals as goal

pub returns-in_err-ok : goal.returns-in_err-ok
returns-in_err-ok c =
    let e = ok-none _ (sym c.ok.ensures.value ∙ c.in_err-ok.was) in
    rw c.from_residual-in_err-ok.ensures (taking-refused c.extract.ensures _ c.in_ok-n.was _ (told c.read_rule.ensures e.1))

pub compiles_to-requires : goal.compiles_to-requires
compiles_to-requires c =
    taken-ruled c.extract.ensures _ c.in_ok-n.was _ (told c.read_rule.ensures (ok-some _ _ (sym c.ok.ensures.value ∙ c.in_ok-ok.was)))

pub returns-then-compiles_to : goal.returns-then-compiles_to
returns-then-compiles_to c =
    let r = told c.read_rule.ensures (ok-some _ _ (sym c.ok.ensures.value ∙ c.in_ok-ok.was)) in
    taking-all c.extract.ensures _ c.in_ok-n.was _ r c.compiles_to.ensures c.if-compiles_to.true

pub returns-else-compiles_to : goal.returns-else-compiles_to
returns-else-compiles_to c =
    let r = told c.read_rule.ensures (ok-some _ _ (sym c.ok.ensures.value ∙ c.in_ok-ok.was)) in
    taking-not c.extract.ensures _ c.in_ok-n.was _ r c.compiles_to.ensures c.if-compiles_to.false
