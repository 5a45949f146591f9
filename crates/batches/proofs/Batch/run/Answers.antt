-- The plan decides first: 15, or what the run under its rule comes to.
use Rattle.std.proofs.Common.{ap, sym, ◌∙◌, Err}
use Rattle.definitions.proofs.Handed.{handed, ok_or-some, ok_or-none}
use Prim.Native.Nat.{ℕ}
use lib.ListN.{length-replicate}
use Rattle.definitions.specs.Grammar.{longest}
use Rattle.plans.proofs.Carried.{accepted, refused-plan}
use Rattle.batches.proofs.Accepted.{lies}
use Rattle.batches.proofs.Replies.{ran_unplanned}
use Rattle.batches.proofs.Batch.run.Goals as goal

pub run_by-requires : goal.run_by-requires
run_by-requires c =
    let k = c.take in
    let e = ok_or-some _ _ _ (sym c.ok_or.ensures.value ∙ c.in_ok-ok_or.was) in
    record { accepted = accepted k.ensures _ e; bytes = lies k.ensures _ e (k.auto.rule ∙ length-replicate {A = ℕ} longest 0) }

pub returns-in_err-ok_or : goal.returns-in_err-ok_or
returns-in_err-ok_or c =
    let n = ok_or-none _ _ _ (sym c.ok_or.ensures.value ∙ c.in_err-ok_or.was) in
    let no = refused-plan c.take.ensures n.0 in
    rw (handed _ _ c.from_residual.ensures ∙ ap Err (n.1 ∙ c.at.ensures)) (ran_unplanned _ _ _ no.0 no.1 no.2)
