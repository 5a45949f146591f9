-- `blocks::run_block` meets its contract: its parts are put together by the laws of `Passing`.
use Rattle.evaluators.proofs.Answers.{told, passed}
use Rattle.rounds.proofs.Handing.{value-of, fault-of}
use Rattle.rounds.proofs.Passing.{block-ended, block-ending, block-failed, block-left}
use Rattle.rounds.proofs.blocks.run_block.Goals as goal

pub run_end-requires : goal.run_end-requires
run_end-requires c =
    (c.requires.sized.0, block-ending _ _ _ c.requires.sized.1 _ _ _ _ _ _ _ _ (rw c.in_ok-place.was at (c.run_body.ensures c.requires.sized.1)))

pub returns-in_err-place : goal.returns-in_err-place
returns-in_err-place c = λ h.
    rw (passed _ _ c.from_residual.ensures.1) (block-ended _ _ _ h _ _ _ _ _ _ _ _ _ c.keep.ensures (rw c.in_err-place.was at (c.run_body.ensures h)))

pub returns-in_err-way : goal.returns-in_err-way
returns-in_err-way c = λ h.
    let f = fault-of _ _ _ _ c.map_err.ensures.cases c.in_err-way.was c.from_residual-in_err-way.ensures.1 in
    rw f.2 (block-failed _ _ _ h _ _ _ _ _ _ _ _ _ c.keep.ensures (rw c.in_ok-place.was at (c.run_body.ensures h)) f.0 (λ g. told f.1 (c.run_end.ensures g)))

pub returns : goal.returns
returns c = λ h.
    let l = value-of _ _ _ c.map_err.ensures.cases c.in_ok-way.was in
    block-left _ _ _ h _ _ _ _ _ _ _ _ _ c.keep.ensures (rw c.in_ok-place.was at (c.run_body.ensures h)) _ _ (λ g. told l (c.run_end.ensures g)) c.keep-2.ensures
