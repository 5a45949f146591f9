-- The proof of the cycle of calls {run_end, run_if}. Each return, and what each call requires, is a law of `Ending` at what the callees say.
use Rattle.std.proofs.Common.{ℕ, ◌≡◌, ◌∙◌, arith}
use Rattle.evaluators.proofs.Answers.{told, passed}
use Rattle.definitions.specs.Values.{values_in}
use Rattle.definitions.specs.Meaning.{at_byte}
use Rattle.definitions.specs.Direct.{exit}
use Rattle.rounds.specs.Run.{EndHere, leading_of}
use Rattle.rounds.proofs.Ending as laws
use Rattle.rounds.proofs.blocks.+endings.Goals as goal
use Rattle.rounds.proofs.blocks.+endings.Goals.{run_if-After-run_end, run_if-then-h, run_if-else-h}

-- ---- run_end
pub run_end-bounds-s-at : goal.run_end-bounds-s-at
run_end-bounds-s-at t c = omega (arith, laws.end-there _ _ _ _ c.requires.1, c.requires.0.1)

pub run_end-bounds-s-at-in-48 : goal.run_end-bounds-s-at-in-48
run_end-bounds-s-at-in-48 t c = omega (arith, laws.goto-there _ _ _ _ c.requires.1 c.in-48.is, c.requires.0.1)

pub run_end-bounds-s-at-in-49 : goal.run_end-bounds-s-at-in-49
run_end-bounds-s-at-in-49 t c = omega (arith, laws.jump_there _ _ _ _ c.requires.1 c.in-49.is, c.requires.0.1)

pub run_end-run_if-requires : goal.run_end-run_if-requires
run_end-run_if-requires t c =
    (omega arith, (c.requires, laws.if_tag_lem _ _ _ _ c.requires.1 (λ e. omega arith) (λ e. omega arith) (λ e. omega arith)))

pub run_end-returns-in-48 : goal.run_end-returns-in-48
run_end-returns-in-48 t c h = laws.goto-answer _ _ _ _ h _ c.in-48.is

pub run_end-returns-in-49 : goal.run_end-returns-in-49
run_end-returns-in-49 t c h = laws.jump_answer _ _ _ _ h _ c.in-49.is

pub run_end-returns-in-50 : goal.run_end-returns-in-50
run_end-returns-in-50 t c h = laws.stop_answer _ _ _ _ h _ c.in-50.is

-- ---- run_if
pub run_if-eval_cond-requires : goal.run_if-eval_cond-requires
run_if-eval_cond-requires t c = (c.requires.sized.0, laws.if-stands _ _ _ _ c.requires.sized.1 c.requires.an_if)

pub run_if-overflow_sub-left : goal.run_if-overflow_sub-left
run_if-overflow_sub-left t c = (laws.end-there _ _ _ _ c.requires.sized.1).1

pub run_if-run_end-requires : goal.run_if-run_end-requires
run_if-run_end-requires t c =
    let there = c.requires.sized.1 in
    let held = told c.eval_cond.ensures c.in_ok-h.was in (
      omega (arith, (laws.end-there _ _ _ _ there).1),
      (
        c.requires.sized.0,
        elim c.if-h.branch [
          | run_if-then-h w ↦ rw w.place-is (laws.if-first _ _ _ _ there c.requires.an_if _ _ _ held)
          | run_if-else-h w ↦ rw (w.place-is, w.skip-place.ensures) (laws.if-second _ _ _ _ there c.requires.an_if _ _ _ held)
        ],
      ),
    )

pub run_if-returns-in_err-h : goal.run_if-returns-in_err-h
run_if-returns-in_err-h t c h = passed _ _ c.from_residual.ensures.1 ∙ laws.if-fault _ _ _ _ h c.requires.an_if _ _ (told c.eval_cond.ensures c.in_err-h.was)

-- the ending that is taken leads where the whole does
taken : (t : ℕ) (c : run_if-After-run_end t) → let a = c.args in (h : EndHere a.left a.v a.s.now a.at) → c.run_end.result ≡ leading_of (exit h.ending (at_byte a.at) (values_in a.vars.now))
taken t c h =
    let held = told c.eval_cond.ensures c.in_ok-h.was in
    elim c.if-h.branch [
      | run_if-then-h w ↦ laws.if-true _ _ _ _ h c.requires.an_if _ _ _ held _ w.if-h.true (rw w.place-is at c.run_end.ensures)
      | run_if-else-h w ↦ laws.if-false _ _ _ _ h c.requires.an_if _ _ _ held _ w.if-h.false (rw (w.place-is, w.skip-place.ensures) at c.run_end.ensures)
    ]

pub run_if-returns-in_err-way : goal.run_if-returns-in_err-way
run_if-returns-in_err-way t c h =
    passed _ _ c.from_residual-in_err-way.ensures.1 ∙ told c.in_err-way.was (taken t (goal.at.run_if-returns-in_err-way t c).After-run_end h)

pub run_if-returns : goal.run_if-returns
run_if-returns t c h = told c.in_ok-way.was (taken t (goal.at.run_if-returns t c).After-run_end h)
