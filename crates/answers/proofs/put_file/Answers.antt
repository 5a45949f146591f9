-- `answers::put_file` meets its contract: the file's plan, or its refusal, then the input.
use Prim.Native.Nat.{ℕ}
use mathlib.Core.Path.{◌∙◌}
use native.Mathlib.Omega.{arith}
use lib.ListN.{length-replicate, length-take}
use Rattle.definitions.specs.Plan.{longest_plan}
use Rattle.definitions.proofs.Handed.{handed}
use Rattle.answers.proofs.Laws.{plan-fits, file-done, file-refused}
use Rattle.answers.proofs.put_file.Goals as goal

pub returns-in_err-size-clause-out_after : goal.returns-in_err-size-clause-out_after
returns-in_err-size-clause-out_after c =
    rw (handed _ _ c.from_residual.ensures) (file-refused _ c.compile.ensures (length-replicate {A = ℕ} longest_plan 0) _ c.in_err-size.was _)

pub slice_bounds-plan-end : goal.slice_bounds-plan-end
slice_bounds-plan-end c = omega (arith, plan-fits _ c.compile.ensures _ c.in_ok-size.was, length-replicate {A = ℕ} longest_plan 0)

pub slice_bounds-put_input-end : goal.slice_bounds-put_input-end
slice_bounds-put_input-end c = simp length-take (omega (arith, plan-fits _ c.compile.ensures _ c.in_ok-size.was, length-replicate {A = ℕ} longest_plan 0))

pub returns-clause-out_after : goal.returns-clause-out_after
returns-clause-out_after c =
    c.put_input.ensures.out_after ∙ file-done _ c.compile.ensures (length-replicate {A = ℕ} longest_plan 0) _ c.in_ok-size.was _
