-- What `compile` promises: each reply exactly if its row of the table holds, and a plan that is accepted as the rule of the file, with exactly that rule's
-- columns. That it has one outcome, and what its buffer holds, is said for all three calls on files in crate rules. Assumes nothing.
use Prim.Native.Nat.{ℕ, ◌≤◌}
use mathlib.Core.Path.{◌≡◌, sym, ap, subst, ◌∙◌}
use mathlib.Core.Bool.{Bool}
use mathlib.Core.Logic.{◌↔◌}
use mathlib.Core.List.{List}
use native.Mathlib.Omega.{arith}
use lib.ListN.{length, take}
use Rattle.definitions.specs.Rule.{Rule}
use Rattle.definitions.specs.Grammar.{got, rule_of, longest}
use Rattle.definitions.specs.Columns.{flow_of, Inputs}
use Rattle.definitions.specs.Plan.{end_of, plan_of, carried, planned}
use Rattle.definitions.specs.Pages.{pages_for, unpacked}
use Rattle.definitions.specs.Calls.{to_write, to_compile, bytes_in, Wrote}
use Rattle.definitions.specs.Refusals.{Reply}
use Rattle.pages.proofs.Trip.{Bytes}
use Rattle.rules.specs.Replies.{OfFile}
use Rattle.rules.specs.Spelling.{Accepts}
use Rattle.rules.proofs.Spelling.{file-accepts}
use Rattle.readers.proofs.Accepted.{rule-in}
use Rattle.readers.proofs.Places.{through, rule_end, rule-header}
use Rattle.rules.proofs.Uncycled.{rule-parsed}
use Rattle.rules.proofs.Promises.{file-exactly, done-what, done-bytes, written-holds}
use Rattle.plans.specs.Accepted.{tree_of, rule_in, Accepted}
use Rattle.plans.specs.Promised.{rule_in_file, Carries, PlanFor}
use Rattle.plans.proofs.Fields.{plan-carries}
use Rattle.plans.proofs.Accepted.{is-plan}
use Rattle.plans.proofs.Exactly.{carries}
use Rattle.plans.proofs.Files.{rule-held, unpacked-short}
use Rattle.std.specs.Prelude.{Ok}

pub compile_exactly : (file old : List ℕ) (r : Reply) (new : List ℕ) → Wrote (to_compile file) old r new → (q : Reply) → (r ≡ q) ↔ OfFile plan_of file (length old) q
unfolding to_compile
compile_exactly file old r new w = file-exactly plan_of file old r new w

-- which files compile, said without the reader: those that hold the bytes of a tree within the limits, with room for its plan
pub compile_accepts : (file old : List ℕ) (q : Reply) (new : List ℕ) → Bytes file → Wrote (to_compile file) old q new →
    (n : ℕ) → (q ≡ Ok n) ↔ ((s : List ℕ) × (m : ℕ) × (unpacked file ≡ got s m) × Accepts plan_of s (length old) n)
unfolding to_compile
compile_accepts file old q new small w = file-accepts plan_of file old q new small w

-- ---- exactly the columns

-- the numbers of an accepted plan are exactly the columns of its rule
pub exactly-columns : (plan : List ℕ) (r : Rule) (n : ℕ) → planned plan ≡ got r n → (inputs : ℕ → ℕ → Bool) → Inputs (flow_of r) inputs → Carries plan r inputs
unfolding tree_of
exactly-columns plan r n e inputs =
    let same : rule_in plan ≡ r = ap tree_of e in
    let a : Accepted plan = record { next = n; is = e ∙ ap (λ (x : Rule). got x n) (sym same) } in
    subst (λ (x : Rule). Inputs (flow_of x) inputs → Carries plan x inputs) same (carries plan a inputs)

-- ---- from a file, and from a rule that is written first, to its plan

-- a rule's plan is accepted, and as that rule
pub compiled-accepted : (s : List ℕ) (r : Rule) (n : ℕ) → rule_of s ≡ got r n → length s ≤ longest → planned (plan_of r s) ≡ got r n
compiled-accepted s r n e h =
    let read = rule-parsed s r n e in
    let c : carried (plan_of r s) ≡ s = plan-carries (flow_of r) r s (rule-header s r n read) (rule-in s r n read).blocks_from in
    (is-plan (plan_of r s) r n).1 (record { rule = ap rule_of c ∙ e; short = omega (arith, rule_end s r n read); bytes = ap (plan_of r) c })

-- what `compile` writes is a plan for the file's own rule
pub compiled : (file old : List ℕ) (n : ℕ) (new : List ℕ) → Wrote (to_compile file) old (Ok n) new → PlanFor (rule_in_file file) (take n new)
unfolding to_compile
compiled file old n new w =
    let xs = bytes_in (to_compile file) in
    let m = end_of (to_compile file) in
    let held = through (unpacked file) _ xs m (done-what (to_compile file) old n new w) in
    let read = through (rule_of held.first) _ xs m held.then-was in
    let e : take n new ≡ plan_of read.first held.first = done-bytes (to_compile file) old n new w ∙ (let q = read.then-was in cc) in
    let accepted = ap planned e ∙ compiled-accepted held.first read.first read.place read.was (unpacked-short file held.first held.place held.was) in
    record { rule = read.first; end = read.place; is = rule-held file held.first held.place held.was ∙ read.was; accepted = accepted; carries = exactly-columns (take n new) read.first read.place accepted }

-- the file that `write` writes has the rule that s is
pub written-rule : (s old : List ℕ) (n : ℕ) (new : List ℕ) → Wrote (to_write s) old (Ok n) new → rule_in_file (take n new) ≡ rule_of s
written-rule s old n new w = rule-held (take n new) s (pages_for (length s)) (written-holds s old n new w)

-- what `compile` writes of that file is a plan for that rule
pub written-compiled :
    (s old : List ℕ) (n : ℕ) (file : List ℕ) → Wrote (to_write s) old (Ok n) file →
    (old' : List ℕ) (m : ℕ) (plan : List ℕ) → Wrote (to_compile (take n file)) old' (Ok m) plan → PlanFor (rule_of s) (take m plan)
written-compiled s old n file w old' m plan c = rw (written-rule s old n file w) at (compiled (take n file) old' m plan c)
