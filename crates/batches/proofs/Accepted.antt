-- What an accepted plan's bytes say of its rows' layout, and that its rule is one the run can rest on. Assumes nothing.
use mathlib.Core.Path.{◌≡◌, refl, sym, ap, ◌∙◌}
use Prim.Native.Nat.{ℕ, ◌≤◌, min}
use native.Mathlib.Omega.{arith}
use mathlib.Core.List.{List}
use lib.ListN.{length, take, get_or, length-take}
use lib.Seq.{get_or-take}
use Rattle.definitions.specs.Rule.{Rule}
use Rattle.definitions.specs.Grammar.{got, longest, most_variables}
use Rattle.definitions.specs.Columns.{flow_of, LC}
use Rattle.definitions.specs.Plan.{bit_of, carried, planned}
use Rattle.definitions.specs.Pages.{word_at}
use Rattle.definitions.specs.Batch.{count_to, line_size}
use Rattle.definitions.specs.Finder.{most_columns, most_quota}
use Rattle.definitions.specs.Calls.{columns}
use Rattle.definitions.proofs.Counts.{count_le}
use Rattle.plans.specs.Accepted.{rule_in, Accepted}
use Rattle.plans.proofs.Accepted.{is-plan}
use Rattle.plans.proofs.Proper.{proper}
use Rattle.plans.specs.Taken.{Taking}
use Rattle.rounds.specs.Round.{Lies}
use Rattle.plans.proofs.Carried.{carried-rule, carried-in, head-fits, at-variables, at-arguments, at-lc, columns-counted}
use Rattle.columns.specs.Proper.{Proper}
use Rattle.layouts.specs.Layout.{Known}
use Rattle.layouts.specs.declared.Layout.{Layout}
use Rattle.batches.specs.Tests.{LaidOut}
use Rattle.std.specs.Prelude.{Option, Some}

-- the rule of an accepted plan is proper
pub is-proper : (plan : List ℕ) (r : Rule) (n : ℕ) → planned plan ≡ got r n → Proper r
is-proper plan r n e = proper (carried plan) r n ((is-plan plan r n).0 e).rule

-- the buffer that it was taken into begins with its rule
pub lies : {plan : List ℕ} {t : Option ℕ} {buffer : List ℕ} → Taking plan t buffer → (n : ℕ) → t ≡ Some n → length buffer ≡ longest → Lies (carried plan) buffer
lies {plan} {t} {buffer} k n e h =
    let s : take n buffer ≡ carried plan = k.bytes n e in
    let l : length (carried plan) ≡ min n (length buffer) = sym (ap length s) ∙ length-take n buffer in
    (record { longer = omega arith; same = λ i m. sym (get_or-take n buffer i 0 (omega arith)) ∙ ap (λ (x : List ℕ). get_or x i 0) s }, h)

module _ {plan : List ℕ} (a : Accepted plan) where
  abbrev r : Rule
  r = rule_in plan

  pub plan-long : 6 ≤ length plan
  plan-long = omega (arith, head-fits plan a)

  pub variables-few : get_or plan 1 0 ≤ most_variables
  variables-few = omega (arith, at-variables plan a, (carried-in plan a).variables-to)

  -- what the code reads of the plan is its rows' layout
  module _ (lc place : ℕ) (el : lc ≡ word_at plan 4) (ep : place ≡ count_to (get_or plan 1 0) (bit_of lc)) where
    place_is : place ≡ columns r
    place_is = columns-counted plan a lc place el ep

    pub place-few : place ≤ most_columns
    place-few = omega (arith, place_is, count_le r.variables (LC (flow_of r)), (carried-in plan a).variables-to)

    pub laid_out : (size quota : ℕ) → size ≡ line_size place → LaidOut r quota (record { variables = get_or plan 1 0; arguments = get_or plan 2 0; lc = lc; size = size; quota = quota })
    laid_out size quota es = record {
      variables = at-variables plan a;
      arguments = at-arguments plan a;
      mask = el ∙ at-lc plan a;
      size' = es ∙ ap line_size place_is;
      quota' = refl;
    }

  module _ {l : Layout} {quota : ℕ} (k : LaidOut r quota l) where
    pub few : (l.arguments ≤ most_variables) × (l.size ≤ line_size most_columns)
    few = (omega (arith, k.arguments, (carried-in plan a).arguments-to, (carried-in plan a).variables-to), omega (arith, k.size', count_le r.variables (LC (flow_of r)), (carried-in plan a).variables-to))

    pub known : quota ≤ most_quota → Known r l
    known h = record {
      proper = proper (carried plan) r a.next (carried-rule plan a);
      blocks = (carried-in plan a).blocks_to;
      variables = k.variables;
      arguments = k.arguments;
      mask = k.mask;
      size' = k.size';
      quota = omega (arith, k.quota');
    }

-- what the reading of a plan's head rests on
pub ruleset of_head = (plan-long, variables-few, place-few)
