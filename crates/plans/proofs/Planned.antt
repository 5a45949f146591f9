-- Bytes are accepted as a plan exactly if they are the plan of an accepted rule. Assumes nothing.
use Prim.Native.Nat.{ℕ}
use native.Mathlib.Omega.{arith}
use mathlib.Core.Path.{◌≡◌, sym, ap, ◌∙◌}
use mathlib.Core.Logic.{◌↔◌}
use mathlib.Core.List.{List}
use Rattle.definitions.specs.Rule.{Rule}
use Rattle.definitions.specs.Grammar.{got}
use Rattle.definitions.specs.Plan.{carried, planned}
use Rattle.readers.proofs.Places.{rule_end}
use Rattle.rules.proofs.Uncycled.{rule-parsed}
use Rattle.plans.specs.Accepted.{PlanOf}
use Rattle.plans.proofs.Accepted.{is-plan}
use Rattle.plans.proofs.Promises.{compiled-accepted}

pub plan-exactly : (plan : List ℕ) (r : Rule) → ((n : ℕ) × (planned plan ≡ got r n)) ↔ PlanOf plan r
plan-exactly plan r = (
  λ a.
      let p = (is-plan plan r a.0).0 a.1 in
      record { bytes = carried plan; size = a.0; rule = p.rule; short = omega (arith, p.short, rule_end (carried plan) r a.0 (rule-parsed (carried plan) r a.0 p.rule)); compiled = p.bytes },
  λ p. (p.size, ap planned (sym p.compiled) ∙ compiled-accepted p.bytes r p.size p.rule p.short),
)
