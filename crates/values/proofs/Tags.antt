-- The grammar reads a tag as what `specs/Tags.antt` says it names.
use mathlib.Core.Path.{◌≡◌, refl, subst}
use mathlib.Core.Bool.{Bool, true, false}
use Prim.Native.Nat.{ℕ, zero, suc, ◌+◌, ◌≤◌}
use native.Mathlib.Omega.{arith}
use lib.Dec.{eqb}
use borrow.Author.Tests.{eqb-true, eqb-false}
use Rattle.definitions.specs.Grammar.{expr_tag, op_tag, cond_tag, compare_tag, join_tag}
use Rattle.values.specs.Tags.{operator_of, relation_of, joint_of}

-- P at low, low + 1 and so on, n + 1 of them
abbrev Each : (ℕ → Type 0) → ℕ → ℕ → Type 0
Each P low zero = P low
Each P low (suc n) = P low × Each P (suc low) n

at_each : (P : ℕ → Type 0) (low n : ℕ) → Each P low n → (t : ℕ) → low ≤ t → t ≤ low + n → P t
at_each P low zero p t h h' = let e : low ≡ t = omega arith in subst P e p
at_each P low (suc n) p t h h' = go (eqb low t) refl (λ later. at_each P (suc low) n p.1 t later (omega arith))
  where
    go : (b : Bool) → eqb low t ≡ b → (suc low ≤ t → P t) → P t
    go true e rest = subst P (eqb-true low t e) p.0
    go false e rest = rest (omega (arith, eqb-false low t e))

pub operator_tag : (t : ℕ) → 4 ≤ t → t ≤ 8 → expr_tag t ≡ op_tag (operator_of t)
unfolding operator_of
operator_tag = at_each (λ t. expr_tag t ≡ op_tag (operator_of t)) 4 4 (refl, (refl, (refl, (refl, refl))))

pub relation_tag : (t : ℕ) → 16 ≤ t → t ≤ 17 → cond_tag t ≡ compare_tag (relation_of t)
unfolding relation_of
relation_tag = at_each (λ t. cond_tag t ≡ compare_tag (relation_of t)) 16 1 (refl, refl)

pub joint_tag : (t : ℕ) → 19 ≤ t → t ≤ 20 → cond_tag t ≡ join_tag (joint_of t)
unfolding joint_of
joint_tag = at_each (λ t. cond_tag t ≡ join_tag (joint_of t)) 19 1 (refl, refl)
