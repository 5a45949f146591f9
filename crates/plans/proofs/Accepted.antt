-- When bytes are a plan: exactly if the rule that they carry is a rule, of a rule's length, and compiles to them. Assumes nothing.
use Prim.Native.Nat.{ℕ, ◌≤◌}
use mathlib.Core.Path.{◌≡◌, refl, sym, ap, ap₂, ◌∙◌}
use mathlib.Core.Bool.{Bool, true, false, cond, ◌&&◌}
use mathlib.Core.List.{List, [], ◌∷◌}
use mathlib.Core.Logic.{◌↔◌}
use native.Mathlib.Omega.{arith}
use lib.Dec.{eqb, leb}
use borrow.Author.Tests.{eqb-true, eq-eqb, leb-true, le-leb}
use Rattle.std.specs.Cmp.Lexicographic.{pointwise}
use Rattle.definitions.specs.Rule.{Rule}
use Rattle.definitions.specs.Grammar.{Got, got, refused, rule_of, longest}
use Rattle.definitions.specs.Plan.{plan_of, same, carried, as_plan, planned}
use Rattle.definitions.proofs.Tests.{and_parts, and_both}
use Rattle.definitions.specs.declared.Reason.TheVariants.{NotPlan}

-- ---- two lists of bytes
pub same_refl : (xs : List ℕ) → same xs xs ≡ true
unfolding same
same_refl [] = refl
same_refl (x ∷ xs) = and_both (eqb x x) (same xs xs) (eq-eqb x x refl) (same_refl xs)

pub same-is : (xs ys : List ℕ) → same xs ys ≡ true → xs ≡ ys
unfolding same
same-is [] [] h = refl
same-is [] (y ∷ ys) h = let z : ◌≡◌ {A = ℕ} 0 1 = cc in absurd (omega arith)
same-is (x ∷ xs) [] h = let z : ◌≡◌ {A = ℕ} 0 1 = cc in absurd (omega arith)
same-is (x ∷ xs) (y ∷ ys) h =
    let p = and_parts (eqb x y) (same xs ys) h in
    ap₂ (λ a l. a ∷ l) (eqb-true x y p.0) (same-is xs ys p.1)

-- it is what `==` tests
pub same-pointwise : (xs ys : List ℕ) → same xs ys ≡ pointwise eqb xs ys
unfolding same
same-pointwise [] [] = refl
same-pointwise [] (y ∷ ys) = refl
same-pointwise (x ∷ xs) [] = refl
same-pointwise (x ∷ xs) (y ∷ ys) = ap (λ b. eqb x y && b) (same-pointwise xs ys)

-- ---- what an accepted plan is
pub record Plan (p : List ℕ) (r : Rule) (n : ℕ) : Type 0 where
  pub rule : rule_of (carried p) ≡ got r n
  pub short : n ≤ longest
  pub bytes : plan_of r (carried p) ≡ p

module _ (p : List ℕ) (r : Rule) (n : ℕ) where
  taken : (g : Got Rule) → as_plan p g ≡ got r n → (g ≡ got r n) × (n ≤ longest) × (plan_of r (carried p) ≡ p)
  taken (got t m) h = go (leb m longest && same (plan_of t (carried p)) p) refl h
    where
      go : (b : Bool) → (leb m longest && same (plan_of t (carried p)) p) ≡ b → cond b (got t m) (refused NotPlan 0) ≡ got r n
          → (got t m ≡ got r n) × (n ≤ longest) × (plan_of r (carried p) ≡ p)
      go true e k =
          let parts = and_parts (leb m longest) (same (plan_of t (carried p)) p) e in
          let et : t ≡ r = cc in
          let em : m ≡ n = cc in
          (k, omega (arith, leb-true m longest parts.0), ap (λ (x : Rule). plan_of x (carried p)) (sym et) ∙ same-is (plan_of t (carried p)) p parts.1)
      go false e k = let z : ◌≡◌ {A = ℕ} 0 1 = cc in absurd (omega arith)
  taken (refused k at) h = let z : ◌≡◌ {A = ℕ} 0 1 = cc in absurd (omega arith)

  -- the two sides of acceptance: what the definition tests, and what a plan then is
  pub is-plan : (planned p ≡ got r n) ↔ Plan p r n
  unfolding planned
  is-plan = (λ h. let t = taken (rule_of (carried p)) h in record { rule = t.0; short = t.1; bytes = t.2 }, λ a. rw a.rule (rw (both a)))
    where
      both : Plan p r n → (leb n longest && same (plan_of r (carried p)) p) ≡ true
      both a = and_both _ _ (le-leb n longest a.short) (rw a.bytes (same_refl p))
