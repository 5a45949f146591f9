-- Flows that agree in what their columns depend on have the same columns. Assumes nothing.
use mathlib.Core.Path.{◌≡◌, refl, sym, ap, ap₂, subst, ◌∙◌}
use mathlib.Core.Bool.{Bool, not, ◌&&◌, ◌||◌}
use Prim.Native.Nat.{ℕ, zero, suc, ◌<◌}
use native.Mathlib.Omega.{arith}
use Rattle.definitions.specs.Columns.{Flow, some, closure, names, J, outputs, passes, inputs_of, outputs_of}
use Rattle.definitions.specs.Smallest.{Smallest}
use Rattle.definitions.specs.Plan.{mask_of}
use Rattle.definitions.proofs.Tests.{some_same}
use Rattle.definitions.proofs.Smallest.{smallest-only, alike}
use Rattle.definitions.proofs.Reached.{closure-smallest}

pub record Agree (g h : Flow) : Type 0 where
  pub blocks : h.blocks ≡ g.blocks
  pub FV : (b k : ℕ) → b < g.blocks → g.FV b k ≡ h.FV b k
  pub named : (b t : ℕ) → b < g.blocks → names g b t ≡ names h b t
  pub unset : (b t k : ℕ) → b < g.blocks → (names g b t && not (g.BV b k)) ≡ (names h b t && not (h.BV b k))
  pub joins : (b : ℕ) → b < g.blocks → J g b ≡ J h b

module _ {g h : Flow} (a : Agree g h) where
  smallest-here : (k : ℕ) → Smallest g.blocks (λ b. h.FV b k) (passes h k) (λ b. inputs_of h b k)
  unfolding inputs_of
  smallest-here k =
      subst (λ (n : ℕ). Smallest n (λ b. h.FV b k) (passes h k) (closure h.blocks (λ b. h.FV b k) (passes h k))) a.blocks
      (closure-smallest h.blocks (λ b. h.FV b k) (passes h k))

  pub same_inputs : (k b : ℕ) → b < g.blocks → inputs_of g b k ≡ inputs_of h b k
  unfolding inputs_of
  same_inputs k =
      smallest-only
      (alike (λ b l. a.FV b k l) (λ b t l m. ap₂ (λ (x y : Bool). x || y) (a.unset b t k l) (ap₂ (λ (x y : Bool). x && y) (a.joins b l) (a.joins t m)))
      (closure-smallest g.blocks (λ b. g.FV b k) (passes g k)))
      (smallest-here k)

  pub same-outputs : (k b : ℕ) → b < g.blocks → outputs_of g b k ≡ outputs_of h b k
  unfolding outputs
  same-outputs k b l =
      some_same g.blocks _ _ (λ t m. ap₂ (λ (x y : Bool). x && y) (a.named b t l) (same_inputs k t m))
      ∙ ap (λ (n : ℕ). some n (λ t. names h b t && inputs_of h t k)) (sym a.blocks)

pub mask-same : (v : ℕ) (f g : ℕ → Bool) → ((k : ℕ) → k < v → f k ≡ g k) → mask_of v f ≡ mask_of v g
unfolding mask_of
mask-same zero f g h = refl
mask-same (suc v) f g h = rw (mask-same v f g (λ k l. h k (omega arith)), h v (omega arith))
