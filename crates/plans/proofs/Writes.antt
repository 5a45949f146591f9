-- Laws of the plan's writer. Assumes nothing.
use Prim.Native.Nat.{ℕ, ◌+◌, ◌≤◌}
use mathlib.Core.Path.{◌≡◌, refl}
use mathlib.Core.Bool.{Bool, true, false, cond}
use mir.Val.{bool_byte}
use mathlib.Core.List.{List, ◌++◌}
use native.Mathlib.Omega.{arith}
use lib.ListN.{length}
use Rattle.buffers.specs.Words.{over}
use Rattle.buffers.proofs.Laws.{over-next}
use Rattle.definitions.specs.Plan.{le16}

-- a test as a number
pub as_number : (b : Bool) → bool_byte b ≡ cond b 1 0
as_number true = refl
as_number false = refl

-- four numbers, one right after the other
pub over-four : (d : List ℕ) {d₁ d₂ d₃ d₄ : List ℕ} (at a b c : ℕ) {e f : ℕ} → at + 8 ≤ length d → d₁ ≡ over d at (le16 a) → d₂ ≡ over d₁ (at + 2) (le16 b)
    → d₃ ≡ over d₂ (at + 4) (le16 c) → e ≡ f → d₄ ≡ over d₃ (at + 6) (le16 e) → d₄ ≡ over d at (le16 a ++ (le16 b ++ (le16 c ++ le16 f)))
over-four d at a b c {f = f} h e₁ e₂ e₃ ef e₄ =
    rw (e₄, e₃, e₂, e₁, ef, over-next d at (le16 a) (at + 2) (le16 b) refl (omega arith))
    (rw (over-next d at (le16 a ++ le16 b) (at + 4) (le16 c) refl (omega arith))
    (over-next d at ((le16 a ++ le16 b) ++ le16 c) (at + 6) (le16 f) refl (omega arith)))
