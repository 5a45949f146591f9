-- Outside its range no tag is an expression's, a condition's or an ending's.
use Prim.Native.Nat.{ℕ, ◌≤◌}
use native.Mathlib.Omega.{arith}
use borrow.Author.Tests.{ne_eqb}
use mathlib.Core.Path.{◌≡◌}
use Rattle.definitions.specs.Grammar.{bad_expr, expr_tag, bad_cond, cond_tag, bad_end, end_tag}

module _ (t : ℕ) where
  pub expr_bad : (1 ≤ t → t ≤ 9 → ⊥) → expr_tag t ≡ bad_expr
  expr_bad h = simp (ne_eqb t 0x01 (λ e. h (omega arith) (omega arith)), ne_eqb t 0x02 (λ e. h (omega arith) (omega arith)), ne_eqb t 0x03 (λ e. h (omega arith) (omega arith)), ne_eqb t 0x04 (λ e. h (omega arith) (omega arith)), ne_eqb t 0x05 (λ e. h (omega arith) (omega arith)), ne_eqb t 0x06 (λ e. h (omega arith) (omega arith)), ne_eqb t 0x07 (λ e. h (omega arith) (omega arith)), ne_eqb t 0x08 (λ e. h (omega arith) (omega arith)), ne_eqb t 0x09 (λ e. h (omega arith) (omega arith)))

  pub cond-bad : (0x10 ≤ t → t ≤ 0x14 → ⊥) → cond_tag t ≡ bad_cond
  cond-bad h = simp (ne_eqb t 0x10 (λ e. h (omega arith) (omega arith)), ne_eqb t 0x11 (λ e. h (omega arith) (omega arith)), ne_eqb t 0x12 (λ e. h (omega arith) (omega arith)), ne_eqb t 0x13 (λ e. h (omega arith) (omega arith)), ne_eqb t 0x14 (λ e. h (omega arith) (omega arith)))

  pub end-bad : (0x30 ≤ t → t ≤ 0x33 → ⊥) → end_tag t ≡ bad_end
  end-bad h = simp (ne_eqb t 0x30 (λ e. h (omega arith) (omega arith)), ne_eqb t 0x31 (λ e. h (omega arith) (omega arith)), ne_eqb t 0x32 (λ e. h (omega arith) (omega arith)), ne_eqb t 0x33 (λ e. h (omega arith) (omega arith)))
