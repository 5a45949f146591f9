-- What is read decides: two environments that agree on the variables that an expression, a condition or an ending reads give it one meaning. Assumes nothing.
use Prim.Native.Nat.{ℕ, ◌+◌}
use mathlib.Core.Path.{◌≡◌, refl, ap}
use mathlib.Core.Bool.{Bool, true, ◌||◌}
use mathlib.Core.List.{List}
use lib.ListN.{get_or}
use borrow.Author.Tests.{eq-eqb}
use Rattle.definitions.specs.Values.{Val, unset, value}
use Rattle.definitions.specs.Rule.{Expr, Cond, Const, Var, Neg, Op, Case, Compare, Not, Join, End, Goto, Jump, Stop, If}
use Rattle.definitions.specs.Spelling.{expr_size, cond_size, end_size}
use Rattle.definitions.specs.Meaning.{Where, further, eval, holds}
use Rattle.definitions.specs.Direct.{exit}
use Rattle.definitions.specs.Columns.{reads, looks, end_looks}
use Rattle.definitions.proofs.Tests.{or_left, or_right}

-- x and y agree on a set of variables
abbrev pub Agree : (ℕ → Bool) → List Val → List Val → Type 0
Agree A x y = (k : ℕ) → A k ≡ true → get_or x k unset ≡ get_or y k unset

module _ (A B : ℕ → Bool) (x y : List Val) (h : Agree (λ k. A k || B k) x y) where
  agree_left : Agree A x y
  agree_left k p = h k (or_left (A k) (B k) p)

  agree_right : Agree B x y
  agree_right k p = h k (or_right (A k) (B k) p)

mutual
  unfolding reads eval

  pub eval-alike : (e : Expr) (w : Where) (x y : List Val) → Agree (reads e) x y → eval e w x ≡ eval e w y
  eval-alike (Const z) w x y h = refl
  eval-alike (Var j) w x y h = ap value (h j (eq-eqb j j refl))
  eval-alike (Neg a) w x y h = rw (eval-alike a (further w 1) x y h)
  eval-alike (Op o a b) w x y h = rw (eval-alike a (further w 1) x y (agree_left (reads a) (reads b) x y h), eval-alike b (further w (1 + expr_size a)) x y (agree_right (reads a) (reads b) x y h))
  eval-alike (Case c a b) w x y h =
      let arms = agree_right (looks c) (λ k. reads a k || reads b k) x y h in
      rw (holds-alike c (further w 1) x y (agree_left (looks c) (λ k. reads a k || reads b k) x y h), eval-alike a (further w (1 + cond_size c)) x y (agree_left (reads a) (reads b) x y arms), eval-alike b (further w (1 + cond_size c + expr_size a)) x y (agree_right (reads a) (reads b) x y arms))

  pub holds-alike : (c : Cond) (w : Where) (x y : List Val) → Agree (looks c) x y → holds c w x ≡ holds c w y
  holds-alike (Compare r a b) w x y h = rw (eval-alike a (further w 1) x y (agree_left (reads a) (reads b) x y h), eval-alike b (further w (1 + expr_size a)) x y (agree_right (reads a) (reads b) x y h))
  holds-alike (Not c) w x y h = rw (holds-alike c (further w 1) x y h)
  holds-alike (Join j c d) w x y h = rw (holds-alike c (further w 1) x y (agree_left (looks c) (looks d) x y h), holds-alike d (further w (1 + cond_size c)) x y (agree_right (looks c) (looks d) x y h))

pub exit-alike : (e : End) (w : Where) (x y : List Val) → Agree (end_looks e) x y → exit e w x ≡ exit e w y
unfolding end_looks exit
exit-alike (Goto t) w x y h = refl
exit-alike (Jump t) w x y h = refl
exit-alike Stop w x y h = refl
exit-alike (If c d e) w x y h =
    let arms = agree_right (looks c) (λ k. end_looks d k || end_looks e k) x y h in
    rw (holds-alike c (further w 1) x y (agree_left (looks c) (λ k. end_looks d k || end_looks e k) x y h), exit-alike d (further w (1 + cond_size c)) x y (agree_left (end_looks d) (end_looks e) x y arms), exit-alike e (further w (1 + cond_size c + end_size d)) x y (agree_right (end_looks d) (end_looks e) x y arms))
