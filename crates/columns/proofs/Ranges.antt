-- Every value of a row lies in the range, if its arguments and the rule's constants do: those of every accepted rule do, as crate plans shows. Assumes nothing.
use Prim.Native.Nat.{ℕ, zero, suc, ◌+◌, ◌-◌}
use Rattle.definitions.specs.Spelling.{expr_size, cond_size}
use mathlib.Core.Path.{◌≡◌, refl}
use mathlib.Core.Bool.{Bool, true, false, cond, ◌||◌}
use mathlib.Core.List.{List, [], ◌∷◌, ◌++◌}
use lib.Dec.{eqb}
use lib.IntN.{ℤ, nat_abs}
use lib.Signed.{lt_z}
use lib.ListN.{length, get_or, set, replicate}
use Rattle.definitions.specs.Values.{Val, number, as_word, unset, Out, value, fault, also, settled, lowest, highest, negation, divided, quotient, remainder}
use Rattle.definitions.specs.declared.Flaw.{Flaw}
use Rattle.definitions.specs.declared.Kind.{Kind}
use Rattle.definitions.specs.declared.Kind.TheVariants.{ZeroDivisor, OutOfRange}
use Rattle.definitions.specs.declared.Operator.{Operator}
use Rattle.definitions.specs.declared.Operator.TheVariants.{Add, Subtract, Multiply, Divide, Remainder}
use Rattle.definitions.specs.Rule.{Expr, Const, Var, Neg, Op, Case, Rule, size}
use Rattle.definitions.specs.Meaning.{Where, further, applied, handed_up, negated, operated, eval, holds}
use Rattle.definitions.specs.Direct.{State, goes_on, Round, jumped, finished, origin, start, joined, advance_from, advance, after_from, after}
use Rattle.columns.specs.Range.{AllInRange, Bounded, worked, Constants, Ranged}
use Rattle.definitions.specs.Limits.{InRange}
use Rattle.columns.proofs.Keeping.{KeptRound, walk_kept}
use Rattle.columns.proofs.Rows.{round_of}

-- ---- what is worked out
settled-again : (z w : ℤ) → settled z ≡ value w → InRange w
unfolding settled
settled-again z w h = go (lt_z z lowest || lt_z highest z) refl h
  where
    go : (t : Bool) → (lt_z z lowest || lt_z highest z) ≡ t → cond t (fault OutOfRange) (value z) ≡ value w → settled w ≡ value w
    go true p e = cc
    go false p e =
        let same : z ≡ w = cc in
        rw (← same, p)

divided-in : (y z w : ℤ) → divided y (settled z) ≡ value w → InRange w
divided-in y z w = go (eqb (nat_abs y) 0)
  where
    go : (t : Bool) → cond t (fault ZeroDivisor) (settled z) ≡ value w → InRange w
    go true e = cc
    go false e = settled-again z w e

applied-in : (o : Operator) (x y w : ℤ) → applied o x y ≡ value w → InRange w
unfolding quotient remainder
applied-in Add x y w e = settled-again _ w e
applied-in Subtract x y w e = settled-again _ w e
applied-in Multiply x y w e = settled-again _ w e
applied-in Divide x y w e = divided-in y _ w e
applied-in Remainder x y w e = divided-in y _ w e

-- what is handed up is an operator's result
handed-in : (p : Where) (o : Out Kind ℤ) (w : Val) → ((z : ℤ) → o ≡ value z → InRange z) → handed_up p o ≡ value w → InRange (as_word w)
handed-in p (value z) w h e =
    let same : number z ≡ w = cc in
    rw (← same) (h z refl)
handed-in p (fault k) w h e = cc

negated-in : (p : Where) (x w : Val) → negated p x ≡ value w → InRange (as_word w)
negated-in p (number x) w e = handed-in p (negation x) w (λ z. settled-again _ z) e

operated-in : (p : Where) (o : Operator) (x y w : Val) → operated p o x y ≡ value w → InRange (as_word w)
operated-in p o (number x) (number y) w e = handed-in p (applied o x y) w (applied-in o x y) e

eval-in : (a : Expr) (p : Where) (env : List Val) (w : Val) → Bounded a → AllInRange env → eval a p env ≡ value w → InRange (as_word w)
unfolding eval Bounded
eval-in (Const z) p env w b h e =
    let same : number z ≡ w = cc in
    rw (← same) b
eval-in (Var k) p env w b h e =
    let same : get_or env k unset ≡ w = cc in
    rw (← same) (h k)
eval-in (Neg a) p env w b h e = go (eval a (further p 1) env) e
  where
    go : (o : Out Flaw Val) → also o (λ x. negated p x) ≡ value w → InRange (as_word w)
    go (value x) e = negated-in p x w e
    go (fault k) e = cc
eval-in (Op o a c) p env w b h e = go (eval a (further p 1) env) (eval c (further p (1 + expr_size a)) env) e
  where
    go : (m n : Out Flaw Val) → also m (λ x. also n (λ y. operated p o x y)) ≡ value w → InRange (as_word w)
    go (value x) (value y) e = operated-in p o x y w e
    go (value x) (fault k) e = cc
    go (fault k) n e = cc
eval-in (Case c a d) p env w b h e = go (holds c (further p 1) env) (eval-in a (further p (1 + cond_size c)) env w b.0 h) (eval-in d (further p (1 + cond_size c + expr_size a)) env w b.1 h) e
  where
    go : {x y : Out Flaw Val} (m : Out Flaw Bool) → (x ≡ value w → InRange (as_word w)) → (y ≡ value w → InRange (as_word w)) → also m (λ t. cond t x y) ≡ value w → InRange (as_word w)
    go (value true) f g e = f e
    go (value false) f g e = g e
    go (fault k) f g e = cc

-- ---- lists of values
in-set : (xs : List Val) (i : ℕ) (z : Val) → InRange (as_word z) → AllInRange xs → AllInRange (set xs i z)
in-set [] i z p h k = h k
in-set (x ∷ xs) zero z p h zero = p
in-set (x ∷ xs) zero z p h (suc k) = h (suc k)
in-set (x ∷ xs) (suc i) z p h zero = h zero
in-set (x ∷ xs) (suc i) z p h (suc k) = in-set xs i z p (λ k. h (suc k)) k

in-append : (xs ys : List Val) → AllInRange xs → AllInRange ys → AllInRange (xs ++ ys)
in-append [] ys h g k = g k
in-append (x ∷ xs) ys h g zero = h zero
in-append (x ∷ xs) ys h g (suc k) = in-append xs ys (λ k. h (suc k)) g k

in-none : AllInRange []
unfolding settled
in-none k = refl

in_one : (z : Val) → InRange (as_word z) → AllInRange (z ∷ [])
in_one z p zero = p
in_one z p (suc k) = in-none k

in-zeros : (n : ℕ) → AllInRange (replicate n unset)
in-zeros zero k = in-none k
in-zeros (suc n) zero = in-none zero
in-zeros (suc n) (suc k) = in-zeros n k

-- ---- a row
pub start_ranged : (r : Rule) (args : List Val) → AllInRange args → Ranged (start r args)
start_ranged r args h = record { vars-in = in-append args _ h (in-zeros (r.variables - length args)); labels_in = in-none }

module _ (r : Rule) (q : ℕ) (c : Constants r) where
  joined_ranged : (s : State) → Ranged s → (R : Round) → KeptRound AllInRange AllInRange R → Ranged (joined s R)
  joined_ranged s h (jumped t env ls) k = record { vars-in = k.0; labels_in = k.1 }
  joined_ranged s h (finished how ls) k = record { vars-in = h.vars-in; labels_in = k.1 }

  advance_ranged : (s : State) → Ranged s → Ranged (advance r q s)
  unfolding advance_from
  advance_ranged s h = go (goes_on s.finish)
    where
      go : (t : Bool) → Ranged (cond t (joined s (round_of r q s)) s)
      go true =
          joined_ranged s h (round_of r q s)
          (walk_kept q (λ x. Bounded (worked x)) AllInRange AllInRange
          (λ i a w env z o e p. in-set env i z (eval-in a w env z o e p) e)
          (λ a w env ls z o e l p n. in-append ls (z ∷ []) l (in_one z (eval-in a w env z o e p)))
          r c (size r) origin s.block s.vars s.labels h.vars-in h.labels_in)
      go false = h

  pub after_ranged : (n : ℕ) (s : State) → Ranged s → Ranged (after r q n s)
  unfolding after_from
  after_ranged zero s h = h
  after_ranged (suc n) s h = advance_ranged (after r q n s) (after_ranged n s h)
