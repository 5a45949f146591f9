-- What statements make of environments that agree on a set of the variables below v. Assumes nothing.
use Prim.Native.Nat.{ℕ, ◌≤◌, ◌<◌}
use mathlib.Core.Path.{◌≡◌, refl, sym, ◌∙◌}
use mathlib.Core.Bool.{Bool, true, false, cond, not, ◌&&◌, ◌||◌, or_assoc, or-false}
use mathlib.Core.Logic.{◌⊎◌, inl, inr, ⊎_elim}
use mathlib.Core.List.{List, [], ◌∷◌, ◌++◌}
use native.Mathlib.Omega.{arith}
use lib.Dec.{eqb, ltb}
use lib.ListN.{length, get_or, set, length-set}
use lib.Seq.{get_or-set_same, get_or-set_other}
use borrow.Author.Tests.{eqb-true, eqb-false, eq-eqb}
use Rattle.definitions.specs.Values.{Val, unset, Out, value, fault}
use Rattle.definitions.specs.declared.Flaw.{Flaw}
use Rattle.definitions.specs.declared.Finish.{Finish}
use Rattle.definitions.specs.Rule.{Expr, Stmt, Set, Emit, End}
use Rattle.definitions.specs.Spelling.{stmt_size}
use Rattle.definitions.specs.Meaning.{Where, further, eval}
use Rattle.definitions.specs.Direct.{Way, on, ended, onward, with, step, steps}
use Rattle.definitions.specs.Columns.{reads, read_first, sets, end_looks}
use Rattle.definitions.proofs.Tests.{or_left, or_right, or_case}
use Rattle.columns.specs.Alike.{Alike}
use Rattle.columns.proofs.Reading.{Agree, eval-alike}
use Rattle.definitions.specs.declared.Finish.TheVariants.{Faulted, QuotaFull}

-- two ways through a block: both ended alike, or both go on with the same labels and such environments
pub data Ways (v : ℕ) (A : ℕ → Bool) (a b : Way) : Type 0 where
  both-on : (x y ls : List Val) → a ≡ on x ls → b ≡ on y ls → Alike v A x y → Ways v A a b
  both-ended : (how : Finish) (ls : List Val) → a ≡ ended how ls → b ≡ ended how ls → Ways v A a b

module _ (v : ℕ) where
  pub alike-less : (A B : ℕ → Bool) (x y : List Val) → ((k : ℕ) → k < v → B k ≡ true → A k ≡ true) → Alike v A x y → Alike v B x y
  alike-less A B x y h w = record { left = w.left; right = w.right; same = λ k l p. w.same k l (h k l p) }

  pub alike_self : (A : ℕ → Bool) (x : List Val) → v ≤ length x → Alike v A x x
  alike_self A x h = record { left = h; right = h; same = λ k l p. refl }

  alike_set : (A : ℕ → Bool) (x y : List Val) (i : ℕ) (z : Val) → i < v → Alike v A x y → Alike v (λ k. A k || eqb i k) (set x i z) (set y i z)
  alike_set A x y i z l w = record {
    left = omega (arith, length-set x i z, w.left);
    right = omega (arith, length-set y i z, w.right);
    same = λ k h p. go k h p (eqb i k) refl;
  }
    where
      go : (k : ℕ) → k < v → (A k || eqb i k) ≡ true → (t : Bool) → eqb i k ≡ t → get_or (set x i z) k unset ≡ get_or (set y i z) k unset
      go k h p true e = rw (← eqb-true i k e) (get_or-set_same x i z unset (omega (arith, w.left)) ∙ sym (get_or-set_same y i z unset (omega (arith, w.right))))
      go k h p false e =
          let n : k ≡ i → ⊥ = λ q. eqb-false i k e (sym q) in
          get_or-set_other x i k z unset n ∙ w.same k h (⊎_elim (λ a. a) (λ a. absurd (n (sym (eqb-true i k a)))) (or_case (A k) (eqb i k) p)) ∙ sym (get_or-set_other y i k z unset n)

  ways_onward : (A B : ℕ → Bool) (a b : Way) (f : List Val → List Val → Way) → ((x y ls : List Val) → Alike v A x y → Ways v B (f x ls) (f y ls)) → Ways v A a b → Ways v B (onward a f) (onward b f)
  ways_onward A B a b f h (both-on x y ls p q w) = rw (p, q) (h x y ls w)
  ways_onward A B a b f h (both-ended how ls p q) = both-ended how ls (rw p) (rw q)

  -- what is worked out alike is used alike
  ways_with : (A : ℕ → Bool) (o : Out Flaw Val) (ls : List Val) (f g : Val → Way) → ((z : Val) → Ways v A (f z) (g z)) → Ways v A (with o ls f) (with o ls g)
  ways_with A (value z) ls f g h = h z
  ways_with A (fault k) ls f g h = both-ended (Faulted k) ls refl refl

  ways_if : (A : ℕ → Bool) (t : Bool) (a b c d : Way) → Ways v A a b → Ways v A c d → Ways v A (cond t a c) (cond t b d)
  ways_if A true a b c d g h = g
  ways_if A false a b c d g h = h

  -- ---- one statement
  module _ (q : ℕ) (p : Where) (A : ℕ → Bool) (x y ls : List Val) (w : Alike v A x y) (a : Expr) (h : Agree (reads a) x y) where
    set-alike : (i : ℕ) → i < v → Ways v (λ k. A k || eqb i k) (step q (Set i a) p x ls) (step q (Set i a) p y ls)
    unfolding step
    set-alike i l =
        rw (eval-alike a (further p 2) x y h)
        (ways_with _ (eval a (further p 2) y) ls _ _ (λ z. both-on (set x i z) (set y i z) ls refl refl (alike_set A x y i z l w)))

    emit-alike : Ways v A (step q (Emit a) p x ls) (step q (Emit a) p y ls)
    unfolding step
    emit-alike =
        rw (eval-alike a (further p 1) x y h)
        (ways_with A (eval a (further p 1) y) ls _ _ (λ z. ways_if A (ltb (length ls) q) _ _ _ _ (both-on x y (ls ++ (z ∷ [])) refl refl w) (both-ended QuotaFull ls refl refl)))

-- ---- all statements of a block

-- the statements and the ending e keep to the variables below v, and what they read first is in A
pub record Covered (v : ℕ) (xs : List Stmt) (e : End) (A : ℕ → Bool) : Type 0 where
  pub set_below : (k : ℕ) → sets xs k ≡ true → k < v
  pub below : (k : ℕ) → read_first xs e k ≡ true → k < v
  pub known : (k : ℕ) → read_first xs e k ≡ true → A k ≡ true

module _ (v : ℕ) (e : End) where
  -- what is read after a set is that variable, or it was read first before
  after-set : (i : ℕ) (a : Expr) (xs : List Stmt) (k : ℕ) → read_first xs e k ≡ true → (read_first (Set i a ∷ xs) e k ≡ true) ⊎ (eqb i k ≡ true)
  unfolding read_first
  after-set i a xs k p = go (eqb i k) refl
    where
      go : (t : Bool) → eqb i k ≡ t → ((reads a k || (not (eqb i k) && read_first xs e k)) ≡ true) ⊎ (eqb i k ≡ true)
      go true q = inr q
      go false q = inl (rw q (or_right (reads a k) _ p))

  covered_set : (i : ℕ) (a : Expr) (xs : List Stmt) (A : ℕ → Bool) → Covered v (Set i a ∷ xs) e A → Covered v xs e (λ k. A k || eqb i k)
  unfolding sets
  covered_set i a xs A c = record {
    set_below = λ k p. c.set_below k (or_right (eqb i k) _ p);
    below = λ k p. ⊎_elim (c.below k) (λ q. c.set_below k (or_left (eqb i k) _ q)) (after-set i a xs k p);
    known = λ k p. ⊎_elim (λ q. or_left (A k) _ (c.known k q)) (λ q. or_right (A k) _ q) (after-set i a xs k p);
  }

  covered_emit : (a : Expr) (xs : List Stmt) (A : ℕ → Bool) → Covered v (Emit a ∷ xs) e A → Covered v xs e A
  unfolding sets read_first
  covered_emit a xs A c = record {
    set_below = c.set_below;
    below = λ k p. c.below k (or_right (reads a k) _ p);
    known = λ k p. c.known k (or_right (reads a k) _ p);
  }

  -- at the end all is known that the ending looks at
  covered_end : (xs : List Stmt) (A : ℕ → Bool) → Covered v xs e A → Covered v [] e (λ k. A k || sets xs k)
  unfolding sets
  covered_end [] A c = simp or-false c
  covered_end (Set i a ∷ xs) A c = simp or_assoc at (covered_end xs (λ k. A k || eqb i k) (covered_set i a xs A c))
  covered_end (Emit a ∷ xs) A c = covered_end xs A (covered_emit a xs A c)

  -- what is read first is known
  covered_agree : (xs : List Stmt) (A R : ℕ → Bool) (x y : List Val) → Covered v xs e A → ((k : ℕ) → R k ≡ true → read_first xs e k ≡ true) → Alike v A x y → Agree R x y
  covered_agree xs A R x y c h w k p = w.same k (c.below k (h k p)) (c.known k (h k p))

  pub looks-agree : (xs : List Stmt) (A : ℕ → Bool) (x y : List Val) → Covered v xs e A → Alike v (λ k. A k || sets xs k) x y → Agree (end_looks e) x y
  unfolding read_first
  looks-agree xs A x y c w = covered_agree [] (λ k. A k || sets xs k) (end_looks e) x y (covered_end xs A c) (λ k p. p) w

  pub steps_alike : (q : ℕ) (xs : List Stmt) (p : Where) (A : ℕ → Bool) (x y ls : List Val) → Covered v xs e A → Alike v A x y → Ways v (λ k. A k || sets xs k) (steps q xs p x ls) (steps q xs p y ls)
  unfolding steps sets read_first
  steps_alike q [] p A x y ls c w = both-on x y ls refl refl (simp or-false w)
  steps_alike q (Set i a ∷ xs) p A x y ls c w =
      ways_onward v (λ k. A k || eqb i k) _ _ _ _
      (λ x y ls w. simp or_assoc at (steps_alike q xs (further p (stmt_size (Set i a))) (λ k. A k || eqb i k) x y ls (covered_set i a xs A c) w))
      (set-alike v q p A x y ls w a (covered_agree (Set i a ∷ xs) A (reads a) x y c (λ k p. or_left (reads a k) _ p) w) i (c.set_below i (or_left (eqb i i) _ (eq-eqb i i refl))))
  steps_alike q (Emit a ∷ xs) p A x y ls c w =
      ways_onward v A _ _ _ _
      (λ x y ls w. steps_alike q xs (further p (stmt_size (Emit a))) A x y ls (covered_emit a xs A c) w)
      (emit-alike v q p A x y ls w a (covered_agree (Emit a ∷ xs) A (reads a) x y c (λ k p. or_left (reads a k) _ p) w))
