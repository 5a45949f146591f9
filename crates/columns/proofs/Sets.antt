-- An environment cut down to a set of variables, and the set's columns spread out again, keep what the set holds. Assumes nothing.
use Prim.Native.Nat.{ℕ, zero, suc, ◌≤◌, ◌<◌}
use mathlib.Core.Path.{◌≡◌, refl, sym, ap, ◌∙◌}
use mathlib.Core.Bool.{Bool, true, false, cond}
use mathlib.Core.Logic.{⊎_elim}
use mathlib.Core.List.{List, [], ◌∷◌, ◌++◌}
use native.Mathlib.Omega.{arith}
use lib.ListN.{length, get_or, set, length-set, get_or-append}
use lib.Seq.{get_or-set_same, get_or-set_other, get_or_at}
use Rattle.definitions.specs.Values.{Val, unset}
use Rattle.definitions.specs.Batch.{columns_of, count_to}
use Rattle.definitions.proofs.Tests.{last_or}
use Rattle.definitions.proofs.Counts.{count-before, columns-length}
use Rattle.columns.specs.OnPlan.{kept, spread}
use Rattle.columns.specs.Alike.{Alike}

module _ (f : ℕ → Bool) where
  -- ---- what is not in the set, unset
  module _ (env : List Val) where
    pub kept-length : (v : ℕ) → length (kept v f env) ≡ length env
    unfolding kept
    kept-length zero = refl
    kept-length (suc v) = go (f v) (kept-length v)
      where
        go : (t : Bool) → length (kept v f env) ≡ length env → length (cond t (kept v f env) (set (kept v f env) v unset)) ≡ length env
        go true h = h
        go false h = length-set (kept v f env) v unset ∙ h

    kept-beyond : (v k : ℕ) → v ≤ k → get_or (kept v f env) k unset ≡ get_or env k unset
    unfolding kept
    kept-beyond zero k h = refl
    kept-beyond (suc v) k h = go (f v) (kept-beyond v k (omega arith))
      where
        go : (t : Bool) → get_or (kept v f env) k unset ≡ get_or env k unset → get_or (cond t (kept v f env) (set (kept v f env) v unset)) k unset ≡ get_or env k unset
        go true p = p
        go false p = get_or-set_other (kept v f env) v k unset unset (λ e. omega arith) ∙ p

    pub kept_at : (v k : ℕ) → k < v → v ≤ length env → get_or (kept v f env) k unset ≡ cond (f k) (get_or env k unset) unset
    unfolding kept
    kept_at zero k h l = absurd (omega arith)
    kept_at (suc v) k h l = ⊎_elim (λ e. rw e (last (f v))) (λ m. before (f v) m ∙ kept_at v k m (omega arith)) (last_or h)
      where
        last : (t : Bool) → get_or (cond t (kept v f env) (set (kept v f env) v unset)) v unset ≡ cond t (get_or env v unset) unset
        last true = kept-beyond v v (omega arith)
        last false = get_or-set_same (kept v f env) v unset unset (omega (arith, kept-length v))

        before : (t : Bool) → k < v → get_or (cond t (kept v f env) (set (kept v f env) v unset)) k unset ≡ get_or (kept v f env) k unset
        before true m = refl
        before false m = get_or-set_other (kept v f env) v k unset unset (λ e. omega arith)

  pub alike-kept : (v : ℕ) (x y : List Val) → Alike v f x y → Alike v f x (kept v f y)
  alike-kept v x y w = record {
    left = w.left;
    right = omega (arith, kept-length y v, w.right);
    same = λ k l p. w.same k l p ∙ sym (kept_at y v k l w.right ∙ rw p);
  }

  -- ---- the set's columns
  pub columns-same : (v : ℕ) (x y : List Val) → ((k : ℕ) → k < v → f k ≡ true → get_or x k unset ≡ get_or y k unset) → columns_of v f x ≡ columns_of v f y
  unfolding columns_of
  columns-same zero x y h = refl
  columns-same (suc v) x y h = rw (columns-same v x y (λ k l p. h k (omega arith) p)) (ap (λ (l : List Val). columns_of v f y ++ l) (go (f v) refl))
    where
      go : (t : Bool) → f v ≡ t → cond t (get_or x v unset ∷ []) [] ≡ cond t (get_or y v unset ∷ []) []
      go true p = rw (h v (omega arith) p)
      go false p = refl

  -- a variable's column stands after those of the variables below it
  pub columns-at : (v k : ℕ) (vars : List Val) → k < v → f k ≡ true → get_or (columns_of v f vars) (count_to k f) unset ≡ get_or vars k unset
  unfolding columns_of
  columns-at zero k vars h p = absurd (omega arith)
  columns-at (suc v) k vars h p = ⊎_elim last (λ l. get_or-append (columns_of v f vars) _ unset (count_to k f) (omega (arith, columns-length v f vars, count-before k v f l p)) ∙ columns-at v k vars l p) (last_or h)
    where
      last : k ≡ v → get_or (columns_of (suc v) f vars) (count_to k f) unset ≡ get_or vars k unset
      last e = rw (← e, p) (get_or_at (columns_of k f vars) (get_or vars k unset) [] unset (count_to k f) (columns-length k f vars))

  module _ (cols : List Val) where
    pub spread-length : (v : ℕ) → length (spread v f cols) ≡ 16
    unfolding spread
    spread-length zero = refl
    spread-length (suc v) = go (f v) _ (spread-length v)
      where
        go : (t : Bool) (z : Val) → length (spread v f cols) ≡ 16 → length (cond t (set (spread v f cols) v z) (spread v f cols)) ≡ 16
        go true z h = length-set (spread v f cols) v z ∙ h
        go false z h = h

    pub spread_at : (v k : ℕ) → v ≤ 16 → k < v → f k ≡ true → get_or (spread v f cols) k unset ≡ get_or cols (count_to k f) unset
    unfolding spread
    spread_at zero k s h p = absurd (omega arith)
    spread_at (suc v) k s h p = ⊎_elim last (λ l. before (f v) _ l ∙ spread_at v k (omega arith) l p) (last_or h)
      where
        last : k ≡ v → get_or (spread (suc v) f cols) k unset ≡ get_or cols (count_to k f) unset
        last e = rw (← e, p) (get_or-set_same (spread k f cols) k (get_or cols (count_to k f) unset) unset (omega (arith, spread-length k)))

        before : (t : Bool) (z : Val) → k < v → get_or (cond t (set (spread v f cols) v z) (spread v f cols)) k unset ≡ get_or (spread v f cols) k unset
        before true z l = get_or-set_other (spread v f cols) v k z unset (λ e. omega arith)
        before false z l = refl

  pub spread-alike : (v : ℕ) (vars : List Val) → v ≤ 16 → v ≤ length vars → Alike v f vars (spread v f (columns_of v f vars))
  spread-alike v vars s l = record {
    left = l;
    right = omega (arith, spread-length (columns_of v f vars) v);
    same = λ k h p. sym (spread_at (columns_of v f vars) v k s h p ∙ columns-at v k vars h p);
  }
