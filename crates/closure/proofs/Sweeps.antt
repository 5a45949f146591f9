-- What a turn of a sweep does, and that a sweep which adds nothing has found the smallest closed set. Assumes nothing.
use mathlib.Core.Path.{◌≡◌, sym, ◌∙◌}
use mathlib.Core.Bool.{Bool, true, false, ◌&&◌, false≢true}
use mathlib.Core.Logic.{◌⊎◌, ⊎_elim}
use Prim.Native.Nat.{ℕ, ◌-◌, ◌≤◌, ◌<◌}
use native.Mathlib.Omega.{arith}
use Rattle.definitions.specs.Columns.{some, grown}
use Rattle.definitions.specs.Batch.{count_to}
use Rattle.definitions.proofs.Tests.{clash, less_or, same_or, and_both, and_parts, some_in, some_out}
use Rattle.definitions.specs.Smallest.{Within, Closed, Smallest}
use Rattle.definitions.proofs.Counts.{count_le, count_mono, count_less}
use Rattle.definitions.proofs.Reached.{grown_case, grown_mono, still_closed}
use Rattle.closure.specs.Sweep.{Sweep}

module _ (n : ℕ) (edge : ℕ → ℕ → Bool) (old : ℕ → Bool) where
  -- nothing is to be added at b - 1: it is there, or no edge goes from it into the set
  pub sweep_stay : (b : ℕ) (new : ℕ → Bool) (more : Bool) → 0 < b → Sweep n edge old b new more
      → (new (b - 1) ≡ true) ⊎ (some n (λ t. edge (b - 1) t && new t) ≡ false) → Sweep n edge old (b - 1) new more
  sweep_stay b new more z s d = record {
    keeps = s.keeps;
    sound = s.sound;
    same = s.same;
    idle = λ e c l h p. ⊎_elim
        (λ k. let q : c ≡ b - 1 = omega arith in rw q (here e (rw q at h) (rw q at p)))
        (λ k. s.idle e c k h p)
        (less_or c b);
    busy = s.busy;
  }
    where
      here : more ≡ false → b - 1 < n → grown n edge old (b - 1) ≡ true → old (b - 1) ≡ true
      here e h p = ⊎_elim
          (λ i. i)
          (λ r. ⊎_elim
          (λ i. s.same e (b - 1) h i)
          (λ i. absurd (clash (some_in n r.0 (λ t. edge (b - 1) t && new t) r.1 (and_both _ _ r.2 (s.keeps r.0 r.1 r.3))) i))
          d)
          (grown_case n edge old (b - 1) p)

  -- b - 1 is added
  pub sweep_add : (b : ℕ) (new next : ℕ → Bool) (more : Bool) → 0 < b → b ≤ n → Sweep n edge old b new more → new (b - 1) ≡ false
      → some n (λ t. edge (b - 1) t && new t) ≡ true → next (b - 1) ≡ true → ((c : ℕ) → (c ≡ b - 1 → ⊥) → next c ≡ new c) → Sweep n edge old (b - 1) next true
  sweep_add b new next more z l s f g x y = record {
    keeps = λ c h p. grows c h (s.keeps c h p);
    sound = λ u k w c h p. ⊎_elim
        (λ e. rw e (let r = some_out n (λ t. edge (b - 1) t && new t) g in let q = and_parts (edge (b - 1) r.0) (new r.0) r.2 in
        k (b - 1) r.0 (omega arith) r.1 q.0 (s.sound u k w r.0 r.1 q.1)))
        (λ o. s.sound u k w c h (sym (y c o) ∙ p))
        (same_or c (b - 1));
    same = λ e. absurd (false≢true (sym e));
    idle = λ e. absurd (false≢true (sym e));
    busy = λ e. omega (arith, count_mono n old new s.keeps, count_less n new next grows (b - 1) (omega arith) f x);
  }
    where
      grows : Within n new next
      grows c h p = ⊎_elim (λ e. rw e x) (λ o. y c o ∙ p) (same_or c (b - 1))

  -- ---- sweep after sweep
  -- a set within every closed one stays so
  pub sweep_sound : (seed new : ℕ → Bool) (more : Bool) → Sweep n edge old 0 new more → ((u : ℕ → Bool) → Closed n seed edge u → Within n old u) → (u : ℕ → Bool) → Closed n seed edge u → Within n new u
  sweep_sound seed new more s w u c = s.sound u c.back (w u c)

  pub sweep_less : (new : ℕ → Bool) (more : Bool) → Sweep n edge old 0 new more → more ≡ true → n - count_to n new < n - count_to n old
  sweep_less new more s e = omega (arith, s.busy e, count_le n new)

  pub sweep_done : (seed new : ℕ → Bool) (more : Bool) → Sweep n edge old 0 new more → more ≡ false → Within n seed old
      → ((u : ℕ → Bool) → Closed n seed edge u → Within n old u) → Smallest n seed edge new
  sweep_done seed new more s e i w = record {
    closed = still_closed n seed edge new (λ b h p. s.keeps b h (i b h p)) (λ b h p. s.keeps b h (s.idle e b (omega arith) h (grown_mono n edge new old (s.same e) b h p)));
    least = sweep_sound seed new more s w;
  }
