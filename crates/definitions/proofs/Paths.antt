-- Paths of gotos and the smallest closed sets say the same of what reaches a block. Assumes nothing.
use mathlib.Core.Path.{◌≡◌, sym, ◌∙◌}
use mathlib.Core.Bool.{Bool, true}
use Prim.Native.Nat.{ℕ, ◌<◌}
use Rattle.definitions.specs.Paths.{Step, GotoPath, one, more}
use Rattle.definitions.specs.Cycles.{reaches}
use Rattle.definitions.specs.Smallest.{Closed, Smallest}
use Rattle.definitions.proofs.Smallest.{smallest-only}
use Rattle.definitions.proofs.Reached.{closure-smallest, closure-all}

module _ (n : ℕ) (edge : ℕ → ℕ → Bool) where
  pub path_from : {b t : ℕ} → GotoPath n edge b t → b < n
  path_from (one s) = s.from
  path_from (more s p) = s.from

  pub path_to : {b t : ℕ} → GotoPath n edge b t → t < n
  path_to (one s) = s.to
  path_to (more s p) = path_to p

  -- a path and one goto more
  pub path_snoc : {b c t : ℕ} → GotoPath n edge b c → Step n edge c t → GotoPath n edge b t
  path_snoc (one s) q = more s (one q)
  path_snoc (more s p) q = more s (path_snoc p q)

  -- ---- the blocks that reach b

  -- a closed set has every block with a path to b
  pub path_held : {c b : ℕ} (s : ℕ → Bool) → GotoPath n edge c b → Closed n (λ x. edge x b) edge s → s c ≡ true
  path_held {c} s (one p) k = k.holds c p.from p.goto
  path_held s (more p q) k = k.back _ _ p.from p.to p.goto (path_held s q k)

  pub path_reaches : {c b : ℕ} → GotoPath n edge c b → reaches n edge c b ≡ true
  path_reaches {c} {b} p = path_held (λ x. reaches n edge x b) p (closure-smallest n (λ x. edge x b) edge).closed

  -- and the smallest has no others
  pub reaches_path : (c b : ℕ) → c < n → b < n → reaches n edge c b ≡ true → GotoPath n edge c b
  reaches_path c b h l p =
      closure-all n (λ x. edge x b) edge (λ x. GotoPath n edge x b)
      (λ x i e. one (record { from = i; to = l; goto = e }))
      (λ x t i j e q. more (record { from = i; to = j; goto = e }) q)
      c h p

  pub held_path : (b c : ℕ) (s : ℕ → Bool) → b < n → c < n → Smallest n (λ x. edge x b) edge s → s c ≡ true → GotoPath n edge c b
  held_path b c s l h m p = reaches_path c b h l (sym (smallest-only m (closure-smallest n (λ x. edge x b) edge) c h) ∙ p)
