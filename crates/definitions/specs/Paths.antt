-- 02, K5: the gotos of a rule, paths of gotos between the blocks below n, and cycles. Nothing here searches.
-- `edge b t ≡ true` says that block b has a goto to block t.
use Rattle.std.specs.Prelude.{◌≡◌, Bool, true, ℕ, suc, ◌<◌}
use Rattle.definitions.specs.Rule.{Rule, block_of}
use Rattle.definitions.specs.Columns.{goes_to}

-- the ending of block b has a goto to t: every arm of every if counts, and a block that nothing leads to counts too
abbrev pub goto_in : Rule → ℕ → ℕ → Bool
goto_in r b t = goes_to (block_of r b).ending t

-- a goto from block b to block t
pub record Step (n : ℕ) (edge : ℕ → ℕ → Bool) (b t : ℕ) : Type 0 where
  pub from : b < n
  pub to : t < n
  pub goto : edge b t ≡ true

-- one goto or more lead from b to t
pub data GotoPath (n : ℕ) (edge : ℕ → ℕ → Bool) : ℕ → ℕ → Type 0 where
  one : {b t : ℕ} → Step n edge b t → GotoPath n edge b t
  more : {b c t : ℕ} → Step n edge b c → GotoPath n edge c t → GotoPath n edge b t

-- how many blocks it visits, each time counted
unfoldable pub visits : {n : ℕ} {edge : ℕ → ℕ → Bool} {b t : ℕ} → GotoPath n edge b t → ℕ
visits (one s) = 2
visits (more s p) = suc (visits p)

-- ---- cycles

abbrev pub OnCycle : ℕ → (ℕ → ℕ → Bool) → ℕ → Type 0
OnCycle n edge b = GotoPath n edge b b

abbrev pub HasCycle : ℕ → (ℕ → ℕ → Bool) → Type 0
HasCycle n edge = (b : ℕ) × OnCycle n edge b

abbrev pub NoCycle : ℕ → (ℕ → ℕ → Bool) → Type 0
NoCycle n edge = (b : ℕ) → OnCycle n edge b → ⊥

pub record LowestOnCycle (n : ℕ) (edge : ℕ → ℕ → Bool) (b : ℕ) : Type 0 where
  pub here : OnCycle n edge b
  pub lowest : (c : ℕ) → c < b → OnCycle n edge c → ⊥
