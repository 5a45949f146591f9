-- 02, K5: what is said of the order in a plan's bytes, and the plan before the request, which has none. The latter stands here for the theorems of
-- proofs/Ordered.antt alone.
use Rattle.std.specs.Prelude.{ℕ, zero, suc, ◌+◌, ◌-◌, ◌*◌, ◌<◌, ◌≡◌, true, cond, List, [], ◌++◌, length, take, drop, get_or}
use Rattle.definitions.specs.Rule.{Rule, size}
use Rattle.definitions.specs.Columns.{flow_of, J, inputs_of, outputs_of, LC}
use Rattle.definitions.specs.Paths.{goto_in, Step}
use Rattle.definitions.specs.Order.{Order, Once}
use Rattle.definitions.specs.Plan.{le16, mask_of, place_of, head_size, carried}
use Rattle.plans.specs.Promised.{offset_in}

-- ---- gotos that go back
-- some block has a goto to a lower one
pub record BackGoto (r : Rule) : Type 0 where
  pub block : ℕ
  pub to : ℕ
  pub goto : Step (size r) (goto_in r) block to
  pub lower : to < block

abbrev pub NoneBack : Rule → Type 0
NoneBack r = BackGoto r → ⊥

-- ---- the plan before K5
unfoldable pub plain_entry : Rule → List ℕ → ℕ → List ℕ
plain_entry r s b =
    le16 (place_of r s b - 4 + (6 + 8 * size r))
    ++ (le16 (mask_of r.variables (inputs_of (flow_of r) b))
    ++ (le16 (mask_of r.variables (outputs_of (flow_of r) b))
    ++ le16 (cond (J (flow_of r) b) 1 0)))

unfoldable pub plain_entries : Rule → List ℕ → ℕ → List ℕ
plain_entries r s zero = []
plain_entries r s (suc k) = plain_entries r s k ++ plain_entry r s k

unfoldable pub unordered_plan : Rule → List ℕ → List ℕ
unordered_plan r s = take 4 s ++ (le16 (mask_of r.variables (LC (flow_of r))) ++ (plain_entries r s (size r) ++ drop 4 s))

-- ---- the order in a plan's bytes
-- the n bytes right after the entries of n blocks
abbrev pub order_in : List ℕ → ℕ → List ℕ
order_in plan n = take n (drop (head_size n 0) plan)

-- they are the rule's order of evaluation, and there is no other: each block stands there once, and each goto leads to a block further on. The bodies
-- begin after them, and they count in the size
pub record Ordered (plan : List ℕ) (r : Rule) : Type 0 where
  pub order : Order (size r) (goto_in r) (order_in plan (size r))
  pub only : (l : List ℕ) → Order (size r) (goto_in r) l → l ≡ order_in plan (size r)
  pub once : (b : ℕ) → b < size r → Once (size r) (order_in plan (size r)) b
  pub ahead : (i j : ℕ) → i < size r → j < size r → goto_in r (get_or (order_in plan (size r)) i 0) (get_or (order_in plan (size r)) j 0) ≡ true → i < j
  pub bodies : offset_in plan 0 ≡ head_size (size r) (size r)
  pub long : length plan ≡ head_size (size r) (size r) + length (carried plan) - 4
