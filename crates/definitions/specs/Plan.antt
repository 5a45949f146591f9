-- 01, Columns, the plan, and K5 of 02: its bytes, and which bytes are a plan.
use Rattle.std.specs.Prelude.{ℕ, zero, suc, ◌+◌, ◌-◌, ◌*◌, ◌/◌, ◌%◌, ◌^◌, Bool, true, false, cond, ◌&&◌, List, [], ◌∷◌, ◌++◌, eqb, leb, length, take, drop, get_or}
use Rattle.definitions.specs.Rule.{Rule, size}
use Rattle.definitions.specs.Grammar.{Got, got, refused, blocks_to, rule_of, longest, most_blocks}
use Rattle.definitions.specs.Columns.{Flow, flow_of, J, inputs_of, outputs_of, LC}
use Rattle.definitions.specs.Paths.{goto_in}
use Rattle.definitions.specs.Order.{order_of, goes_back}
use Rattle.definitions.specs.declared.Reason.TheVariants.{NotPlan}

-- sixteen bits as two bytes, the lower first
abbrev pub le16 : ℕ → List ℕ
le16 n = n % 256 ∷ n / 256 ∷ []

-- and the sixteen bits at byte i
abbrev pub word_at : List ℕ → ℕ → ℕ
word_at p i = get_or p i 0 + get_or p (i + 1) 0 * 256

-- a set of variables as a mask: bit k is variable k
unfoldable pub mask_of : ℕ → (ℕ → Bool) → ℕ
mask_of zero f = 0
mask_of (suc v) f = mask_of v f + cond (f v) (2 ^ v) 0

-- whether a mask holds variable k
abbrev pub bit_of : ℕ → ℕ → Bool
bit_of m k = eqb (m / 2 ^ k % 2) 1

-- where what is read ends
abbrev pub end_of : {A : Type 0} → Got A → ℕ
end_of (got a n) = n
end_of (refused k p) = p

-- the place of block b in the rule's bytes: where the blocks before it end
abbrev pub place_of : Rule → List ℕ → ℕ → ℕ
place_of r s b = end_of (blocks_to (size r) r.variables s b)

-- 02, K5: where some goto goes back, the blocks in order of evaluation, a byte each; no bytes elsewhere
unfoldable pub order_bytes : Rule → List ℕ
order_bytes r = cond (goes_back (size r) (goto_in r)) (order_of (size r) (goto_in r)) []

-- the bytes of a plan before the blocks' bodies: the header, LC and n entries, and so many bytes of the order
abbrev pub head_size : ℕ → ℕ → ℕ
head_size n ordered = 6 + 8 * n + ordered

abbrev pub bodies_from : Rule → ℕ
bodies_from r = head_size (size r) (length (order_bytes r))

-- a block's entry, by the rule's flow: the offset of its body in the plan, its input and its output mask, 1 if it is in J and else 0
unfoldable pub entry_of : Flow → Rule → List ℕ → ℕ → List ℕ
entry_of g r s b =
    le16 (place_of r s b - 4 + bodies_from r)
    ++ (le16 (mask_of r.variables (inputs_of g b))
    ++ (le16 (mask_of r.variables (outputs_of g b))
    ++ le16 (cond (J g b) 1 0)))

unfoldable pub entries_to : Flow → Rule → List ℕ → ℕ → List ℕ
entries_to g r s zero = []
entries_to g r s (suc k) = entries_to g r s k ++ entry_of g r s k

-- the plan of a rule whose bytes are s, by its flow: the header, LC, the entries, the order, the rule without its header
unfoldable pub plan_by : Flow → Rule → List ℕ → List ℕ
plan_by g r s = take 4 s ++ (le16 (mask_of r.variables (LC g)) ++ (entries_to g r s (size r) ++ (order_bytes r ++ drop 4 s)))

abbrev pub plan_of : Rule → List ℕ → List ℕ
plan_of r s = plan_by (flow_of r) r s

-- its size, for a rule of L bytes
abbrev pub plan_size : Rule → ℕ → ℕ
plan_size r L = bodies_from r + L - 4

-- and the longest plan's
abbrev pub longest_plan : ℕ
longest_plan = head_size most_blocks most_blocks + longest - 4

-- ---- which bytes are a plan

unfoldable pub same : List ℕ → List ℕ → Bool
same [] [] = true
same [] (y ∷ ys) = false
same (x ∷ xs) [] = false
same (x ∷ xs) (y ∷ ys) = eqb x y && same xs ys

-- where a plan's bodies begin: at the offset of block 0
abbrev pub bodies_at : List ℕ → ℕ
bodies_at p = word_at p 6

-- the rule that a plan carries: the header and the bodies
abbrev pub carried : List ℕ → List ℕ
carried p = take 4 p ++ drop (bodies_at p) p

-- accepted exactly if that is a rule, of a rule's length, and compiles to these bytes; 15 if not
abbrev pub as_plan : List ℕ → Got Rule → Got Rule
as_plan p (got r n) = cond (leb n longest && same (plan_of r (carried p)) p) (got r n) (refused NotPlan 0)
as_plan p (refused k at) = refused NotPlan 0

unfoldable pub planned : List ℕ → Got Rule
planned p = as_plan p (rule_of (carried p))
