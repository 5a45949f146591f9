-- What a caller may take from an accepted plan, with nothing parsed again. Assumes nothing.
use Prim.Native.Nat.{ℕ, suc, ◌+◌, ◌-◌, ◌*◌, ◌≤◌, ◌<◌}
use mathlib.Core.Path.{◌≡◌, refl, sym, ap, ◌∙◌}
use mathlib.Core.Bool.{cond}
use mathlib.Core.List.{List, []}
use native.Mathlib.Omega.{arith}
use lib.ListN.{length, get_or}
use Rattle.definitions.specs.Rule.{Rule, size, block_of}
use Rattle.definitions.specs.Grammar.{Got, got, refused, parsed, rule_of, block_at}
use Rattle.definitions.specs.Columns.{flow_of, J, inputs_of, outputs_of, LC}
use Rattle.definitions.specs.Plan.{mask_of, bit_of, place_of, bodies_from, entry_of, word_at, bodies_at, plan_of, carried, planned, plan_size}
use Rattle.definitions.specs.Batch.{count_to}
use Rattle.definitions.specs.Calls.{columns}
use Rattle.definitions.proofs.Masks.{mask-count}
use Rattle.columns.specs.Proper.{Proper}
use Rattle.readers.specs.Accepted.{RuleIn}
use Rattle.readers.proofs.Accepted.{rule-in}
use Rattle.readers.proofs.Places.{rule-header, block-stands}
use Rattle.rules.proofs.Uncycled.{rule-parsed}
use Rattle.flows.proofs.Flow.{place-past}
use Rattle.plans.specs.Taken.{taken_of, Taking}
use Rattle.plans.specs.Accepted.{tree_of, rule_in, Accepted}
use Rattle.plans.proofs.Fields.{word_le16, plan-length, plan-lc, plan-entry, plan-byte, plan-bodies}
use Rattle.plans.proofs.Accepted.{Plan, is-plan}
use Rattle.plans.proofs.Proper.{proper}
use Rattle.definitions.specs.declared.Reason.{Reason}
use Rattle.std.specs.Prelude.{Option, Some, None}

-- ---- an accepted plan, from the answer of `take`
pub accepted : {p : List ℕ} {t : Option ℕ} {buffer : List ℕ} → Taking p t buffer → (n : ℕ) → t ≡ Some n → Accepted p
unfolding taken_of tree_of
accepted {p} k n e = go (planned p) refl
  where
    go : (g : Got Rule) → planned p ≡ g → Accepted p
    go (got r m) i = record { next = m; is = i ∙ ap (λ x. got x m) (sym (ap tree_of i)) }
    go (refused a b) i = let a : None ≡ Some n = sym (ap taken_of i) ∙ sym k.answer ∙ e in let z : ◌≡◌ {A = ℕ} 0 1 = cc in absurd (omega arith)

pub refused-plan : {p : List ℕ} {t : Option ℕ} {buffer : List ℕ} → Taking p t buffer → t ≡ None → (k : Reason) × (at : ℕ) × (planned p ≡ refused k at)
unfolding taken_of
refused-plan {p} k e = go (planned p) refl
  where
    go : (g : Got Rule) → planned p ≡ g → (k : Reason) × (at : ℕ) × (planned p ≡ refused k at)
    go (got r m) i = let a : Some m ≡ None = sym (ap taken_of i) ∙ sym k.answer ∙ e in let z : ◌≡◌ {A = ℕ} 0 1 = cc in absurd (omega arith)
    go (refused a b) i = (a, b, i)

-- ---- what stands where in it
module _ (p : List ℕ) (a : Accepted p) where
  whole : Plan p (rule_in p) a.next
  whole = (is-plan p (rule_in p) a.next).0 a.is

  pub carried-rule : rule_of (carried p) ≡ got (rule_in p) a.next
  carried-rule = whole.rule

  pub carried-parsed : parsed (carried p) ≡ got (rule_in p) a.next
  carried-parsed = rule-parsed (carried p) (rule_in p) a.next carried-rule

  pub carried-in : RuleIn (carried p) (rule_in p)
  carried-in = rule-in (carried p) (rule_in p) a.next carried-parsed

  pub carried-proper : Proper (rule_in p)
  carried-proper = proper (carried p) (rule_in p) a.next carried-rule

  pub carried-bytes : plan_of (rule_in p) (carried p) ≡ p
  carried-bytes = whole.bytes

  pub carried-long : 4 ≤ length (carried p)
  carried-long = rule-header (carried p) (rule_in p) a.next carried-parsed

  pub plan-long : length p ≡ plan_size (rule_in p) (length (carried p))
  plan-long = sym (ap length whole.bytes) ∙ plan-length (flow_of (rule_in p)) (rule_in p) (carried p) carried-long

  pub head-fits : bodies_from (rule_in p) ≤ length p
  head-fits = omega (arith, plan-long, carried-long)

  -- the header
  byte : (i : ℕ) → i < 4 → get_or p i 0 ≡ get_or (carried p) i 0
  byte i h = sym (ap (λ x. get_or x i 0) whole.bytes) ∙ plan-byte (flow_of (rule_in p)) (rule_in p) (carried p) carried-long i h

  pub at-variables : get_or p 1 0 ≡ (rule_in p).variables
  at-variables = byte 1 (omega arith) ∙ sym carried-in.variables_are

  pub at-arguments : get_or p 2 0 ≡ (rule_in p).arguments
  at-arguments = byte 2 (omega arith) ∙ sym carried-in.arguments_are

  pub at-blocks : get_or p 3 0 ≡ size (rule_in p)
  at-blocks = byte 3 (omega arith) ∙ sym carried-in.blocks_are

  pub at-lc : word_at p 4 ≡ mask_of (rule_in p).variables (LC (flow_of (rule_in p)))
  at-lc = sym (ap (λ x. word_at x 4) whole.bytes) ∙ plan-lc (flow_of (rule_in p)) (rule_in p) (carried p) carried-long

  -- the columns of a line are the ones in LC
  pub columns-counted : (lc n : ℕ) → lc ≡ word_at p 4 → n ≡ count_to (get_or p 1 0) (bit_of lc) → n ≡ columns (rule_in p)
  columns-counted lc n el en = en ∙ rw (at-variables, el, at-lc) (mask-count (rule_in p).variables (LC (flow_of (rule_in p))) (rule_in p).variables (omega arith))

  -- the bodies follow the entries and the order
  pub at-bodies : bodies_at p ≡ bodies_from (rule_in p)
  at-bodies = sym (ap bodies_at whole.bytes) ∙ plan-bodies (flow_of (rule_in p)) (rule_in p) (carried p) carried-long carried-in.blocks_from

  -- an entry
  module _ (b : ℕ) (h : b < size (rule_in p)) where
    word : (i : ℕ) → i + 1 < 8 → word_at p (6 + (8 * b + i)) ≡ word_at (entry_of (flow_of (rule_in p)) (rule_in p) (carried p) b) i
    word i l = sym (ap (λ x. word_at x (6 + (8 * b + i))) whole.bytes) ∙ plan-entry (flow_of (rule_in p)) (rule_in p) (carried p) carried-long b i h l

    pub at-past : 4 ≤ place_of (rule_in p) (carried p) b
    at-past = place-past (carried p) (rule_in p) a.next carried-parsed b (omega arith)

    pub at_offset : word_at p (6 + (8 * b + 0)) ≡ place_of (rule_in p) (carried p) b - 4 + bodies_at p
    unfolding entry_of
    at_offset = word 0 (omega arith) ∙ word_le16 _ [] ∙ omega (arith, at-bodies)

    pub at-inputs : word_at p (6 + (8 * b + 2)) ≡ mask_of (rule_in p).variables (inputs_of (flow_of (rule_in p)) b)
    unfolding entry_of
    at-inputs = word 2 (omega arith) ∙ word_le16 _ []

    pub at-outputs : word_at p (6 + (8 * b + 4)) ≡ mask_of (rule_in p).variables (outputs_of (flow_of (rule_in p)) b)
    unfolding entry_of
    at-outputs = word 4 (omega arith) ∙ word_le16 _ []

    pub at-joins : word_at p (6 + (8 * b + 6)) ≡ cond (J (flow_of (rule_in p)) b) 1 0
    unfolding entry_of
    at-joins = word 6 (omega arith) ∙ word_le16 _ []

    -- the block that stands at the place that the offset tells
    pub at_place : block_at (size (rule_in p)) (rule_in p).variables (carried p) (place_of (rule_in p) (carried p) b) ≡ got (block_of (rule_in p) b) (place_of (rule_in p) (carried p) (suc b))
    at_place = block-stands (carried p) (rule_in p) a.next carried-parsed b h
