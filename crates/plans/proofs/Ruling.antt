-- From an accepted rule's bytes to what the compiler works out of them. Assumes nothing.
use Prim.Native.Nat.{ℕ, ◌≤◌, ◌<◌}
use mathlib.Core.Path.{◌≡◌, sym, ap, ◌∙◌}
use mathlib.Core.Bool.{Bool, true, false, cond}
use mathlib.Core.List.{List, []}
use native.Mathlib.Omega.{arith}
use lib.ListN.{length, length-take}
use Rattle.definitions.specs.Rule.{Rule, size}
use Rattle.definitions.specs.Grammar.{got, parsed, rule_of, variables_in, blocks_in}
use Rattle.definitions.specs.Columns.{Flow, flow_of}
use Rattle.definitions.specs.Paths.{goto_in, NoCycle}
use Rattle.definitions.specs.Order.{goes_back, order_of}
use Rattle.definitions.specs.Plan.{place_of, order_bytes, plan_of, head_size, longest_plan}
use Rattle.definitions.proofs.Orders.{order-length}
use Rattle.readers.proofs.Sound.{sound-got}
use Rattle.readers.proofs.Accepted.{block-sound, rule-in}
use Rattle.readers.proofs.Places.{rule-header, block-stands}
use Rattle.closure.specs.Tables.{Tables, Columned, edge_in}
use Rattle.closure.specs.declared.ColumnSets.{ColumnSets}
use Rattle.rules.proofs.Uncycled.{rule-parsed, rule_no_cycle, none_as}
use Rattle.flows.specs.Flow.{Ruled, Told}
use Rattle.flows.proofs.Flow.{place-past, place-within}
use Rattle.plans.specs.Laid.{IsRule, OrderFor, size_for, Laid, Room}
use Rattle.plans.proofs.Fields.{plan-length}
use Rattle.plans.proofs.Alike.{same_back, same-order}

-- after its header a rule has a block
pub rule_has_block : (s : List ℕ) (r : Rule) (m : ℕ) → rule_of s ≡ got r m → 5 ≤ length s
rule_has_block s r m e =
    let n = size r in
    let read = rule-parsed s r m e in
    let some = (rule-in s r m read).blocks_from in
    let there = rule-header s r m read in
    let b = sound-got _ (place_of r s 0) (length s) _ (block-sound n r.variables s (length s) (place_of r s 0)) _ _ (block-stands s r m read 0 some) in
    omega (arith, b.0, b.1, place-past s r m read 0 (omega arith))

-- the order has a byte for each block, or none
pub order-few : (r : Rule) → length (order_bytes r) ≤ size r
unfolding order_bytes
order-few r = go (goes_back (size r) (goto_in r))
  where
    go : (b : Bool) → length (cond b (order_of (size r) (goto_in r)) []) ≤ size r
    go true = omega (arith, order-length (size r) (goto_in r) (size r))
    go false = omega arith

-- the size of a rule's plan, by its order bytes
pub plan-sized : (s : List ℕ) (r : Rule) (m : ℕ) → rule_of s ≡ got r m → (order : List ℕ) → OrderFor s order → length (plan_of r s) ≡ size_for s order
plan-sized s r m e order o =
    let read = rule-parsed s r m e in
    plan-length (flow_of r) r s (rule-header s r m read) ∙ rw ((rule-in s r m read).blocks_are, ← o r m e)

module _ (s : List ℕ) (w : IsRule s) where
  read : parsed s ≡ got w.rule w.end
  read = rule-parsed s w.rule w.end w.is

  pub ruled : Ruled s
  ruled = record { rule = w.rule; end = w.end; is = read; short = w.short }

  pub ruled-long : 4 ≤ length s
  ruled-long = rule-header s w.rule w.end read

  pub ruled-blocks : (1 ≤ blocks_in s) × (blocks_in s ≤ 64)
  ruled-blocks = let i = rule-in s w.rule w.end read in (omega (arith, i.blocks_are, i.blocks_from), omega (arith, i.blocks_are, i.blocks_to))

  pub ruled-variables : variables_in s ≤ 16
  ruled-variables = let i = rule-in s w.rule w.end read in omega (arith, i.variables_are, i.variables-to)

  module _ (order : List ℕ) (o : OrderFor s order) where
    pub ruled-order : length order ≤ 64
    ruled-order = omega (arith, ap length (o w.rule w.end w.is), order-few w.rule, (rule-in s w.rule w.end read).blocks_to)

    -- a plan is no longer than the longest
    pub ruled-plan : size_for s order ≤ longest_plan
    ruled-plan = omega (arith, ruled-order, ruled-blocks.1, w.short)

    -- where the blocks begin lies in the rule
    pub ruled-room : (out places : List ℕ) {fv bv gotos jumps : List Bool}
        → ((r : Rule) (m : ℕ) → parsed s ≡ got r m → Told r s places fv bv gotos jumps) → size_for s order ≤ length out → Room s order places out
    ruled-room out places told fits =
        let r = w.rule in
        let t = told r w.end read in
        let i = rule-in s r w.end read in
        record {
          header = ruled-long;
          some = ruled-blocks.0;
          few = ruled-blocks.1;
          ordered = ruled-order;
          inside = λ b h.
              let k : b ≤ size r = omega (arith, i.blocks_are) in
              (omega (arith, t.places b k, place-past s r w.end read b k), omega (arith, t.places b k, place-within s r w.end read b k, w.short));
          fits = fits;
        }

  -- ---- the order, by the table of the rule's gotos
  module _ (gotos : List Bool) (told : (r : Rule) (m : ℕ) → parsed s ≡ got r m → (b t : ℕ) → b < size r → t < size r → edge_in gotos b t ≡ goto_in r b t) where
    count : (r : Rule) (m : ℕ) → rule_of s ≡ got r m → blocks_in s ≡ size r
    count r m e = sym (rule-in s r m (rule-parsed s r m e)).blocks_are

    agrees : (r : Rule) (m : ℕ) (e : rule_of s ≡ got r m) → (b t : ℕ) → b < blocks_in s → t < blocks_in s → edge_in gotos b t ≡ goto_in r b t
    agrees r m e b t h l = told r m (rule-parsed s r m e) b t (omega (arith, count r m e)) (omega (arith, count r m e))

    no_cycle : (r : Rule) (m : ℕ) → rule_of s ≡ got r m → NoCycle (blocks_in s) (goto_in r)
    no_cycle r m e = rw (count r m e) (rule_no_cycle s r m e)

    pub told-no-cycle : NoCycle (blocks_in s) (edge_in gotos)
    told-no-cycle =
        let r = w.rule in
        none_as (blocks_in s) (goto_in r) (edge_in gotos) (λ b t h l. sym (agrees r w.end w.is b t h l)) (no_cycle r w.end w.is)

    back : (r : Rule) (m : ℕ) → rule_of s ≡ got r m → {x : Bool} → x ≡ goes_back (blocks_in s) (edge_in gotos) → {y : Bool} → x ≡ y → goes_back (size r) (goto_in r) ≡ y
    back r m e {x} p {y} q = rw (← count r m e) (sym (same_back (blocks_in s) (edge_in gotos) (goto_in r) (agrees r m e)) ∙ sym p ∙ q)

    pub order-listed : (order : List ℕ) {x : Bool} → x ≡ goes_back (blocks_in s) (edge_in gotos) → x ≡ true → order ≡ order_of (blocks_in s) (edge_in gotos) → OrderFor s order
    unfolding order_bytes
    order-listed order p q o r m e =
        rw (back r m e p q)
        (o ∙ same-order (blocks_in s) (edge_in gotos) (goto_in r) (agrees r m e) told-no-cycle (no_cycle r m e) ∙ ap (λ (k : ℕ). order_of k (goto_in r)) (count r m e))

    pub order-none : {x : Bool} → x ≡ goes_back (blocks_in s) (edge_in gotos) → x ≡ false → OrderFor s []
    unfolding order_bytes
    order-none p q r m e = rw (back r m e p q)

of_size : {g : Flow} {n v x y : ℕ} {fv bv gotos jumps j : List Bool} {inputs outputs : List ℕ} → n ≡ x → v ≡ y
    → Tables g x y fv bv gotos jumps → (Tables g n v fv bv gotos jumps → Columned g n v inputs outputs j) → Columned g n y inputs outputs j
of_size p q t c = rw q at (c (rw (← p, ← q) at t))

-- what is worked out is what the plan lays down
pub laid : (s : List ℕ) (r : Rule) (m : ℕ) → rule_of s ≡ got r m → (order : List ℕ) → order ≡ order_bytes r
    → {places : List ℕ} {fv bv gotos jumps : List Bool} {sets : ColumnSets} → Told r s places fv bv gotos jumps
    → ((g : Flow) → Tables g (blocks_in s) (variables_in s) fv bv gotos jumps → Columned g (blocks_in s) (variables_in s) sets.inputs sets.outputs sets.j)
    → Laid r s (blocks_in s) (head_size (blocks_in s) (length order)) places sets
laid s r m e order eo t columned =
    let i = rule-in s r m (rule-parsed s r m e) in
    record {
      blocks = i.blocks_are;
      bodies = rw (← i.blocks_are, eo);
      place = λ b h. t.places b (omega (arith, i.blocks_are));
      columns = of_size (sym i.blocks_are) (sym i.variables_are) t.tables (columned (flow_of r));
    }

-- what holds of an accepted rule's bytes
pub ruleset of_rule = (ruled, ruled-long, ruled-blocks, ruled-variables, ruled-order, ruled-plan, told-no-cycle, order-none, length-take)
