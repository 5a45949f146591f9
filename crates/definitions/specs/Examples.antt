-- 01, The count-down rule and other examples: the twelve worked examples in one table, and that all of them hold of the definitions, by computation.
use Rattle.std.specs.Prelude.{ℕ, zero, suc, ◌≡◌, refl, List, [], ◌∷◌, ℤ, pos, neg_ℤ, length, take, drop}
use Prim.{Unit, tt}
use Rattle.std.proofs.Common.{add-one, ap}
use Rattle.definitions.specs.Values.{Word, number, unset, value, fault, kind_number, settled, product, quotient, remainder}
use Rattle.definitions.specs.declared.Operator.TheVariants.{Add, Subtract}
use Rattle.definitions.specs.declared.Relation.TheVariants.{Less}
use Rattle.definitions.specs.Rule.{Const, Var, Op, Compare, Set, Emit, Goto, Jump, Stop, If, Rule}
use Rattle.definitions.specs.Grammar.{Got, got, refused, then, twos, expr_at, end_at, block_from, blocks_to, headed, parsed, rule_of}
use Rattle.definitions.specs.Spelling.{constant_bytes, expr_bytes, cond_bytes, stmt_bytes, end_bytes, in_turn, block_bytes, bytes_of}
use Rattle.definitions.specs.Meaning.{at_byte, eval}
use Rattle.definitions.specs.Direct.{step, steps, exit, walk, start, advance_from, after_from, after}
use Rattle.definitions.specs.Columns.{some, reads, end_looks, read_first, sets, goes_to, jumps_to, outputs, from, grown, growths, closure, led_to, inputs_of}
use Rattle.definitions.specs.Order.{lowest_of, goes_back}
use Rattle.definitions.specs.Cycles.{cycle_of}
use Rattle.definitions.specs.Plan.{order_bytes, mask_of, entry_of, entries_to, plan_by, plan_of, same, planned}
use Rattle.definitions.specs.Pages.{word_sum, check_of, page_body, page_of, pages_to, file_of}
use Rattle.definitions.specs.Batch.{common, starts_of, map_from, records_of, count_to, columns_of, lines_from, live_of, most_of}
use Rattle.definitions.specs.Calls.{Batch, to_write, first_over, ran_reply, run_reply, records_in, table_in}
use Rattle.definitions.specs.Refusals.{Reply}
use Rattle.definitions.specs.declared.Kind.TheVariants.{OutOfRange}
use Rattle.std.specs.Prelude.{Ok}
use Rattle.definitions.specs.declared.Reason.TheVariants.{EndsEarly, GotoCycle}
use Rattle.definitions.specs.declared.Finish.TheVariants.{Unfinished}

-- rule R: 45 bytes
abbrev pub R : List ℕ
R =
    0x01 ∷ 0x02 ∷ 0x01 ∷ 0x04
    ∷ 0x21 ∷ 0x02 ∷ 0x00 ∷ 0x30 ∷ 0x01
    ∷ 0x33 ∷ 0x10 ∷ 0x02 ∷ 0x00 ∷ 0x01 ∷ 0x01 ∷ 0x00 ∷ 0x00 ∷ 0x00 ∷ 0x30 ∷ 0x02 ∷ 0x30 ∷ 0x03
    ∷ 0x21 ∷ 0x02 ∷ 0x01 ∷ 0x32
    ∷ 0x20 ∷ 0x01 ∷ 0x04 ∷ 0x02 ∷ 0x01 ∷ 0x02 ∷ 0x00 ∷ 0x20 ∷ 0x00 ∷ 0x05 ∷ 0x02 ∷ 0x00 ∷ 0x01 ∷ 0x01 ∷ 0x00 ∷ 0x00 ∷ 0x00 ∷ 0x31 ∷ 0x01
    ∷ []

-- its tree
abbrev tree_r : Rule
tree_r = record {
  form = 1;
  variables = 2;
  arguments = 1;
  blocks =
      record { body = Emit (Var 0) ∷ []; ending = Goto 1 }
      ∷ record { body = []; ending = If (Compare Less (Var 0) (Const (pos 1))) (Goto 2) (Goto 3) }
      ∷ record { body = Emit (Var 1) ∷ []; ending = Stop }
      ∷ record { body = Set 1 (Op Add (Var 1) (Var 0)) ∷ Set 0 (Op Subtract (Var 0) (Const (pos 1))) ∷ []; ending = Jump 1 }
      ∷ [];
}

-- its plan: LC, then offset, inputs, outputs and J for each of the four blocks
abbrev pub plan_r : List ℕ
plan_r =
    0x01 ∷ 0x02 ∷ 0x01 ∷ 0x04
    ∷ 3 ∷ 0
    ∷ 38 ∷ 0 ∷ 3 ∷ 0 ∷ 3 ∷ 0 ∷ 1 ∷ 0
    ∷ 43 ∷ 0 ∷ 3 ∷ 0 ∷ 3 ∷ 0 ∷ 1 ∷ 0
    ∷ 56 ∷ 0 ∷ 2 ∷ 0 ∷ 0 ∷ 0 ∷ 0 ∷ 0
    ∷ 60 ∷ 0 ∷ 3 ∷ 0 ∷ 3 ∷ 0 ∷ 0 ∷ 0
    ∷ drop 4 R

-- bytes that are a rule, and its plan: nothing for bytes that are none
abbrev plan_for : List ℕ → Got (List ℕ)
plan_for s = then (rule_of s) (λ r n. got (plan_of r s) n)

-- one row of rule R
abbrev pub row : ℕ → ℕ → Batch
row budget q = record { plan = plan_r; rows = 1; values = pos 2 ∷ []; budgets = common budget; quota = q }

-- a run: its reply, its records and its table, where there is room enough
abbrev pub ran : Batch → Reply × (List Word × List Word)
ran b = (run_reply b (planned b.plan) 100 100, (records_in b (planned b.plan), table_in b (planned b.plan)))

abbrev pub words : List ℕ → List Word
words [] = []
words (n ∷ ns) = pos n ∷ words ns

-- 5 if 1 is below 2, and else a division by 0
abbrev guarded : List ℕ
guarded =
    0x09 ∷ 0x10 ∷ 0x01 ∷ 1 ∷ 0 ∷ 0 ∷ 0 ∷ 0x01 ∷ 2 ∷ 0 ∷ 0 ∷ 0
    ∷ 0x01 ∷ 5 ∷ 0 ∷ 0 ∷ 0
    ∷ 0x07 ∷ 0x01 ∷ 1 ∷ 0 ∷ 0 ∷ 0 ∷ 0x01 ∷ 0 ∷ 0 ∷ 0 ∷ 0 ∷ []

-- a rule that emits 1 by 0, and its plan
abbrev emits_fault : List ℕ
emits_fault = 0x01 ∷ 0x01 ∷ 0x00 ∷ 0x01 ∷ 0x21 ∷ 0x07 ∷ 0x01 ∷ 1 ∷ 0 ∷ 0 ∷ 0 ∷ 0x01 ∷ 0 ∷ 0 ∷ 0 ∷ 0 ∷ 0x32 ∷ []

abbrev emits_fault_plan : List ℕ
emits_fault_plan = 0x01 ∷ 0x01 ∷ 0x00 ∷ 0x01 ∷ 0 ∷ 0 ∷ 14 ∷ 0 ∷ 0 ∷ 0 ∷ 0 ∷ 0 ∷ 1 ∷ 0 ∷ drop 4 emits_fault

-- the smallest rule, and one that jumps to its own block for ever
abbrev pub smallest : List ℕ
smallest = 0x01 ∷ 0x01 ∷ 0x00 ∷ 0x01 ∷ 0x32 ∷ []

abbrev endless : Rule
endless = record { form = 1; variables = 1; arguments = 0; blocks = record { body = []; ending = Jump 0 } ∷ [] }

abbrev pub minus : ℕ → ℤ
minus n = neg_ℤ (pos n)

-- ---- the table

pub examples : List (Type 0)
examples =
    -- E1: the page check of R, and its bytes
    ((check_of 0 (page_body R) ≡ 1037) × (drop 510 (file_of R) ≡ 0x0D ∷ 0x04 ∷ []))
    -- E2: LC, inputs, outputs, J, bodies and size, all in the plan's bytes
    ∷ ((plan_for R ≡ got plan_r 45) × (length plan_r ≡ 79))
    -- E3: argument 2, budget 2, quota 4
    ∷ (ran (row 2 4) ≡ (Ok 2, (words (0 ∷ 2 ∷ 1 ∷ 0 ∷ 2 ∷ 0 ∷ 0 ∷ 0 ∷ []), words (0 ∷ 1 ∷ 2 ∷ 0 ∷ 3 ∷ []))))
    -- E4: the same with budget 3
    ∷ (ran (row 3 4) ≡ (Ok 3, (words (1 ∷ 3 ∷ 2 ∷ 0 ∷ 2 ∷ 3 ∷ 0 ∷ 0 ∷ []), words (0 ∷ 0 ∷ 0 ∷ 0 ∷ 0 ∷ []))))
    -- E5: budget 0
    ∷ (ran (row 0 4) ≡ (Ok 0, (words (0 ∷ 0 ∷ 0 ∷ 0 ∷ 0 ∷ 0 ∷ 0 ∷ 0 ∷ []), words (0 ∷ 0 ∷ 0 ∷ 2 ∷ 0 ∷ []))))
    -- E6: -7 by 2
    ∷ ((quotient (minus 7) (pos 2) ≡ value (minus 3)) × (remainder (minus 7) (pos 2) ≡ value (minus 1)))
    -- E7: the least value by -1
    ∷ ((quotient (minus 2147483648) (minus 1) ≡ fault OutOfRange) × (remainder (minus 2147483648) (minus 1) ≡ value (pos 0)) × (kind_number OutOfRange ≡ 3))
    -- E8: 46340 and 46341 squared
    ∷ ((product (pos 46340) (pos 46340) ≡ value (pos 2147395600)) × (product (pos 46341) (pos 46341) ≡ fault OutOfRange))
    -- E9: a guarded division by 0 does not fault
    ∷ (then (expr_at 8 0 guarded 0) (λ e n. got (eval e (at_byte 0) []) n) ≡ got (value (number (pos 5))) 28)
    -- E10: with quota 0 the fault of an emit's expression comes first
    ∷ (ran (record { plan = emits_fault_plan; rows = 1; values = []; budgets = common 1; quota = 0 }) ≡ (Ok 1, (words (2 ∷ 1 ∷ 0 ∷ 5 ∷ []), words (0 ∷ 0 ∷ 0 ∷ []))))
    -- E11: the smallest rule, and without its last byte
    ∷ ((length smallest ≡ 5) × (then (rule_of smallest) (λ r n. got n n) ≡ got 5 5) × (to_write (take 4 smallest) ≡ refused EndsEarly 4))
    -- E12: a goto to its own block is a cycle (K5); with a jump it is accepted, and unfinished under every budget
    ∷ ((rule_of (0x01 ∷ 0x01 ∷ 0x00 ∷ 0x01 ∷ 0x30 ∷ 0x00 ∷ []) ≡ refused GotoCycle 0) × (rule_of (0x01 ∷ 0x01 ∷ 0x00 ∷ 0x01 ∷ 0x31 ∷ 0x00 ∷ []) ≡ got endless 6)
    × ((q n : ℕ) → (after endless q n (start endless [])).finish ≡ Unfinished))
    ∷ []

-- ---- the claims

abbrev pub All : List (Type 0) → Type 0
All [] = Unit {0}
All (claim ∷ claims) = claim × All claims

-- after n rounds the endless rule has begun n, and stands where it stood
endless-after : (q n : ℕ) → after endless q n (start endless []) ≡ record { finish = Unfinished; begun = n; labels = []; block = 0; vars = unset ∷ [] }
unfolding after_from advance_from walk exit steps
endless-after q zero = refl
endless-after q (suc n) = rw (endless-after q n) (ap (λ k. record { finish = Unfinished; begun = k; labels = []; block = 0; vars = unset ∷ [] }) (add-one n))

pub examples_hold : All examples
unfolding examples settled quotient remainder twos expr_at end_at block_from blocks_to headed parsed rule_of eval step steps exit walk advance_from after_from expr_bytes cond_bytes stmt_bytes end_bytes in_turn block_bytes
    some reads end_looks read_first sets goes_to jumps_to outputs from grown growths closure led_to lowest_of cycle_of goes_back order_bytes inputs_of mask_of entry_of entries_to plan_by same planned
    word_sum check_of page_body page_of pages_to file_of starts_of map_from records_of count_to columns_of lines_from live_of most_of
    to_write first_over ran_reply run_reply records_in table_in
examples_hold =
    ((refl, refl), ((refl, refl), (refl, (refl, (refl, ((refl, refl), ((refl, refl, refl), ((refl, refl), (refl, (refl, ((refl, refl, refl), ((refl, refl, λ q n. ap (λ s. s.finish) (endless-after q n)), tt))))))))))))

-- R is read as its tree, and the tree is written as R; a constant below 0 is written in two's complement
pub written : ((rule_of R ≡ got tree_r 45) × (bytes_of tree_r ≡ R)) × ((constant_bytes (minus 1) ≡ 0xFF ∷ 0xFF ∷ 0xFF ∷ 0xFF ∷ []) × (constant_bytes (minus 2147483648) ≡ 0 ∷ 0 ∷ 0 ∷ 0x80 ∷ []))
unfolding twos expr_at end_at block_from blocks_to headed parsed rule_of some goes_to jumps_to from grown growths closure led_to lowest_of cycle_of expr_bytes stmt_bytes end_bytes in_turn block_bytes bytes_of
written = ((refl, refl), (refl, refl))
