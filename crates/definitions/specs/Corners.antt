-- What the twelve examples leave open: the other numbers, limits and orders of 01, a line each, by computation. A definition that is changed in one of these
-- points fails here.
use Rattle.std.specs.Prelude.{ℕ, ◌≡◌, refl, true, false, List, [], ◌∷◌, ◌++◌, pos, length, take, drop, replicate}
use Prim.{tt}
use Rattle.std.specs.Borrow.{Bor}
use Rattle.definitions.specs.Values.{Word, number, value, fault, settled, negation, sum, difference, quotient, remainder}
use Rattle.definitions.specs.declared.Operator.TheVariants.{Add, Multiply, Divide, Remainder}
use Rattle.definitions.specs.declared.Relation.TheVariants.{Less, Equal}
use Rattle.definitions.specs.declared.Joint.TheVariants.{And, Or}
use Rattle.definitions.specs.Rule.{Expr, Cond, Const, Var, Neg, Op, Case, Compare, Not, Join, Stmt, Set, Emit, End, Goto, Jump, Stop, If, Block, Rule}
use Rattle.definitions.specs.Grammar.{Got, got, refused, then, twos, expr_tag, op_tag, bad_expr, cond_tag, compare_tag, not_tag, join_tag, bad_cond, stmt_tag, no_stmt, end_tag, bad_end}
use Rattle.definitions.specs.Grammar.{expr_at, cond_at, end_at, block_from, blocks_to, headed, parsed, rule_of}
use Rattle.definitions.specs.Meaning.{at_byte, eval, holds}
use Rattle.definitions.specs.Direct.{start, step, steps, exit, walk, advance_from, after_from, after}
use Rattle.definitions.specs.Spelling.{expr_bytes, cond_bytes, stmt_bytes, end_bytes, in_turn, block_bytes}
use Rattle.definitions.specs.Columns.{flow_over, flow_of, led_to, J, some, reads, looks, end_looks, read_first, sets, goes_to, jumps_to, outputs, from, grown, growths, closure, inputs_of, outputs_of}
use Rattle.definitions.specs.Order.{lowest_of, waits, free, order_to, goes_back}
use Rattle.definitions.specs.Cycles.{cycle_of}
use Rattle.definitions.specs.Plan.{order_bytes, mask_of, entry_of, entries_to, plan_by, plan_of, same, planned, as_plan}
use Rattle.definitions.specs.Pages.{length_in, word_sum, check_of, page_body, page_of, pages_to, file_of, size_ok, all_zero, length_ok, page_at, payload_to, unpacked}
use Rattle.definitions.specs.Batch.{Budgets, common, each, starts_of, map_from, states_of, record_of, records_of, count_to, columns_of, lines_from, live_of, most_of}
use Rattle.definitions.specs.Finder.{is_number, line_index, line_part, found_in}
use Rattle.definitions.specs.Calls.{Batch, left, to_read, to_write, to_compile, reply_in, first_over, ran_reply, run_reply, records_in, table_in}
use Rattle.definitions.specs.Examples.{R, plan_r, smallest, ran, row, words, minus, All}
use Rattle.definitions.specs.Refusals.{Reply}
use Rattle.definitions.specs.declared.Kind.TheVariants.{ZeroDivisor, OutOfRange}
use Rattle.std.specs.Prelude.{Ok}
use Rattle.definitions.specs.declared.Reason.TheVariants.{FileSize, PageCheck, PageForm, BadHeader, BadTag, BadVariable, BadTarget, TooDeep, EndsEarly, BytesAfter, TooLong, NoRoom, Misfit, OverLimit, NotPlan, GotoCycle}
use Rattle.definitions.specs.Refusals.{refusal}

-- ---- short names

abbrev numeral : ℕ → Expr
numeral n = Const (pos n)

-- an expression with fault 2, and one with fault 3
abbrev by_zero : Expr
by_zero = Op Divide (numeral 1) (numeral 0)

abbrev too_high : Expr
too_high = Op Multiply (numeral 46341) (numeral 46341)

-- conditions that hold, do not hold, and fault
abbrev holding : Cond
holding = Compare Less (numeral 1) (numeral 2)

abbrev failing : Cond
failing = Compare Less (numeral 2) (numeral 1)

abbrev faulting : Cond
faulting = Compare Less by_zero (numeral 1)

-- a rule of one variable, which is no argument
abbrev rule : List Block → Rule
rule bs = record { form = 1; variables = 1; arguments = 0; blocks = bs }

abbrev block : List Stmt → End → Block
block xs e = record { body = xs; ending = e }

-- what one round of such a rule of one block leaves as record
abbrev leaves : ℕ → List Stmt → End → List Word
leaves q xs e = record_of q (after (rule (block xs e ∷ [])) q 1 (start (rule (block xs e ∷ [])) []))

-- blocks that set the variable and go on, read it and stop, read it and begin block 1 again
abbrev setting : Block
setting = block (Set 0 (numeral 1) ∷ []) (Goto 1)

abbrev reading : Block
reading = block (Emit (Var 0) ∷ []) Stop

abbrev looping : Block
looping = block (Emit (Var 0) ∷ []) (Jump 1)

-- an ending that asks for the variable
abbrev asking : End
asking = If (Compare Less (Var 0) (numeral 1)) Stop Stop

-- 6 by the argument
abbrev divides : Rule
divides = record { form = 1; variables = 1; arguments = 1; blocks = block (Emit (Op Divide (numeral 6) (Var 0)) ∷ []) Stop ∷ [] }

-- a rule's bytes, of n blocks and one variable: where it ends, or its refusal
abbrev blocks : ℕ → List ℕ → Got ℕ
blocks n s = then (rule_of (0x01 ∷ 0x01 ∷ 0x00 ∷ n ∷ s)) (λ r end. got end end)

-- a rule with a goto back, and its plan
abbrev going_back : List ℕ
going_back = 0x01 ∷ 0x01 ∷ 0x00 ∷ 0x03 ∷ 0x30 ∷ 0x02 ∷ 0x32 ∷ 0x30 ∷ 0x01 ∷ []

abbrev going_back_plan : List ℕ
going_back_plan =
    0x01 ∷ 0x01 ∷ 0x00 ∷ 0x03 ∷ 0 ∷ 0
    ∷ 33 ∷ 0 ∷ 0 ∷ 0 ∷ 0 ∷ 0 ∷ 1 ∷ 0
    ∷ 35 ∷ 0 ∷ 0 ∷ 0 ∷ 0 ∷ 0 ∷ 0 ∷ 0
    ∷ 36 ∷ 0 ∷ 0 ∷ 0 ∷ 0 ∷ 0 ∷ 0 ∷ 0
    ∷ 0 ∷ 2 ∷ 1
    ∷ drop 4 going_back

-- its plan with no order, and bodies that begin right after the entries
abbrev going_back_unordered : List ℕ
going_back_unordered =
    0x01 ∷ 0x01 ∷ 0x00 ∷ 0x03 ∷ 0 ∷ 0
    ∷ 30 ∷ 0 ∷ 0 ∷ 0 ∷ 0 ∷ 0 ∷ 1 ∷ 0
    ∷ 32 ∷ 0 ∷ 0 ∷ 0 ∷ 0 ∷ 0 ∷ 0 ∷ 0
    ∷ 33 ∷ 0 ∷ 0 ∷ 0 ∷ 0 ∷ 0 ∷ 0 ∷ 0
    ∷ drop 4 going_back

-- blocks 0 and 1 stop; block 2, which nothing leads to, goes back to 1
abbrev dead_back : List ℕ
dead_back = 0x01 ∷ 0x01 ∷ 0x00 ∷ 0x03 ∷ 0x32 ∷ 0x32 ∷ 0x30 ∷ 0x01 ∷ []

-- two blocks that go to each other
abbrev turning : List ℕ
turning = 0x01 ∷ 0x01 ∷ 0x00 ∷ 0x02 ∷ 0x30 ∷ 0x01 ∷ 0x30 ∷ 0x00 ∷ []

-- an if before these bytes, with a condition of depth 2
abbrev branch : List ℕ → List ℕ
branch rest = 0x33 ∷ 0x11 ∷ 0x02 ∷ 0x00 ∷ 0x02 ∷ 0x00 ∷ rest

-- the smallest rule's plan, and the reply to so many rows of it with so much room
abbrev smallest_plan : List ℕ
smallest_plan = 0x01 ∷ 0x01 ∷ 0x00 ∷ 0x01 ∷ 0 ∷ 0 ∷ 14 ∷ 0 ∷ 0 ∷ 0 ∷ 0 ∷ 0 ∷ 1 ∷ 0 ∷ drop 4 smallest

abbrev asked_by : Budgets → ℕ → ℕ → ℕ → ℕ → Reply
asked_by budgets rows q out work = run_reply (record { plan = smallest_plan; rows = rows; values = []; budgets = budgets; quota = q }) (planned smallest_plan) out work

abbrev asked : ℕ → ℕ → ℕ → ℕ → ℕ → Reply
asked rows budget q out work = asked_by (common budget) rows q out work

-- rows of R, with quota 4
abbrev rows_by : Budgets → List Word → Batch
rows_by budgets values = record { plan = plan_r; rows = length values; values = values; budgets = budgets; quota = 4 }

-- with budget 2
abbrev rows : List Word → Batch
rows values = rows_by (common 2) values

-- a buffer in memory, and the words that the finder gives
abbrev buffer : ℕ → List Word → Bor (List Word)
buffer k ws = record { ref_ptr = (k, 0); now = ws }

abbrev found : List Word → List Word → ℕ → ℕ → ℕ → ℕ → List Word
found result work count q columns k = (found_in (buffer 1 result) (buffer 2 work) count q columns k).1

-- three records without labels, of which the last two are of unfinished rows
abbrev three : List Word
three = words (1 ∷ 1 ∷ 0 ∷ 0 ∷ 0 ∷ 1 ∷ 0 ∷ 0 ∷ 0 ∷ 1 ∷ 0 ∷ 0 ∷ [])

-- ---- the rule, byte by byte

pub of_rules : List (Type 0)
of_rules =
    -- 1: the tags that no example has
    ((expr_tag 0x06 ≡ op_tag Multiply) × (expr_tag 0x07 ≡ op_tag Divide) × (expr_tag 0x08 ≡ op_tag Remainder) × (cond_tag 0x11 ≡ compare_tag Equal) × (cond_tag 0x12 ≡ not_tag) × (cond_tag 0x13 ≡ join_tag And) × (cond_tag 0x14 ≡ join_tag Or))
    -- 2: tags are hexadecimal, and there are no others
    ∷ ((expr_tag 10 ≡ bad_expr) × (expr_tag 0x10 ≡ bad_expr) × (cond_tag 0x15 ≡ bad_cond) × (stmt_tag 0x22 ≡ no_stmt) × (end_tag 0x34 ≡ bad_end))
    -- 3: a constant's lowest byte comes first, and it has a sign
    ∷ ((expr_at 1 1 (0x01 ∷ 1 ∷ 2 ∷ 3 ∷ 4 ∷ []) 0 ≡ got (Const (pos 0x04030201)) 5) × (expr_at 1 1 (0x01 ∷ 0 ∷ 0 ∷ 0 ∷ 0x80 ∷ []) 0 ≡ got (Const (minus 2147483648)) 5))
    -- 4: form 1, v from 1 to 16, a to v, n from 1 to 64: the last of these headers is good
    ∷ ((rule_of (2 ∷ 16 ∷ 16 ∷ 64 ∷ []) ≡ refused BadHeader 0) × (rule_of (1 ∷ 17 ∷ 16 ∷ 64 ∷ []) ≡ refused BadHeader 1) × (rule_of (1 ∷ 16 ∷ 17 ∷ 64 ∷ []) ≡ refused BadHeader 2) × (rule_of (1 ∷ 16 ∷ 16 ∷ 65 ∷ []) ≡ refused BadHeader 3) × (rule_of (1 ∷ 1 ∷ 0 ∷ 0 ∷ []) ≡ refused BadHeader 3) × (rule_of (1 ∷ 16 ∷ 16 ∷ 64 ∷ []) ≡ refused EndsEarly 4))
    -- 5: a header that is cut, and one that is bad twice
    ∷ ((rule_of (0xFF ∷ 0xFF ∷ []) ≡ refused EndsEarly 2) × (rule_of (0x01 ∷ 0x00 ∷ 0x09 ∷ 0x41 ∷ []) ≡ refused BadHeader 1))
    -- 6: an emit's and a set's expression go to depth 8
    ∷ ((blocks 1 (0x21 ∷ replicate 7 0x03 ++ (0x02 ∷ 0x00 ∷ 0x32 ∷ [])) ≡ got 15 15) × (blocks 1 (0x20 ∷ 0x00 ∷ replicate 7 0x03 ++ (0x02 ∷ 0x00 ∷ 0x32 ∷ [])) ≡ got 16 16) × (blocks 1 (0x21 ∷ replicate 8 0x03 ++ (0x02 ∷ 0x00 ∷ 0x32 ∷ [])) ≡ refused TooDeep 13))
    -- 7: so does a condition with the expressions in it, from the start in each if
    ∷ ((blocks 1 (branch (0x33 ∷ replicate 6 0x12 ++ (0x11 ∷ 0x02 ∷ 0x00 ∷ 0x02 ∷ 0x00 ∷ 0x32 ∷ 0x32 ∷ 0x32 ∷ []))) ≡ got 25 25) × (blocks 1 (0x33 ∷ replicate 7 0x12 ++ (0x11 ∷ 0x02 ∷ 0x00 ∷ [])) ≡ refused TooDeep 13))
    -- 8: endings go to depth 4
    ∷ ((blocks 1 (branch (branch (branch (replicate 4 0x32)))) ≡ got 26 26) × (blocks 1 (branch (branch (branch (branch (replicate 5 0x32))))) ≡ refused TooDeep 28))
    -- 9: a variable that there is not, read and set
    ∷ ((blocks 1 (0x21 ∷ 0x02 ∷ 0x01 ∷ []) ≡ refused BadVariable 6) × (blocks 1 (0x20 ∷ 0x01 ∷ []) ≡ refused BadVariable 5))
    -- 10: a goto and a jump go to any block that there is
    ∷ ((blocks 2 (0x30 ∷ 0x01 ∷ 0x31 ∷ 0x00 ∷ []) ≡ got 8 8) × (blocks 2 (0x30 ∷ 0x02 ∷ []) ≡ refused BadTarget 5) × (blocks 2 (0x31 ∷ 0x02 ∷ []) ≡ refused BadTarget 5))
    -- 46: gotos of two blocks and of one that form a cycle, told at the lowest; a cycle that nothing leads to; the arm of an if; a jump closes no cycle; 7 and 10 come first
    ∷ ((blocks 3 (0x32 ∷ 0x30 ∷ 0x02 ∷ 0x30 ∷ 0x01 ∷ []) ≡ refused GotoCycle 1) × (blocks 2 (0x32 ∷ 0x30 ∷ 0x01 ∷ []) ≡ refused GotoCycle 1) × (blocks 2 (branch (0x32 ∷ 0x30 ∷ 0x01 ∷ 0x30 ∷ 0x00 ∷ [])) ≡ refused GotoCycle 0)
    × (blocks 2 (0x30 ∷ 0x01 ∷ 0x31 ∷ 0x00 ∷ []) ≡ got 8 8) × (blocks 2 (0x30 ∷ 0x00 ∷ 0x30 ∷ 0x02 ∷ []) ≡ refused BadTarget 7) × (blocks 1 (0x30 ∷ 0x00 ∷ 0x32 ∷ []) ≡ refused BytesAfter 6))
    -- 11: a constant that is cut, and bytes after the last block
    ∷ ((expr_at 1 1 (0x01 ∷ 0 ∷ []) 0 ≡ refused EndsEarly 2) × (blocks 1 (0x32 ∷ 0x32 ∷ []) ≡ refused BytesAfter 5))
    -- 12: at one place 9 goes before 8, and 8 before 5
    ∷ ((expr_at 0 1 [] 0 ≡ refused EndsEarly 0) × (expr_at 0 1 (0xFF ∷ []) 0 ≡ refused TooDeep 0) × (expr_at 1 1 (0xFF ∷ []) 0 ≡ refused BadTag 0) × (cond_at 0 1 (0xFF ∷ []) 0 ≡ refused TooDeep 0) × (cond_at 1 1 (0xFF ∷ []) 0 ≡ refused BadTag 0) × (end_at 1 1 1 (0xFF ∷ []) 0 ≡ refused BadTag 0))
    ∷ []

pub rules_hold : All of_rules
unfolding of_rules twos expr_at cond_at end_at block_from blocks_to headed parsed rule_of some goes_to jumps_to from grown growths closure led_to lowest_of cycle_of
rules_hold =
    ((refl, refl, refl, refl, refl, refl, refl), ((refl, refl, refl, refl, refl), ((refl, refl), ((refl, refl, refl, refl, refl, refl), ((refl, refl), ((refl, refl, refl), ((refl, refl), ((refl, refl), ((refl, refl), ((refl, refl, refl), ((refl, refl, refl, refl, refl, refl), ((refl, refl), ((refl, refl, refl, refl, refl, refl), tt)))))))))))))

-- ---- meaning

pub of_meaning : List (Type 0)
of_meaning =
    -- 13: the range of values
    ((settled (minus 2147483648) ≡ value (minus 2147483648)) × (settled (minus 2147483649) ≡ fault OutOfRange) × (settled (pos 2147483647) ≡ value (pos 2147483647)) × (settled (pos 2147483648) ≡ fault OutOfRange))
    -- 14: every operator's result has to lie in it
    ∷ ((negation (minus 2147483648) ≡ fault OutOfRange) × (sum (pos 2147483647) (pos 1) ≡ fault OutOfRange) × (difference (minus 2147483648) (pos 1) ≡ fault OutOfRange))
    -- 15: a divisor of 0 is fault 2 in both
    ∷ ((quotient (minus 2147483648) (pos 0) ≡ fault ZeroDivisor) × (remainder (minus 2147483648) (pos 0) ≡ fault ZeroDivisor))
    -- 16: the operators that no example works out
    ∷ ((eval (Neg (numeral 7)) (at_byte 0) [] ≡ value (number (minus 7))) × (eval (Op Multiply (numeral 7) (numeral 2)) (at_byte 0) [] ≡ value (number (pos 14))) × (eval (Op Divide (numeral 7) (numeral 2)) (at_byte 0) [] ≡ value (number (pos 3))) × (eval (Op Remainder (numeral 7) (numeral 2)) (at_byte 0) [] ≡ value (number (pos 1))))
    -- 17: left to right, and the first fault stands
    ∷ ((eval (Op Add by_zero too_high) (at_byte 0) [] ≡ fault (record { kind = ZeroDivisor; place = 1 })) × (eval (Op Add too_high by_zero) (at_byte 0) [] ≡ fault (record { kind = OutOfRange; place = 1 })) × (holds (Compare Less by_zero too_high) (at_byte 0) [] ≡ fault (record { kind = ZeroDivisor; place = 1 })) × (holds (Compare Less too_high by_zero) (at_byte 0) [] ≡ fault (record { kind = OutOfRange; place = 1 })))
    -- 17, places: the innermost operator at fault, by its own tag: a right operand, a negation and what is negated, the arm that a case takes
    ∷ ((eval (Op Add (numeral 1) by_zero) (at_byte 10) [] ≡ fault (record { kind = ZeroDivisor; place = 16 })) × (eval (Neg by_zero) (at_byte 10) [] ≡ fault (record { kind = ZeroDivisor; place = 11 })) × (eval (Neg (Const (minus 2147483648))) (at_byte 10) [] ≡ fault (record { kind = OutOfRange; place = 10 }))
    × (eval (Op Add (Const (pos 2147483647)) (numeral 1)) (at_byte 10) [] ≡ fault (record { kind = OutOfRange; place = 10 }))
    × ((eval (Case holding by_zero (numeral 1)) (at_byte 0) [] ≡ fault (record { kind = ZeroDivisor; place = 12 })) × (eval (Case failing (numeral 1) by_zero) (at_byte 0) [] ≡ fault (record { kind = ZeroDivisor; place = 17 }))))
    -- 18: and, or look right only where the left leaves it open
    ∷ ((holds (Join And failing faulting) (at_byte 0) [] ≡ value false) × (holds (Join Or holding faulting) (at_byte 0) [] ≡ value true) × (holds (Join And holding faulting) (at_byte 0) [] ≡ fault (record { kind = ZeroDivisor; place = 13 })) × (holds (Join Or failing faulting) (at_byte 0) [] ≡ fault (record { kind = ZeroDivisor; place = 13 })))
    -- 19: not, and equal of both signs
    ∷ ((holds (Not holding) (at_byte 0) [] ≡ value false) × (holds (Compare Equal (Const (minus 1)) (Const (minus 1))) (at_byte 0) [] ≡ value true) × (holds (Compare Equal (numeral 1) (Const (minus 1))) (at_byte 0) [] ≡ value false))
    -- 20: status 0 unfinished, 1 stopped, 2 and 3 the faults, 4 quota
    ∷ ((leaves 0 [] (Jump 0) ≡ words (0 ∷ 1 ∷ 0 ∷ 0 ∷ [])) × (leaves 0 [] Stop ≡ words (1 ∷ 1 ∷ 0 ∷ 0 ∷ [])) × (leaves 0 (Emit by_zero ∷ []) Stop ≡ words (2 ∷ 1 ∷ 0 ∷ 5 ∷ [])) × (leaves 0 (Emit too_high ∷ []) Stop ≡ words (3 ∷ 1 ∷ 0 ∷ 5 ∷ [])) × (leaves 0 (Emit (numeral 7) ∷ []) Stop ≡ words (4 ∷ 1 ∷ 0 ∷ 0 ∷ [])))
    -- 21: labels emitted before a fault stay, in a statement and in an if
    ∷ ((leaves 2 (Emit (numeral 7) ∷ Set 0 by_zero ∷ []) Stop ≡ words (2 ∷ 1 ∷ 1 ∷ 12 ∷ 7 ∷ 0 ∷ [])) × (leaves 2 (Emit (numeral 7) ∷ []) (If faulting Stop Stop) ≡ words (2 ∷ 1 ∷ 1 ∷ 12 ∷ 7 ∷ 0 ∷ [])))
    -- 21, places: 1 + -(1 rem 0), where only the remainder faults; a fault in block 1, and in the second arm of an if inside an if
    ∷ ((leaves 0 (Emit (Op Add (numeral 1) (Neg (Op Remainder (numeral 1) (numeral 0)))) ∷ []) Stop ≡ words (2 ∷ 1 ∷ 0 ∷ 12 ∷ []))
    × (record_of 0 (after (rule (block [] (Goto 1) ∷ block (Emit by_zero ∷ []) Stop ∷ [])) 0 1 (start (rule (block [] (Goto 1) ∷ block (Emit by_zero ∷ []) Stop ∷ [])) [])) ≡ words (2 ∷ 1 ∷ 0 ∷ 7 ∷ []))
    × (leaves 0 [] (If failing Stop (If faulting Stop Stop)) ≡ words (2 ∷ 1 ∷ 0 ∷ 19 ∷ [])))
    -- 22: the label that the quota leaves no room for ends the row, and is not kept
    ∷ (leaves 1 (Emit (numeral 7) ∷ Emit (numeral 8) ∷ []) Stop ≡ words (4 ∷ 1 ∷ 1 ∷ 0 ∷ 7 ∷ []))
    ∷ []

pub meaning_hold : All of_meaning
unfolding of_meaning settled quotient remainder eval holds step steps exit walk advance_from after_from expr_bytes cond_bytes stmt_bytes end_bytes in_turn block_bytes
meaning_hold =
    ((refl, refl, refl, refl), ((refl, refl, refl), ((refl, refl), ((refl, refl, refl, refl), ((refl, refl, refl, refl), ((refl, refl, refl, refl, (refl, refl)), ((refl, refl, refl, refl), ((refl, refl, refl), ((refl, refl, refl, refl, refl), ((refl, refl), ((refl, refl, refl), (refl, tt))))))))))))

-- ---- columns and the plan

-- block 0 stops; block 1, which nothing names but itself, emits variable 1 and jumps
abbrev dead_end : List ℕ
dead_end = 1 ∷ 2 ∷ 0 ∷ 2 ∷ 0x32 ∷ 0x21 ∷ 0x02 ∷ 1 ∷ 0x31 ∷ 1 ∷ []

abbrev dead_end_plan : List ℕ
dead_end_plan = 1 ∷ 2 ∷ 0 ∷ 2 ∷ 0 ∷ 0 ∷ 22 ∷ 0 ∷ 0 ∷ 0 ∷ 0 ∷ 0 ∷ 1 ∷ 0 ∷ 23 ∷ 0 ∷ 0 ∷ 0 ∷ 0 ∷ 0 ∷ 0 ∷ 0 ∷ 0x32 ∷ 0x21 ∷ 0x02 ∷ 1 ∷ 0x31 ∷ 1 ∷ []

abbrev dead_end_before : List ℕ
dead_end_before = 1 ∷ 2 ∷ 0 ∷ 2 ∷ 2 ∷ 0 ∷ 22 ∷ 0 ∷ 2 ∷ 0 ∷ 0 ∷ 0 ∷ 1 ∷ 0 ∷ 23 ∷ 0 ∷ 2 ∷ 0 ∷ 2 ∷ 0 ∷ 1 ∷ 0 ∷ 0x32 ∷ 0x21 ∷ 0x02 ∷ 1 ∷ 0x31 ∷ 1 ∷ []

pub of_columns : List (Type 0)
of_columns =
    -- 23: FV: a set shields what comes after it, in statements and ending, but not its own expression
    ((read_first (Set 0 (Var 0) ∷ []) Stop 0 ≡ true) × (read_first (Set 0 (numeral 1) ∷ Emit (Var 0) ∷ []) Stop 0 ≡ false) × (read_first [] asking 0 ≡ true) × (read_first (Set 0 (numeral 1) ∷ []) asking 0 ≡ false))
    -- 24: BV: what a block sets, it does not need for the blocks after it
    ∷ ((inputs_of (flow_of (rule (setting ∷ reading ∷ []))) 0 0 ≡ false) × (outputs_of (flow_of (rule (setting ∷ reading ∷ []))) 0 0 ≡ true))
    -- 25: J: its blocks have the same inputs. A block that nothing leads to gives none, whatever it reads and names: no jump of its own leads to it, and none of its jumps brings a living block into J
    ∷ ((inputs_of (flow_of (rule (block [] (Jump 1) ∷ looping ∷ []))) 0 0 ≡ true)
    × ((inputs_of (flow_of (rule (block [] Stop ∷ looping ∷ []))) 0 0 ≡ false) × (inputs_of (flow_of (rule (block [] Stop ∷ looping ∷ []))) 1 0 ≡ false))
    × (J (flow_of (rule (block [] Stop ∷ looping ∷ []))) 1 ≡ false)
    × ((J (flow_of (rule (setting ∷ reading ∷ block [] (Jump 1) ∷ []))) 1 ≡ false) × (inputs_of (flow_of (rule (setting ∷ reading ∷ block [] (Jump 1) ∷ []))) 0 0 ≡ false)))
    -- 25, chains: a chain goes along gotos and jumps, up and down, through either arm of an if whatever its condition, and begins at block 0 alone
    ∷ ((led_to (rule (block [] (Goto 1) ∷ block [] (Jump 2) ∷ block [] Stop ∷ [])) 2 ≡ true)
    × (led_to (rule (block [] (Jump 2) ∷ block [] Stop ∷ block [] (Jump 1) ∷ [])) 1 ≡ true)
    × ((led_to (rule (block [] (If failing (Goto 1) Stop) ∷ block [] Stop ∷ [])) 1 ≡ true) × (led_to (rule (block [] (If holding Stop (Jump 1)) ∷ block [] Stop ∷ [])) 1 ≡ true))
    × (led_to (rule (block (Emit by_zero ∷ []) (Goto 1) ∷ block [] Stop ∷ [])) 1 ≡ true)
    × (led_to (rule (block [] Stop ∷ block [] (Goto 2) ∷ block [] (Jump 1) ∷ [])) 2 ≡ false))
    -- 25, tags: in a block that counts all tags do, also those of an arm that is never taken
    ∷ ((read_first (Emit (Case failing (Var 0) (numeral 1)) ∷ []) Stop 0 ≡ true) × (read_first [] (If failing asking Stop) 0 ≡ true))
    -- 25, bytes: a rule whose block 1 is dead: its plan has masks 0 everywhere; the plan that counts every block, as document 01 had it, has LC 2 and is 15 now
    ∷ ((then (rule_of dead_end) (λ r n. got (plan_of r dead_end) n) ≡ got dead_end_plan 10)
    × (then (rule_of dead_end) (λ r n. got (plan_by (flow_over (λ _. true) r) r dead_end) n) ≡ got dead_end_before 10)
    × (planned dead_end_before ≡ refused NotPlan 0))
    -- 47: block 0 goes to 2 and 2 back to 1: the order 0, 2, 1 stands between the entries and the bodies, and counts in their offsets; a plan without it, or in another order, is none
    ∷ ((then (rule_of going_back) (λ r n. got (plan_of r going_back) n) ≡ got going_back_plan 9) × (planned going_back_plan ≡ rule_of going_back)
    × (planned going_back_unordered ≡ refused NotPlan 0) × (planned (take 31 going_back_plan ++ (1 ∷ 2 ∷ drop 33 going_back_plan)) ≡ refused NotPlan 0))
    -- 47, dead blocks: a goto back in a dead block only asks for the order too, and counts in it
    ∷ (then (rule_of dead_back) (λ r n. got (order_bytes r) n) ≡ got (0 ∷ 2 ∷ 1 ∷ []) 8)
    -- 47, cycles: what would be the plan of a rule with a cycle is none: of two blocks, and of one that goes to itself
    ∷ ((then (parsed turning) (λ r n. planned (plan_of r turning)) ≡ refused NotPlan 0) × (planned (take 14 smallest_plan ++ (0x30 ∷ 0 ∷ [])) ≡ refused NotPlan 0))
    -- 26: no plan: another mask, a byte more, a rule that is too long
    ∷ ((planned (take 4 plan_r ++ (1 ∷ drop 5 plan_r)) ≡ refused NotPlan 0) × (planned (plan_r ++ (0 ∷ [])) ≡ refused NotPlan 0) × ((p : List ℕ) (r : Rule) → as_plan p (got r 4065) ≡ refused NotPlan 0))
    ∷ []

pub columns_hold : All of_columns
unfolding of_columns twos expr_at cond_at end_at block_from blocks_to headed parsed rule_of
    some reads looks end_looks read_first sets goes_to jumps_to outputs from grown growths closure led_to lowest_of waits free order_to cycle_of goes_back order_bytes inputs_of mask_of entry_of entries_to plan_by same planned
columns_hold =
    ((refl, refl, refl, refl), ((refl, refl), ((refl, (refl, refl), refl, (refl, refl)), ((refl, refl, (refl, refl), refl, refl), ((refl, refl), ((refl, refl, refl), ((refl, refl, refl, refl), (refl, ((refl, refl), ((refl, refl, λ p r. refl), tt))))))))))

-- ---- files

pub of_files : List (Type 0)
of_files =
    -- 27: a file is 1 to 8 whole pages, and else 1
    ((unpacked [] ≡ refused FileSize 0) × (size_ok 768 ≡ false) × (size_ok 512 ≡ true) × (size_ok 4096 ≡ true) × (size_ok 4608 ≡ false))
    -- 28: the last page holds 1 to 508 bytes, every other 508
    ∷ ((length_ok true 0 ≡ false) × (length_ok true 1 ≡ true) × (length_ok true 508 ≡ true) × (length_ok true 509 ≡ false) × (length_ok false 507 ≡ false) × (length_ok false 508 ≡ true))
    -- 29: a page of length 0 that is right otherwise; as page 1 its check is wrong too, and 2 comes first
    ∷ ((page_at true (replicate 509 0 ++ (1 ∷ 0 ∷ 1 ∷ [])) 0 ≡ refused PageForm 0) × (page_at true (replicate 509 0 ++ (1 ∷ 0 ∷ 1 ∷ [])) 1 ≡ refused PageCheck 1))
    -- 30: a byte after the payload, with a check that is right
    ∷ (page_at true (1 ∷ 0 ∷ 7 ∷ 1 ∷ replicate 506 0 ++ (8 ∷ 1 ∷ [])) 0 ≡ refused PageForm 0)
    -- 31: byte 509 begins a page
    ∷ ((length (file_of (replicate 508 0)) ≡ 512) × (take 3 (drop 512 (file_of (replicate 508 0 ++ (9 ∷ [])))) ≡ 1 ∷ 0 ∷ 9 ∷ []))
    ∷ []

pub files_hold : All of_files
unfolding of_files length_in word_sum check_of page_body page_of pages_to file_of all_zero length_ok page_at unpacked
files_hold =
    ((refl, refl, refl, refl, refl), ((refl, refl, refl, refl, refl, refl), ((refl, refl), (refl, ((refl, refl), tt)))))

-- ---- a batch

pub of_batch : List (Type 0)
of_batch =
    -- 32: a row that has ended begins no further round
    (ran (row 9 4) ≡ (Ok 3, (words (1 ∷ 3 ∷ 2 ∷ 0 ∷ 2 ∷ 3 ∷ 0 ∷ 0 ∷ []), words (replicate 5 0))))
    -- 33: rows 2, 0, -5, as the program has them: each row has its own labels, and the most rounds are no sum
    ∷ (ran (rows (pos 2 ∷ pos 0 ∷ minus 5 ∷ [])) ≡ (Ok 2, (words (0 ∷ 2 ∷ 1 ∷ 0 ∷ 2 ∷ 0 ∷ 0 ∷ 0 ∷ 1 ∷ 1 ∷ 2 ∷ 0 ∷ 0 ∷ 0 ∷ 0 ∷ 0 ∷ []) ++ (pos 1 ∷ pos 1 ∷ pos 2 ∷ pos 0 ∷ minus 5 ∷ words (0 ∷ 0 ∷ 0 ∷ [])), words (0 ∷ 1 ∷ 2 ∷ 0 ∷ 3 ∷ replicate 10 0))))
    -- 34: a line has its row's number; no rows began no rounds
    ∷ ((table_in (rows (pos 0 ∷ pos 2 ∷ [])) (planned plan_r) ≡ words (1 ∷ 1 ∷ 2 ∷ 0 ∷ 3 ∷ replicate 5 0)) × (ran (rows []) ≡ (Ok 0, ([], []))))
    -- 35: a row's fault leaves the row after it alone
    ∷ (records_of 1 (states_of divides (pos 0 ∷ pos 3 ∷ []) 2 (common 1) 1) ≡ words (2 ∷ 1 ∷ 0 ∷ 5 ∷ 0 ∷ 1 ∷ 1 ∷ 1 ∷ 0 ∷ 2 ∷ []))
    -- 44: arguments 2 and 2 under budgets 2 and 3: the first row is unfinished, the second has ended
    ∷ (ran (rows_by (each (2 ∷ 3 ∷ [])) (pos 2 ∷ pos 2 ∷ [])) ≡ (Ok 3, (words (0 ∷ 2 ∷ 1 ∷ 0 ∷ 2 ∷ 0 ∷ 0 ∷ 0 ∷ 1 ∷ 3 ∷ 2 ∷ 0 ∷ 2 ∷ 3 ∷ 0 ∷ 0 ∷ []), words (0 ∷ 1 ∷ 2 ∷ 0 ∷ 3 ∷ replicate 5 0))))
    ∷ []

pub batch_hold : All of_batch
unfolding of_batch twos expr_at cond_at end_at block_from blocks_to headed parsed rule_of
    settled quotient eval holds step steps exit walk advance_from after_from expr_bytes cond_bytes stmt_bytes end_bytes in_turn block_bytes
    some reads looks end_looks read_first sets goes_to jumps_to outputs from grown growths closure led_to lowest_of cycle_of goes_back order_bytes inputs_of mask_of entry_of entries_to plan_by same planned
    starts_of map_from records_of count_to columns_of lines_from live_of most_of first_over ran_reply run_reply records_in table_in
batch_hold =
    (refl, (refl, ((refl, refl), (refl, (refl, tt)))))

-- ---- the finder

pub of_finder : List (Type 0)
of_finder =
    -- 36: a record; of two lines the first; where a line lies
    ((found three (words (1 ∷ 5 ∷ 1 ∷ 1 ∷ 6 ∷ 1 ∷ [])) 3 0 0 0 ≡ words (1 ∷ 1 ∷ 0 ∷ 0 ∷ [])) × (found three (words (1 ∷ 5 ∷ 1 ∷ 1 ∷ 6 ∷ 1 ∷ [])) 3 0 0 1 ≡ words (1 ∷ 5 ∷ 1 ∷ [])) × (found_in (buffer 1 three) (buffer 2 (words (1 ∷ 5 ∷ 1 ∷ 2 ∷ 6 ∷ 1 ∷ []))) 3 0 0 2 ≡ ((2, 12), words (2 ∷ 6 ∷ 1 ∷ []))))
    -- 37: the empty part: no such row, no line, no whole line, too short a result
    ∷ ((found three [] 0 0 0 0 ≡ []) × (found three (words (1 ∷ 5 ∷ 1 ∷ [])) 3 0 0 2 ≡ []) × (found three (words (2 ∷ 6 ∷ [])) 3 0 0 2 ≡ []) × (found three [] 3 1 0 0 ≡ []))
    -- 38: 256 rows, quota 16 and 16 columns, and one more of each
    ∷ ((found (replicate 1028 (pos 1)) [] 256 0 0 0 ≡ words (1 ∷ 1 ∷ 1 ∷ 1 ∷ [])) × (found (replicate 1028 (pos 1)) [] 257 0 0 0 ≡ []) × (found (replicate 21 (pos 1)) [] 1 16 0 0 ≡ replicate 20 (pos 1)) × (found (replicate 21 (pos 1)) [] 1 17 0 0 ≡ []) × (found (words (0 ∷ 0 ∷ 0 ∷ 0 ∷ [])) (replicate 20 (pos 0)) 1 0 16 0 ≡ replicate 19 (pos 0)) × (found (words (0 ∷ 0 ∷ 0 ∷ 0 ∷ [])) (replicate 20 (pos 0)) 1 0 17 0 ≡ []))
    ∷ []

pub finder_hold : All of_finder
unfolding of_finder is_number line_index line_part found_in
finder_hold =
    ((refl, refl, refl), ((refl, refl, refl, refl), ((refl, refl, refl, refl, refl, refl), tt)))

-- ---- reply numbers

pub of_replies : List (Type 0)
of_replies =
    -- 39: the writer's 11 comes before all else
    ((to_write (replicate 4064 0) ≡ refused BadHeader 0) × (to_write (replicate 4065 0) ≡ refused TooLong 0))
    -- 40: what is written, with just enough room and one byte less: 12 at 0
    ∷ ((to_read (file_of R) ≡ got R 45) × (to_compile (file_of R) ≡ got plan_r 45) × (reply_in 512 (to_write R) ≡ Ok 512) × (reply_in 511 (to_write R) ≡ refusal NoRoom 0))
    -- 41: running: up to 256 rows, budget 65535 and quota 16, and as many values as the rows take
    ∷ ((asked 256 65535 16 0 0 ≡ refusal NoRoom 0) × (asked 257 0 0 0 0 ≡ refusal Misfit 0) × (asked 1 65536 0 0 0 ≡ refusal OverLimit 0) × (asked 1 0 17 0 0 ≡ refusal OverLimit 0) × (run_reply (record { plan = plan_r; rows = 2; values = pos 1 ∷ []; budgets = common 0; quota = 0 }) (planned plan_r) 100 100 ≡ refusal Misfit 0))
    -- 42: running: 15, 13, 14, 12 for the output, 12 for the working buffer
    ∷ ((run_reply (record { plan = []; rows = 257; values = []; budgets = common 65536; quota = 17 }) (planned []) 0 0 ≡ refusal NotPlan 0) × (asked 257 65536 17 0 0 ≡ refusal Misfit 0) × (asked 256 65536 17 0 0 ≡ refusal OverLimit 0) × (asked 1 1 0 3 0 ≡ refusal NoRoom 0) × (asked 1 1 0 4 2 ≡ refusal NoRoom 1) × (asked 1 1 0 4 3 ≡ Ok 1))
    -- 45: with a budget for each row: 13 unless they are as many, also for none; 14 at 0 for the quota, then at the lowest row whose budget is too high
    ∷ ((asked_by (each (1 ∷ [])) 2 17 100 100 ≡ refusal Misfit 0) × (asked_by (each (1 ∷ 1 ∷ 1 ∷ [])) 2 0 100 100 ≡ refusal Misfit 0) × (asked_by (each []) 0 0 0 0 ≡ Ok 0) × (asked_by (each (1 ∷ 65536 ∷ 65536 ∷ [])) 3 17 0 0 ≡ refusal OverLimit 0)
    × (asked_by (each (65535 ∷ 65536 ∷ 65536 ∷ [])) 3 16 0 0 ≡ refusal OverLimit 1) × (asked_by (each (1 ∷ 0 ∷ [])) 2 0 8 6 ≡ Ok 1) × (asked 0 65536 0 0 0 ≡ refusal OverLimit 0))
    -- 43: a refusal changes no buffer, and what lies beyond the written part stays
    ∷ ((left (refusal NoRoom 0) (words (1 ∷ 2 ∷ [])) (words (7 ∷ 8 ∷ 9 ∷ [])) ≡ words (7 ∷ 8 ∷ 9 ∷ [])) × (left (Ok 2) (words (1 ∷ 2 ∷ [])) (words (7 ∷ 8 ∷ 9 ∷ [])) ≡ words (1 ∷ 2 ∷ 9 ∷ [])))
    ∷ []

pub replies_hold : All of_replies
unfolding of_replies twos expr_at cond_at end_at block_from blocks_to headed parsed rule_of
    steps exit walk advance_from after_from expr_bytes cond_bytes stmt_bytes end_bytes in_turn block_bytes some reads looks end_looks read_first sets goes_to jumps_to outputs from grown growths closure led_to lowest_of cycle_of goes_back order_bytes inputs_of mask_of entry_of entries_to plan_by same planned
    length_in word_sum check_of page_body page_of pages_to file_of all_zero length_ok page_at payload_to unpacked starts_of map_from count_to most_of to_read to_write to_compile reply_in first_over ran_reply run_reply
replies_hold =
    ((refl, refl), ((refl, refl, refl, refl), ((refl, refl, refl, refl, refl), ((refl, refl, refl, refl, refl, refl), ((refl, refl, refl, refl, refl, refl, refl), ((refl, refl), tt))))))
