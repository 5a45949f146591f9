-- What the grammar reads spans the bytes that it read, and the tags there are those of the tree: by induction on the levels left. Assumes nothing.
use Prim.Native.Nat.{ℕ, zero, suc, ◌+◌, ◌<◌}
use native.Mathlib.Omega.{arith}
use mathlib.Core.Path.{◌≡◌, refl, ◌∙◌}
use mathlib.Core.Bool.{Bool, true, false, cond}
use mathlib.Core.List.{List, [], ◌∷◌, ◌++◌, append_assoc}
use lib.Dec.{ltb, leb}
use lib.ListN.{length, get_or, get_or-eq_default}
use borrow.Author.Tests.{ltb-true, ltb-false, leb-true, ne_eqb}
use Rattle.definitions.specs.Rule.{Expr, Cond, Const, Var, Neg, Op, Case, Compare, Not, Join, Stmt, Set, Emit, End, Goto, Jump, If, Block}
use Rattle.definitions.specs.Grammar.{Got, got, refused, then, byte_at, one, two, constant_at, constant_in, variable_at, target_at}
use Rattle.definitions.specs.Grammar.{ExprTag, const_tag, var_tag, neg_tag, case_tag, bad_expr, op_tag, expr_tag, CondTag, not_tag, bad_cond, compare_tag, join_tag, cond_tag}
use Rattle.definitions.specs.Grammar.{StmtTag, set_tag, emit_tag, no_stmt, stmt_tag, EndTag, goto_tag, jump_tag, stop_tag, if_tag, bad_end, end_tag}
use Rattle.definitions.specs.Grammar.{expr_body, cond_body, expr_at, cond_at, depth, set_at, emit_at, end_body, end_at, levels, with_first, block_body, block_from, block_at}
use Rattle.flows.specs.Marks.{Mark, carries, tag_width, mark_of}
use Rattle.flows.proofs.Spans.{either, Spans, joined, tag_spans}
use Rattle.flows.proofs.Trees.{expr_marks, cond_marks, end_marks, stmt_marks, body_marks, block_marks}
use Rattle.definitions.specs.declared.Reason.TheVariants.{TooDeep, EndsEarly, BadVariable, BadTarget}
use Rattle.definitions.specs.declared.Reason.{Reason}

-- ---- which byte each tag is, as far as it counts

abbrev Plain : ℕ → Type 0
Plain t = (tag_width t ≡ 1) × ((x : ℕ) → mark_of t x ≡ [])

abbrev ExprByte : ExprTag → ℕ → Type 0
ExprByte const_tag t = t ≡ 0x01
ExprByte var_tag t = t ≡ 0x02
ExprByte neg_tag t = Plain t
ExprByte (op_tag o) t = Plain t
ExprByte case_tag t = Plain t
ExprByte bad_expr t = Unit {0}

abbrev CondByte : CondTag → ℕ → Type 0
CondByte (compare_tag r) t = Plain t
CondByte not_tag t = Plain t
CondByte (join_tag j) t = Plain t
CondByte bad_cond t = Unit {0}

abbrev StmtByte : StmtTag → ℕ → Type 0
StmtByte set_tag t = t ≡ 0x20
StmtByte emit_tag t = t ≡ 0x21
StmtByte no_stmt t = Unit {0}

abbrev EndByte : EndTag → ℕ → Type 0
EndByte goto_tag t = t ≡ 0x30
EndByte jump_tag t = t ≡ 0x31
EndByte stop_tag t = t ≡ 0x32
EndByte if_tag t = t ≡ 0x33
EndByte bad_end t = Unit {0}

expr_byte : (t : ℕ) → ExprByte (expr_tag t) t
unfolding tag_width carries mark_of
expr_byte t =
    either P t 0x01 refl λ n1.
    either P t 0x02 refl λ n2.
    either P t 0x03 (refl, λ x. refl) λ n3.
    either P t 0x04 (refl, λ x. refl) λ n4.
    either P t 0x05 (refl, λ x. refl) λ n5.
    either P t 0x06 (refl, λ x. refl) λ n6.
    either P t 0x07 (refl, λ x. refl) λ n7.
    either P t 0x08 (refl, λ x. refl) λ n8.
    either P t 0x09 (refl, λ x. refl) λ n9.
    simp (ne_eqb t 0x01 n1, ne_eqb t 0x02 n2, ne_eqb t 0x03 n3, ne_eqb t 0x04 n4, ne_eqb t 0x05 n5, ne_eqb t 0x06 n6, ne_eqb t 0x07 n7, ne_eqb t 0x08 n8, ne_eqb t 0x09 n9) tt
  where
    P : ℕ → Type 0
    P u = ExprByte (expr_tag u) u

cond_byte : (t : ℕ) → CondByte (cond_tag t) t
unfolding tag_width carries mark_of
cond_byte t =
    either P t 0x10 (refl, λ x. refl) λ n0.
    either P t 0x11 (refl, λ x. refl) λ n1.
    either P t 0x12 (refl, λ x. refl) λ n2.
    either P t 0x13 (refl, λ x. refl) λ n3.
    either P t 0x14 (refl, λ x. refl) λ n4.
    simp (ne_eqb t 0x10 n0, ne_eqb t 0x11 n1, ne_eqb t 0x12 n2, ne_eqb t 0x13 n3, ne_eqb t 0x14 n4) tt
  where
    P : ℕ → Type 0
    P u = CondByte (cond_tag u) u

stmt_byte : (t : ℕ) → StmtByte (stmt_tag t) t
stmt_byte t = either P t 0x20 refl λ n0. either P t 0x21 refl λ n1. simp (ne_eqb t 0x20 n0, ne_eqb t 0x21 n1) tt
  where
    P : ℕ → Type 0
    P u = StmtByte (stmt_tag u) u

end-byte : (t : ℕ) → EndByte (end_tag t) t
end-byte t =
    either P t 0x30 refl λ n0.
    either P t 0x31 refl λ n1.
    either P t 0x32 refl λ n2.
    either P t 0x33 refl λ n3.
    simp (ne_eqb t 0x30 n0, ne_eqb t 0x31 n1, ne_eqb t 0x32 n2, ne_eqb t 0x33 n3) tt
  where
    P : ℕ → Type 0
    P u = EndByte (end_tag u) u

-- ---- one reading after another

-- what a reading gives spans from the place to its end, with the tags f says
abbrev Spanned : {A : Type 0} → List ℕ → (A → List Mark) → ℕ → Got A → Type 0
Spanned s f at (got a n) = Spans s at n (f a)
Spanned s f at (refused k p) = Unit {0}

module _ (s : List ℕ) (at : ℕ) {A B : Type 0} (f : A → List Mark) (g : B → List Mark) where
  next : (p : Got A) (h : A → ℕ → Got B) → Spanned s f at p → ((a : A) (n : ℕ) → Spans s at n (f a) → Spanned s g at (h a n)) → Spanned s g at (then p h)
  next (got a n) h w k = k a n w
  next (refused k p) h w j = tt

  -- after a head that ends at m
  one_more : (m : ℕ) (head : List Mark) (make : A → B) → Spans s at m head → ((a : A) → head ++ f a ≡ g (make a)) → (p : Got A) → Spanned s f m p → Spanned s g at (then p (λ a n. got (make a) n))
  one_more m head make h e (got a n) w = rw (← e a) (joined s at m n head (f a) h w)
  one_more m head make h e (refused k p) w = tt

module _ (s : List ℕ) (at : ℕ) {A B : Type 0} (f : A → List Mark) (g : B → List Mark) where
  two-more : (m : ℕ) (head : List Mark) (make : A → A → B) → Spans s at m head → ((a b : A) → head ++ (f a ++ f b) ≡ g (make a b)) → (E : ℕ → Got A) → ((n : ℕ) → Spanned s f n (E n)) → Spanned s g at (two make E m)
  two-more m head make h e E hE = go (E m) (hE m)
    where
      go : (p : Got A) → Spanned s f m p → Spanned s g at (then p (λ a n. then (E n) (λ b k. got (make a b) k)))
      go (got a n) w = one_more s at f g n (head ++ f a) (make a) (joined s at m n head (f a) h w) (λ b. append_assoc head (f a) (f b) ∙ e a b) (E n) (hE n)
      go (refused k p) w = tt

module _ (s : List ℕ) (at : ℕ) where
  -- a tag is only where there are bytes
  there : (t : ℕ) → get_or s at 0 ≡ suc t → at < length s
  there t e = go (ltb at (length s)) refl
    where
      go : (b : Bool) → ltb at (length s) ≡ b → at < length s
      go true q = ltb-true at (length s) q
      go false q = absurd (omega (arith, get_or-eq_default s 0 (ltb-false at (length s) q)))

  plain : (t : ℕ) → get_or s at 0 ≡ t → at < length s → Plain t → Spans s at (at + 1) []
  plain t e h p = rw (← p.1 (get_or s (at + 1) 0)) (tag_spans s at t 1 e p.0 (omega arith))

  -- a tag and its operand, which has to pass a test
  operand : (t : ℕ) (why : Reason) (allowed : ℕ → Bool) → get_or s at 0 ≡ t → tag_width t ≡ 2 → Spanned s (mark_of t) at (then (byte_at s (at + 1)) (λ k n. cond (allowed k) (got k n) (refused why (at + 1))))
  operand t why allowed e w = go (ltb (at + 1) (length s)) refl
    where
      tested : (k n : ℕ) (b : Bool) → Spans s at n (mark_of t k) → Spanned s (mark_of t) at (cond b (got k n) (refused why (at + 1)))
      tested k n true x = x
      tested k n false x = tt

      go : (b : Bool) → ltb (at + 1) (length s) ≡ b → Spanned s (mark_of t) at (then (cond b (got (get_or s (at + 1) 0) (at + 1 + 1)) (refused EndsEarly (length s))) (λ k n. cond (allowed k) (got k n) (refused why (at + 1))))
      go true q =
          let l = ltb-true (at + 1) (length s) q in
          let two : at + 1 + 1 ≡ at + 2 = omega arith in
          tested (get_or s (at + 1) 0) (at + 1 + 1) (allowed (get_or s (at + 1) 0)) (rw two (tag_spans s at t 2 e w (omega arith)))
      go false q = tt

  constant : get_or s at 0 ≡ 0x01 → Spanned s expr_marks at (one Const (constant_at s) (at + 1))
  unfolding expr_marks tag_width mark_of carries
  constant e = go (leb (at + 1 + 4) (length s)) refl
    where
      go : (b : Bool) → leb (at + 1 + 4) (length s) ≡ b → Spanned s expr_marks at (then (cond b (got (constant_in s (at + 1)) (at + 1 + 4)) (refused EndsEarly (length s))) (λ a n. got (Const a) n))
      go true q =
          let l = leb-true (at + 1 + 4) (length s) q in
          let five : at + 1 + 4 ≡ at + 5 = omega arith in
          rw five (tag_spans s at 0x01 5 e refl (omega arith))
      go false q = tt

-- ---- expressions and conditions
module _ (v : ℕ) (s : List ℕ) (E : ℕ → Got Expr) (C : ℕ → Got Cond) (hE : (n : ℕ) → Spanned s expr_marks n (E n)) (hC : (n : ℕ) → Spanned s cond_marks n (C n)) (at : ℕ) (here : at < length s) where
  expr_body_lem : (t : ExprTag) → ExprByte t (get_or s at 0) → Spanned s expr_marks at (expr_body t v s E C at)
  unfolding expr_marks tag_width mark_of carries
  expr_body_lem const_tag e = constant s at e
  expr_body_lem var_tag e = next s at (mark_of 0x02) expr_marks (variable_at v s (at + 1)) (λ k n. got (Var k) n) (operand s at 0x02 BadVariable (λ k. ltb k v) e refl) (λ k n w. w)
  expr_body_lem neg_tag p = one_more s at expr_marks expr_marks (at + 1) [] Neg (plain s at (get_or s at 0) refl here p) (λ a. refl) (E (at + 1)) (hE (at + 1))
  expr_body_lem (op_tag o) p = two-more s at expr_marks expr_marks (at + 1) [] (Op o) (plain s at (get_or s at 0) refl here p) (λ a b. refl) E hE
  expr_body_lem case_tag p =
      let head = plain s at (get_or s at 0) refl here p in
      go head (C (at + 1)) (hC (at + 1))
    where
      go : Spans s at (at + 1) [] → (q : Got Cond) → Spanned s cond_marks (at + 1) q → Spanned s expr_marks at (then q (λ c n. two (Case c) E n))
      go head (got c n) w = two-more s at expr_marks expr_marks n (cond_marks c) (Case c) (joined s at (at + 1) n [] (cond_marks c) head w) (λ a b. refl) E hE
      go head (refused k q) w = tt
  expr_body_lem bad_expr e = tt

  cond-body : (t : CondTag) → CondByte t (get_or s at 0) → Spanned s cond_marks at (cond_body t E C at)
  unfolding cond_marks
  cond-body (compare_tag r) p = two-more s at expr_marks cond_marks (at + 1) [] (Compare r) (plain s at (get_or s at 0) refl here p) (λ a b. refl) E hE
  cond-body not_tag p = one_more s at cond_marks cond_marks (at + 1) [] Not (plain s at (get_or s at 0) refl here p) (λ c. refl) (C (at + 1)) (hC (at + 1))
  cond-body (join_tag j) p = two-more s at cond_marks cond_marks (at + 1) [] (Join j) (plain s at (get_or s at 0) refl here p) (λ c d. refl) C hC
  cond-body bad_cond e = tt

-- where a tag stands, and what is read there
tagged : {A : Type 0} (s : List ℕ) (f : A → List Mark) (at : ℕ) (h : ℕ → Got A) → (at < length s → Spanned s f at (h (get_or s at 0))) → Spanned s f at (then (byte_at s at) (λ t _. h t))
tagged {A} s f at h w = go (ltb at (length s)) refl
  where
    go : (b : Bool) → ltb at (length s) ≡ b → Spanned s f at (then {B = A} (cond b (got (get_or s at 0) (at + 1)) (refused EndsEarly (length s))) (λ t _. h t))
    go true q = w (ltb-true at (length s) q)
    go false q = tt

mutual
  unfolding expr_at

  expr_spanned : (d v : ℕ) (s : List ℕ) (at : ℕ) → Spanned s expr_marks at (expr_at d v s at)
  expr_spanned zero v s at = tagged s expr_marks at (λ t. refused TooDeep at) (λ h. tt)
  expr_spanned (suc d) v s at = tagged s expr_marks at (λ t. expr_body (expr_tag t) v s (λ n. expr_at d v s n) (λ n. cond_at d v s n) at) (λ h. expr_body_lem v s (λ n. expr_at d v s n) (λ n. cond_at d v s n) (λ n. expr_spanned d v s n) (λ n. cond_spanned d v s n) at h (expr_tag (get_or s at 0)) (expr_byte (get_or s at 0)))

  cond_spanned : (d v : ℕ) (s : List ℕ) (at : ℕ) → Spanned s cond_marks at (cond_at d v s at)
  cond_spanned zero v s at = tagged s cond_marks at (λ t. refused TooDeep at) (λ h. tt)
  cond_spanned (suc d) v s at = tagged s cond_marks at (λ t. cond_body (cond_tag t) (λ n. expr_at d v s n) (λ n. cond_at d v s n) at) (λ h. cond-body v s (λ n. expr_at d v s n) (λ n. cond_at d v s n) (λ n. expr_spanned d v s n) (λ n. cond_spanned d v s n) at h (cond_tag (get_or s at 0)) (cond_byte (get_or s at 0)))

-- ---- endings
module _ (ts : ℕ) (v : ℕ) (s : List ℕ) (E : ℕ → Got End) (hE : (m : ℕ) → Spanned s end_marks m (E m)) (at : ℕ) (here : at < length s) where
  end_body_lem : (t : EndTag) → EndByte t (get_or s at 0) → Spanned s end_marks at (end_body t ts v s E at)
  unfolding end_marks tag_width mark_of carries
  end_body_lem goto_tag e = next s at (mark_of 0x30) end_marks (target_at ts s (at + 1)) (λ t m. got (Goto t) m) (operand s at 0x30 BadTarget (λ t. ltb t ts) e refl) (λ t m w. w)
  end_body_lem jump_tag e = next s at (mark_of 0x31) end_marks (target_at ts s (at + 1)) (λ t m. got (Jump t) m) (operand s at 0x31 BadTarget (λ t. ltb t ts) e refl) (λ t m w. w)
  end_body_lem stop_tag e = tag_spans s at 0x32 1 e refl (omega arith)
  end_body_lem if_tag e = go (tag_spans s at 0x33 1 e refl (omega arith)) (cond_at depth v s (at + 1)) (cond_spanned depth v s (at + 1))
    where
      go : Spans s at (at + 1) ((0x33, 0) ∷ []) → (q : Got Cond) → Spanned s cond_marks (at + 1) q → Spanned s end_marks at (then q (λ c m. two (If c) E m))
      go head (got c m) w = two-more s at end_marks end_marks m ((0x33, 0) ∷ cond_marks c) (If c) (joined s at (at + 1) m ((0x33, 0) ∷ []) (cond_marks c) head w) (λ x y. refl) E hE
      go head (refused k q) w = tt
  end_body_lem bad_end e = tt

end_spanned : (d : ℕ) (ts : ℕ) (v : ℕ) (s : List ℕ) (at : ℕ) → Spanned s end_marks at (end_at d ts v s at)
unfolding end_at
end_spanned zero ts v s at = tagged s end_marks at (λ t. refused TooDeep at) (λ h. tt)
end_spanned (suc d) ts v s at = tagged s end_marks at (λ t. end_body (end_tag t) ts v s (λ m. end_at d ts v s m) at) (λ h. end_body_lem ts v s (λ m. end_at d ts v s m) (λ m. end_spanned d ts v s m) at h (end_tag (get_or s at 0)) (end-byte (get_or s at 0)))

-- ---- statements and blocks
module _ (v : ℕ) (s : List ℕ) (at : ℕ) where
  set_spanned : get_or s at 0 ≡ 0x20 → Spanned s stmt_marks at (set_at v s (at + 1))
  unfolding stmt_marks tag_width mark_of carries
  set_spanned e =
      next s at (mark_of 0x20) stmt_marks (variable_at v s (at + 1)) (λ x n. one (Set x) (expr_at depth v s) n) (operand s at 0x20 BadVariable (λ k. ltb k v) e refl)
      (λ x n w. one_more s at expr_marks stmt_marks n ((0x20, x) ∷ []) (Set x) w (λ a. refl) (expr_at depth v s n) (expr_spanned depth v s n))

  emit_spanned : get_or s at 0 ≡ 0x21 → Spanned s stmt_marks at (emit_at v s (at + 1))
  unfolding stmt_marks tag_width mark_of carries
  emit_spanned e =
      let here = there s at 0x20 e in
      one_more s at expr_marks stmt_marks (at + 1) ((0x21, 0) ∷ []) Emit (tag_spans s at 0x21 1 e refl (omega arith)) (λ a. refl) (expr_at depth v s (at + 1)) (expr_spanned depth v s (at + 1))

module _ (ts : ℕ) (v : ℕ) (s : List ℕ) (B : ℕ → Got Block) (hB : (m : ℕ) → Spanned s block_marks m (B m)) (at : ℕ) where
  one_stmt : (p : Got Stmt) → Spanned s stmt_marks at p → Spanned s block_marks at (then p (λ x m. one (with_first x) B m))
  unfolding body_marks
  one_stmt p w = next s at stmt_marks block_marks p (λ x m. one (with_first x) B m) w (λ x m h. one_more s at block_marks block_marks m (stmt_marks x) (with_first x) h (λ k. refl) (B m) (hB m))

  block-body : (t : StmtTag) → StmtByte t (get_or s at 0) → Spanned s block_marks at (block_body t ts v s B at)
  unfolding body_marks
  block-body set_tag e = one_stmt (set_at v s (at + 1)) (set_spanned v s at e)
  block-body emit_tag e = one_stmt (emit_at v s (at + 1)) (emit_spanned v s at e)
  block-body no_stmt e = next s at end_marks block_marks (end_at levels ts v s at) (λ e m. got (record { body = []; ending = e }) m) (end_spanned levels ts v s at) (λ e m w. w)

block_spanned : (f : ℕ) (ts : ℕ) (v : ℕ) (s : List ℕ) (at : ℕ) → Spanned s block_marks at (block_from f ts v s at)
unfolding block_from
block_spanned zero ts v s at = tt
block_spanned (suc f) ts v s at = block-body ts v s (λ m. block_from f ts v s m) (λ m. block_spanned f ts v s m) at (stmt_tag (get_or s at 0)) (stmt_byte (get_or s at 0))

pub block_spans : (ts : ℕ) (v : ℕ) (s : List ℕ) (at m : ℕ) (blk : Block) → block_at ts v s at ≡ got blk m → Spans s at m (block_marks blk)
block_spans ts v s at m blk e = rw e at (block_spanned (length s) ts v s at)
