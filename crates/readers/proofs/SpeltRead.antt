-- What is spelt is read: wherever the bytes of a tree that keeps to the limits are spelt, the reader gives that tree. Assumes nothing.
use Prim.Native.Nat.{ℕ, zero, suc, ◌+◌, ◌-◌, ◌≤◌, ◌<◌}
use native.Mathlib.Omega.{arith}
use mathlib.Core.Path.{◌≡◌, ap, ◌∙◌}
use mathlib.Core.Bool.{Bool, true, cond}
use mathlib.Core.List.{List, [], ◌∷◌, ◌++◌, append_assoc}
use lib.Dec.{ltb}
use lib.IntN.{ℤ}
use lib.ListN.{length, get_or, take}
use lib.Seq.{take-suc, take-length}
use borrow.Author.Tests.{lt-ltb, le-ltb, le-leb, ne_eqb}
use Rattle.definitions.specs.Rule.{Expr, Cond, Const, Var, Neg, Op, Case, Compare, Not, Join, Stmt, Set, Emit, End, Goto, Jump, Stop, If, Block, Rule, size, block_of}
use Rattle.definitions.specs.Grammar.{Got, got, refused, then, byte_at, one, two, constant_at, variable_at, target_at, twos, expr_at, cond_at, expr_body, cond_body, expr_tag, cond_tag}
use Rattle.definitions.specs.Grammar.{ExprTag, const_tag, var_tag, neg_tag, case_tag, op_tag, CondTag, not_tag, compare_tag, join_tag, no_stmt, stmt_tag, EndTag, goto_tag, jump_tag, stop_tag, if_tag, end_tag, end_body, end_at, depth, levels, block_body, block_at, blocks_to, with_first, headed, parsed}
use Rattle.definitions.specs.Spelling.{constant_bytes, unsigned, expr_bytes, cond_bytes, stmt_bytes, end_bytes, in_turn, block_bytes, bytes_of}
use Rattle.definitions.specs.Limits.{expr_depth, cond_depth, end_depth, InRange, ExprKeeps, CondKeeps, StmtKeeps, EndKeeps, Every, BlockKeeps, Limits}
use Rattle.readers.specs.Readings.{tag_at}
use Rattle.readers.specs.Accepted.{no_block}
use Rattle.readers.proofs.Laws.{expr_level, cond-level}
use Rattle.readers.proofs.BlockLaws.{end-level, block-is}
use Rattle.readers.proofs.TagBytes.{operator_tag, relation_tag, joint_tag}
use Rattle.readers.proofs.Spelt.{every_at, in_turn_last, Spelt, parted, spelt_self, word_of_lem, reached}
use Rattle.definitions.specs.declared.Reason.{Reason}
use Rattle.definitions.specs.declared.Reason.TheVariants.{BadVariable, BadTarget}

module _ (s : List ℕ) where
  -- ---- a reader gives a, wherever the bytes of a are spelt
  abbrev Gives : {A : Type 0} → (A → List ℕ) → (ℕ → Got A) → A → Type 0
  Gives bytes read a = (at n : ℕ) → Spelt s at (bytes a) n → read at ≡ got a n

  one_gives : {A B : Type 0} (w : A → List ℕ) (make : A → B) (read : ℕ → Got A) (a : A) → Gives w read a → (at n : ℕ) → Spelt s at (w a) n → one make read at ≡ got (make a) n
  one_gives w make read a g at n h = rw (g at n h)

  two-give :
      {A B : Type 0} (w : A → List ℕ) (make : A → A → B) (read : ℕ → Got A) (a b : A) → Gives w read a → Gives w read b →
      (at n : ℕ) → Spelt s at (w a ++ w b) n → two make read at ≡ got (make a b) n
  two-give w make read a b f g at n h = let p = parted s (w a) (w b) at n h in rw (f at p.0 p.1, g p.0 n p.2)

  -- one of another kind before
  first_gives :
      {A B : Type 0} (w : A → List ℕ) (read : ℕ → Got A) (f : A → ℕ → Got B) (a : A) (c : B) (ys : List ℕ) → Gives w read a →
      ((at n : ℕ) → Spelt s at ys n → f a at ≡ got c n) → (at n : ℕ) → Spelt s at (w a ++ ys) n → then (read at) f ≡ got c n
  first_gives w read f a c ys g k at n h = let p = parted s (w a) ys at n h in rw (g at p.0 p.1) (k p.0 n p.2)

  -- ---- bytes
  byte_gives : (at x : ℕ) → at < length s → get_or s at 0 ≡ x → byte_at s at ≡ got x (at + 1)
  byte_gives at x l e = rw (lt-ltb at (length s) l, e)

  tested_gives : (test : ℕ → Bool) (why : Reason) (x : ℕ) → test x ≡ true → Gives (λ k. k ∷ []) (λ at. then (byte_at s at) (λ k n. cond (test k) (got k n) (refused why at))) x
  tested_gives test why x t at n h = rw (byte_gives at x h.0 h.1, t, h.2)

  variable_gives : (v x : ℕ) → x < v → Gives (λ k. k ∷ []) (variable_at v s) x
  variable_gives v x l = tested_gives (λ k. ltb k v) BadVariable x (lt-ltb x v l)

  constant_gives : (z : ℤ) → InRange z → Gives constant_bytes (constant_at s) z
  constant_gives z i at n h =
      let e : at + 1 + 1 ≡ at + 2 = omega arith in
      let f : at + 1 + 1 + 1 ≡ at + 3 = omega arith in
      let c = rw e at h.2.2.1 in
      let d = rw f at h.2.2.2.1 in
      let l : at + 4 ≤ length s = omega (arith, h.2.2.2.0) in
      let q : at + 4 ≡ n = omega (arith, h.2.2.2.2) in
      rw (le-leb (at + 4) (length s) l, h.1, h.2.1, c, d, q) (ap (λ (y : ℤ). got y n) (ap twos (word_of_lem (unsigned z)) ∙ (reached z i).1))

  -- ---- a tag, and what follows it at the level below
  tag_gives : (d at : ℕ) → 1 ≤ d → at < length s → tag_at d s at ≡ got (get_or s at 0) (at + 1)
  tag_gives d at h l = rw (lt-ltb at (length s) l, ne_eqb d 0 (λ e. omega arith))

  expr_tag_lem : (d v at : ℕ) (t : ExprTag) → 1 ≤ d → at < length s → expr_tag (get_or s at 0) ≡ t → expr_at d v s at ≡ expr_body t v s (λ n. expr_at (d - 1) v s n) (λ n. cond_at (d - 1) v s n) at
  expr_tag_lem d v at t h l e = expr_level d v s at ∙ rw (tag_gives d at h l, e)

  cond_tag_lem : (d v at : ℕ) (t : CondTag) → 1 ≤ d → at < length s → cond_tag (get_or s at 0) ≡ t → cond_at d v s at ≡ cond_body t (λ n. expr_at (d - 1) v s n) (λ n. cond_at (d - 1) v s n) at
  cond_tag_lem d v at t h l e = cond-level d v s at ∙ rw (tag_gives d at h l, e)

  end_tag_lem : (d : ℕ) (ts : ℕ) (v at : ℕ) (t : EndTag) → 1 ≤ d → at < length s → end_tag (get_or s at 0) ≡ t → end_at d ts v s at ≡ end_body t ts v s (λ m. end_at (d - 1) ts v s m) at
  end_tag_lem d ts v at t h l e = end-level d ts v s at ∙ rw (tag_gives d at h l, e)

  -- ---- expressions and conditions
  mutual
    unfolding expr_bytes cond_bytes expr_depth cond_depth ExprKeeps CondKeeps

    expr-gives : (a : Expr) (d v : ℕ) → expr_depth a ≤ d → ExprKeeps v a → Gives expr_bytes (expr_at d v s) a
    expr-gives (Const z) d v h k at n st =
        expr_tag_lem d v at const_tag (omega arith) st.0 (ap expr_tag st.1) ∙ one_gives constant_bytes Const (constant_at s) z (constant_gives z k) (at + 1) n st.2
    expr-gives (Var x) d v h k at n st =
        expr_tag_lem d v at var_tag (omega arith) st.0 (ap expr_tag st.1) ∙ one_gives (λ x. x ∷ []) Var (variable_at v s) x (variable_gives v x k) (at + 1) n st.2
    expr-gives (Neg a) d v h k at n st =
        expr_tag_lem d v at neg_tag (omega arith) st.0 (ap expr_tag st.1)
        ∙ one_gives expr_bytes Neg _ a (expr-gives a (d - 1) v (omega arith) k) (at + 1) n st.2
    expr-gives (Op o a b) d v h k at n st =
        expr_tag_lem d v at (op_tag o) (omega arith) st.0 (ap expr_tag st.1 ∙ operator_tag o)
        ∙ two-give expr_bytes (Op o) _ a b (expr-gives a (d - 1) v (omega arith) k.0) (expr-gives b (d - 1) v (omega arith) k.1) (at + 1) n st.2
    expr-gives (Case c a b) d v h k at n st =
        expr_tag_lem d v at case_tag (omega arith) st.0 (ap expr_tag st.1)
        ∙ first_gives cond_bytes _ _ c (Case c a b) (expr_bytes a ++ expr_bytes b) (λ at n st. cond-gives c (d - 1) v (omega arith) k.0 at n st)
        (two-give expr_bytes (Case c) _ a b (expr-gives a (d - 1) v (omega arith) k.1) (expr-gives b (d - 1) v (omega arith) k.2))
        (at + 1) n st.2

    cond-gives : (c : Cond) (d v : ℕ) → cond_depth c ≤ d → CondKeeps v c → Gives cond_bytes (cond_at d v s) c
    cond-gives (Compare r a b) d v h k at n st =
        cond_tag_lem d v at (compare_tag r) (omega arith) st.0 (ap cond_tag st.1 ∙ relation_tag r)
        ∙ two-give expr_bytes (Compare r) _ a b (λ at n st. expr-gives a (d - 1) v (omega arith) k.0 at n st) (λ at n st. expr-gives b (d - 1) v (omega arith) k.1 at n st) (at + 1) n st.2
    cond-gives (Not c) d v h k at n st =
        cond_tag_lem d v at not_tag (omega arith) st.0 (ap cond_tag st.1)
        ∙ one_gives cond_bytes Not _ c (cond-gives c (d - 1) v (omega arith) k) (at + 1) n st.2
    cond-gives (Join j a b) d v h k at n st =
        cond_tag_lem d v at (join_tag j) (omega arith) st.0 (ap cond_tag st.1 ∙ joint_tag j)
        ∙ two-give cond_bytes (Join j) _ a b (cond-gives a (d - 1) v (omega arith) k.0) (cond-gives b (d - 1) v (omega arith) k.1) (at + 1) n st.2

  -- ---- endings and blocks
  module _ (ts : ℕ) (v : ℕ) where
    end-gives : (e : End) (d : ℕ) → end_depth e ≤ d → EndKeeps ts v e → Gives end_bytes (end_at d ts v s) e
    unfolding end_bytes end_depth EndKeeps
    end-gives (Goto t) d h k at m st =
        end_tag_lem d ts v at goto_tag (omega arith) st.0 (ap end_tag st.1)
        ∙ one_gives (λ x. x ∷ []) Goto (target_at ts s) t (tested_gives (λ t. ltb t ts) BadTarget t (lt-ltb t ts k)) (at + 1) m st.2
    end-gives (Jump t) d h k at m st =
        end_tag_lem d ts v at jump_tag (omega arith) st.0 (ap end_tag st.1)
        ∙ one_gives (λ x. x ∷ []) Jump (target_at ts s) t (tested_gives (λ t. ltb t ts) BadTarget t (lt-ltb t ts k)) (at + 1) m st.2
    end-gives Stop d h k at m st = end_tag_lem d ts v at stop_tag (omega arith) st.0 (ap end_tag st.1) ∙ ap (got Stop) st.2
    end-gives (If c x y) d h k at m st =
        end_tag_lem d ts v at if_tag (omega arith) st.0 (ap end_tag st.1)
        ∙ first_gives cond_bytes (cond_at depth v s) _ c (If c x y) (end_bytes x ++ end_bytes y) (cond-gives c depth v k.0 k.1)
        (two-give end_bytes (If c) _ x y
        (end-gives x (d - 1) (omega arith) k.2)
        (end-gives y (d - 1) (omega arith) k.3))
        (at + 1) m st.2

    -- an ending's tag is no statement's
    ends-body : (e : End) (at m : ℕ) → Spelt s at (end_bytes e) m → stmt_tag (get_or s at 0) ≡ no_stmt
    unfolding end_bytes
    ends-body (Goto t) at m st = ap stmt_tag st.1
    ends-body (Jump t) at m st = ap stmt_tag st.1
    ends-body Stop at m st = ap stmt_tag st.1
    ends-body (If c x y) at m st = ap stmt_tag st.1

    -- a block goes on after each of its statements
    stmt-gives : (x : Stmt) → StmtKeeps v x → (B : ℕ → Got Block) (at m : ℕ) → Spelt s at (stmt_bytes x) m → block_body (stmt_tag (get_or s at 0)) ts v s B at ≡ one (with_first x) B m
    unfolding stmt_bytes StmtKeeps
    stmt-gives (Set x a) k B at m st =
        rw (ap stmt_tag st.1)
        (ap (λ (p : Got Stmt). then p (λ x m. one (with_first x) B m))
        (first_gives (λ x. x ∷ []) (variable_at v s) _ x (Set x a) (expr_bytes a) (variable_gives v x k.0)
        (one_gives expr_bytes (Set x) (expr_at depth v s) a (expr-gives a depth v k.1 k.2)) (at + 1) m st.2))
    stmt-gives (Emit a) k B at m st =
        rw (ap stmt_tag st.1)
        (ap (λ (p : Got Stmt). then p (λ x m. one (with_first x) B m)) (one_gives expr_bytes Emit (expr_at depth v s) a (expr-gives a depth v k.0 k.1) (at + 1) m st.2))

    module _ (e : End) (deep : end_depth e ≤ levels) (keeps : EndKeeps ts v e) where
      body-gives : (xs : List Stmt) → Every (StmtKeeps v) xs → (at m : ℕ) → Spelt s at (in_turn stmt_bytes xs ++ end_bytes e) m → block_at ts v s at ≡ got (record { body = xs; ending = e }) m
      unfolding in_turn Every
      body-gives [] k at m st =
          block-is ts v s at ∙ rw (ends-body e at m st) (one_gives end_bytes (λ (e : End). record { body = []; ending = e }) (end_at levels ts v s) e (end-gives e levels deep keeps) at m st)
      body-gives (x ∷ xs) k at m st =
          let p = parted s (stmt_bytes x) (in_turn stmt_bytes xs ++ end_bytes e) at m (rw append_assoc at st) in
          block-is ts v s at ∙ stmt-gives x k.0 (λ m. block_at ts v s m) at p.0 p.1 ∙ rw (body-gives xs k.1 p.0 m p.2)

    block-gives : (x : Block) → BlockKeeps ts v x → Gives block_bytes (block_at ts v s) x
    unfolding block_bytes
    block-gives x k = body-gives x.ending k.ending-deep k.ending-keeps x.body k.body-keeps

  -- ---- the blocks of a rule
  module _ (r : Rule) (lim : Limits r) where
    pub blocks-give : (k m : ℕ) → k ≤ size r → Spelt s 4 (in_turn block_bytes (take k r.blocks)) m → blocks_to (size r) r.variables s k ≡ got (take k r.blocks) m
    unfolding blocks_to in_turn
    blocks-give zero m l st = ap (got []) st
    blocks-give (suc k) m l st =
        let e = take-suc r.blocks k no_block l in
        let p = parted s (in_turn block_bytes (take k r.blocks)) (block_bytes (block_of r k)) 4 m (rw (e, in_turn_last block_bytes (take k r.blocks) (block_of r k)) at st) in
        rw (blocks-give k p.0 (omega arith) p.1, block-gives (size r) r.variables (block_of r k) (every_at (BlockKeeps (size r) r.variables) r.blocks k no_block lim.blocks_keep l) p.0 m p.2, e)

-- ---- a rule
header_gives : {A : Type 0} (r : Rule) (rest : Got A) → Limits r → headed (bytes_of r) rest ≡ rest
unfolding headed bytes_of
header_gives r rest lim =
    rw (le-ltb (length (bytes_of r)) 4 (omega arith), lim.form-is, le-leb 1 r.variables lim.variables-from, le-leb r.variables 16 lim.variables-to, le-leb r.arguments r.variables lim.arguments-to, le-leb 1 (size r) lim.blocks_from, le-leb (size r) 64 lim.blocks_to)

pub rule_gives : (r : Rule) → Limits r → parsed (bytes_of r) ≡ got r (length (bytes_of r))
unfolding parsed bytes_of
rule_gives r lim =
    let s = bytes_of r in
    let b = blocks-give s r lim (size r) (length s) (omega arith) (rw (take-length r.blocks) (spelt_self s).2.2.2.2) in
    header_gives r _ lim ∙ rw (b, take-length r.blocks, le-ltb (length s) (length s) (omega arith))
