-- What is read is spelt: the tree that the reader gives keeps to the limits, and its bytes are those that were read. Assumes that every byte is below 256.
use Prim.Native.Nat.{ℕ, zero, suc, ◌+◌, ◌≤◌, ◌<◌}
use native.Mathlib.Omega.{arith}
use mathlib.Core.Path.{◌≡◌, refl, sym, ap, ◌∙◌}
use mathlib.Core.Bool.{Bool, true, false, cond}
use mathlib.Core.List.{List, [], ◌∷◌, ◌++◌, append_assoc}
use lib.Dec.{ltb, leb}
use lib.IntN.{ℤ}
use lib.ListN.{length, get_or}
use borrow.Author.Tests.{ltb-true, leb-true}
use Rattle.definitions.specs.Rule.{Expr, Cond, Const, Var, Neg, Op, Case, Compare, Not, Join, Stmt, Set, Emit, End, Goto, Jump, If, Block}
use Rattle.definitions.specs.Grammar.{Got, got, refused, then, byte_at, one, two, constant_in, constant_at, word_of, variable_at, target_at, expr_at, cond_at, expr_body, cond_body, expr_tag, cond_tag}
use Rattle.definitions.specs.Grammar.{ExprTag, const_tag, var_tag, neg_tag, case_tag, bad_expr, op_tag, CondTag, not_tag, bad_cond, compare_tag, join_tag, StmtTag, set_tag, emit_tag, no_stmt, stmt_tag, EndTag, goto_tag, jump_tag, stop_tag, if_tag, bad_end, end_tag}
use Rattle.definitions.specs.Grammar.{end_body, end_at, depth, levels, set_at, emit_at, with_first, block_body, block_from, block_at, blocks_to}
use Rattle.definitions.specs.Spelling.{constant_bytes, le32, operator_byte, relation_byte, joint_byte, expr_bytes, cond_bytes, stmt_bytes, end_bytes, in_turn, block_bytes}
use Rattle.definitions.specs.Limits.{expr_depth, cond_depth, end_depth, InRange, ExprKeeps, CondKeeps, StmtKeeps, EndKeeps, Every, BlockKeeps}
use Rattle.pages.proofs.Trip.{Bytes}
use Rattle.readers.specs.Readings.{is_stmt, begins}
use Rattle.readers.proofs.BlockLaws.{begins-there}
use Rattle.readers.proofs.TagBytes.{ExprByte, CondByte, StmtByte, EndByte, expr_byte, cond_byte, stmt_byte, end-byte}
use Rattle.readers.proofs.Spelt.{every_append, in_turn_last, Spelt, joined, spelt_as, of_word, twos-is}
use Rattle.definitions.specs.declared.Reason.TheVariants.{BadVariable, BadTarget, TooDeep}
use Rattle.definitions.specs.declared.Reason.{Reason}

-- ---- readings
-- of what is read, where something is
abbrev IfGot : {A : Type 0} → (A → ℕ → Type 0) → Got A → Type 0
IfGot P (got a n) = P a n
IfGot P (refused k p) = Unit {0}

if_then : {A B : Type 0} (P : A → ℕ → Type 0) (Q : B → ℕ → Type 0) (p : Got A) (f : A → ℕ → Got B) → IfGot P p → ((a : A) (n : ℕ) → P a n → IfGot Q (f a n)) → IfGot Q (then p f)
if_then P Q (got a n) f h k = k a n h
if_then P Q (refused i j) f h k = tt

if_cond : {A : Type 0} (P : A → ℕ → Type 0) (b : Bool) (p q : Got A) → (b ≡ true → IfGot P p) → (b ≡ false → IfGot P q) → IfGot P (cond b p q)
if_cond P true p q f g = f refl
if_cond P false p q f g = g refl

-- a kind of construct: what it keeps to, and how it is written
record Form (A : Type 0) : Type 1 where
  keeps : A → Type 0
  bytes : A → List ℕ

module _ (s : List ℕ) where
  -- what is read at a place keeps to its limits, and is spelt there
  abbrev ReadAs : {A : Type 0} → Form A → ℕ → Got A → Type 0
  ReadAs F at p = IfGot (λ a n. F.keeps a × Spelt s at (F.bytes a) n) p

  -- one, or two of a kind, after what is spelt from `at` up to m
  module _ {A B : Type 0} (F : Form A) (G : Form B) (at : ℕ) where
    one_more :
        (make : A → B) (ps : List ℕ) (m : ℕ) (p : Got A) → Spelt s at ps m → ((a : A) → G.bytes (make a) ≡ ps ++ F.bytes a) → ((a : A) → F.keeps a → G.keeps (make a)) →
        ReadAs F m p → ReadAs G at (then p (λ a n. got (make a) n))
    one_more make ps m (got a n) before e k h = (k a h.0, rw (e a) (joined s ps (F.bytes a) at m n before h.1))
    one_more make ps m (refused i j) before e k h = tt

    two-more :
        (make : A → A → B) (ps : List ℕ) (m : ℕ) (read : ℕ → Got A) → Spelt s at ps m → ((a b : A) → G.bytes (make a b) ≡ ps ++ (F.bytes a ++ F.bytes b)) →
        ((a b : A) → F.keeps a → F.keeps b → G.keeps (make a b)) → ((n : ℕ) → ReadAs F n (read n)) → ReadAs G at (two make read m)
    two-more make ps m read before e k h =
        if_then _ _ (read m) _ (h m) (λ a n i.
        one_more (make a) (ps ++ F.bytes a) n (read n) (joined s ps (F.bytes a) at m n before i.1) (λ b. e a b ∙ sym (append_assoc ps (F.bytes a) (F.bytes b))) (λ b. k a b i.0) (h n))

  -- ---- bytes
  abbrev Here : ℕ → ℕ → ℕ → Type 0
  Here at x n = (at < length s) × (get_or s at 0 ≡ x) × (at + 1 ≡ n)

  byte-here : (at : ℕ) → IfGot (Here at) (byte_at s at)
  byte-here at = if_cond (Here at) (ltb at (length s)) _ _ (λ e. (ltb-true at (length s) e, refl, refl)) (λ e. tt)

  -- a tag that is there, and what follows it
  tag_read : {A : Type 0} (F : Form A) (at : ℕ) (f : ℕ → Got A) → (at < length s → ReadAs F at (f (get_or s at 0))) → ReadAs F at (then (byte_at s at) (λ t _. f t))
  tag_read F at f h = if_then (Here at) _ (byte_at s at) _ (byte-here at) (λ t n b. rw b.1 at (h b.0))

  -- a byte that passes a test
  abbrev byte_of : (ℕ → Type 0) → Form ℕ
  byte_of P = record { keeps = P; bytes = λ k. k ∷ [] }

  tested-read : (P : ℕ → Type 0) (test : ℕ → Bool) (why : Reason) (at : ℕ) → ((k : ℕ) → test k ≡ true → P k) → ReadAs (byte_of P) at (then (byte_at s at) (λ k n. cond (test k) (got k n) (refused why at)))
  tested-read P test why at h = if_then (Here at) _ (byte_at s at) _ (byte-here at) (λ k n b. if_cond _ (test k) _ _ (λ e. (h k e, b)) (λ e. tt))

  abbrev constants : Form ℤ
  constants = record { keeps = InRange; bytes = constant_bytes }

  constant-read : Bytes s → (at : ℕ) → ReadAs constants at (constant_at s at)
  constant-read small at = if_cond _ (leb (at + 4) (length s)) _ _ four (λ e. tt)
    where
      four : leb (at + 4) (length s) ≡ true → InRange (constant_in s at) × Spelt s at (constant_bytes (constant_in s at)) (at + 4)
      four e =
          let l = leb-true (at + 4) (length s) e in
          let a = small at in
          let b = small (at + 1) in
          let c = small (at + 2) in
          let d = small (at + 3) in
          let w = twos-is (word_of (get_or s at 0) (get_or s (at + 1) 0) (get_or s (at + 2) 0) (get_or s (at + 3) 0)) (omega arith) in
          let two : at + 2 ≡ at + 1 + 1 = omega arith in
          let three : at + 3 ≡ at + 1 + 1 + 1 = omega arith in
          let is = ap le32 w.0 ∙ of_word (get_or s at 0) (get_or s (at + 1) 0) (get_or s (at + 2) 0) (get_or s (at + 3) 0) a b c d in
          (w.1, spelt_as s _ _ at (at + 4) is (omega arith, refl, (omega arith, refl, (omega arith, ap (λ (k : ℕ). get_or s k 0) (sym two), (omega arith, ap (λ (k : ℕ). get_or s k 0) (sym three), omega arith)))))

  -- ---- expressions and conditions
  module _ (small : Bytes s) (v : ℕ) where
    abbrev exprs : ℕ → Form Expr
    exprs d = record { keeps = λ a. (expr_depth a ≤ d) × ExprKeeps v a; bytes = expr_bytes }

    abbrev conds : ℕ → Form Cond
    conds d = record { keeps = λ c. (cond_depth c ≤ d) × CondKeeps v c; bytes = cond_bytes }

    variable-read : (at : ℕ) → ReadAs (byte_of (λ k. k < v)) at (variable_at v s at)
    variable-read at = tested-read (λ k. k < v) (λ k. ltb k v) BadVariable at (λ k e. ltb-true k v e)

    module _ (d at : ℕ) (there : at < length s) (E : ℕ → Got Expr) (C : ℕ → Got Cond) (e-read : (n : ℕ) → ReadAs (exprs d) n (E n)) (c_read : (n : ℕ) → ReadAs (conds d) n (C n)) where
      expr_body_lem : (t : ExprTag) → ExprByte (get_or s at 0) t → ReadAs (exprs (suc d)) at (expr_body t v s E C at)
      unfolding expr_bytes expr_depth ExprKeeps
      expr_body_lem const_tag e = one_more constants (exprs (suc d)) at Const (0x01 ∷ []) (at + 1) (constant_at s (at + 1)) (there, e, refl) (λ z. refl) (λ z k. (omega arith, k)) (constant-read small (at + 1))
      expr_body_lem var_tag e = one_more (byte_of (λ k. k < v)) (exprs (suc d)) at Var (0x02 ∷ []) (at + 1) (variable_at v s (at + 1)) (there, e, refl) (λ x. refl) (λ x k. (omega arith, k)) (variable-read (at + 1))
      expr_body_lem neg_tag e = one_more (exprs d) (exprs (suc d)) at Neg (0x03 ∷ []) (at + 1) (E (at + 1)) (there, e, refl) (λ a. refl) (λ a k. (omega (arith, k.0), k.1)) (e-read (at + 1))
      expr_body_lem (op_tag o) e = two-more (exprs d) (exprs (suc d)) at (Op o) (operator_byte o ∷ []) (at + 1) E (there, e, refl) (λ a b. refl) (λ a b k l. (omega (arith, k.0, l.0), (k.1, l.1))) e-read
      expr_body_lem case_tag e =
          if_then _ _ (C (at + 1)) _ (c_read (at + 1)) (λ c n j.
          two-more (exprs d) (exprs (suc d)) at (Case c) (0x09 ∷ cond_bytes c) n E (there, e, j.1) (λ a b. refl) (λ a b k l. (omega (arith, j.0.0, k.0, l.0), (j.0.1, k.1, l.1))) e-read)
      expr_body_lem bad_expr e = tt

      cond-body : (t : CondTag) → CondByte (get_or s at 0) t → ReadAs (conds (suc d)) at (cond_body t E C at)
      unfolding cond_bytes cond_depth CondKeeps
      cond-body (compare_tag r) e = two-more (exprs d) (conds (suc d)) at (Compare r) (relation_byte r ∷ []) (at + 1) E (there, e, refl) (λ a b. refl) (λ a b k l. (omega (arith, k.0, l.0), (k.1, l.1))) e-read
      cond-body not_tag e = one_more (conds d) (conds (suc d)) at Not (0x12 ∷ []) (at + 1) (C (at + 1)) (there, e, refl) (λ c. refl) (λ c k. (omega (arith, k.0), k.1)) (c_read (at + 1))
      cond-body (join_tag j) e = two-more (conds d) (conds (suc d)) at (Join j) (joint_byte j ∷ []) (at + 1) C (there, e, refl) (λ a b. refl) (λ a b k l. (omega (arith, k.0, l.0), (k.1, l.1))) c_read
      cond-body bad_cond e = tt

    mutual
      unfolding expr_at cond_at

      expr-read : (d at : ℕ) → ReadAs (exprs d) at (expr_at d v s at)
      expr-read zero at = tag_read (exprs 0) at (λ t. refused TooDeep at) (λ l. tt)
      expr-read (suc d) at =
          tag_read (exprs (suc d)) at (λ t. expr_body (expr_tag t) v s (λ n. expr_at d v s n) (λ n. cond_at d v s n) at)
          (λ l. expr_body_lem d at l _ _ (λ n. expr-read d n) (λ n. cond-read d n) (expr_tag (get_or s at 0)) (expr_byte (get_or s at 0)))

      cond-read : (d at : ℕ) → ReadAs (conds d) at (cond_at d v s at)
      cond-read zero at = tag_read (conds 0) at (λ t. refused TooDeep at) (λ l. tt)
      cond-read (suc d) at =
          tag_read (conds (suc d)) at (λ t. cond_body (cond_tag t) (λ n. expr_at d v s n) (λ n. cond_at d v s n) at)
          (λ l. cond-body d at l _ _ (λ n. expr-read d n) (λ n. cond-read d n) (cond_tag (get_or s at 0)) (cond_byte (get_or s at 0)))

    abbrev stmts : Form Stmt
    stmts = record { keeps = StmtKeeps v; bytes = stmt_bytes }

    -- ---- endings, of n blocks
    module _ (n : ℕ) where
      abbrev ends : ℕ → Form End
      ends d = record { keeps = λ e. (end_depth e ≤ d) × EndKeeps n v e; bytes = end_bytes }

      abbrev blocks : Form Block
      blocks = record { keeps = BlockKeeps n v; bytes = block_bytes }

      abbrev all_blocks : Form (List Block)
      all_blocks = record { keeps = Every (BlockKeeps n v); bytes = in_turn block_bytes }

      target-read : (at : ℕ) → ReadAs (byte_of (λ t. t < n)) at (target_at n s at)
      target-read at = tested-read (λ t. t < n) (λ t. ltb t n) BadTarget at (λ t p. ltb-true t n p)

      module _ (b : ℕ) where
        abbrev ts : ℕ
        ts = n

        end_body_lem : (d at : ℕ) → at < length s → (E : ℕ → Got End) → ((m : ℕ) → ReadAs (ends d) m (E m)) → (t : EndTag) → EndByte (get_or s at 0) t → ReadAs (ends (suc d)) at (end_body t ts v s E at)
        unfolding end_bytes end_depth EndKeeps
        end_body_lem d at there E h goto_tag e =
            one_more (byte_of (λ t. t < n)) (ends (suc d)) at Goto (0x30 ∷ []) (at + 1) (target_at ts s (at + 1)) (there, e, refl) (λ t. refl) (λ t k. (omega arith, k))
            (target-read (at + 1))
        end_body_lem d at there E h jump_tag e =
            one_more (byte_of (λ t. t < n)) (ends (suc d)) at Jump (0x31 ∷ []) (at + 1) (target_at ts s (at + 1)) (there, e, refl) (λ t. refl) (λ t k. (omega arith, k))
            (target-read (at + 1))
        end_body_lem d at there E h stop_tag e = ((omega arith, tt), (there, e, refl))
        end_body_lem d at there E h if_tag e =
            if_then _ _ (cond_at depth v s (at + 1)) _ (cond-read depth (at + 1)) (λ c m j.
            two-more (ends d) (ends (suc d)) at (If c) (0x33 ∷ cond_bytes c) m E (there, e, j.1) (λ x y. refl) (λ x y k l. (omega (arith, k.0, l.0), (j.0.0, j.0.1, k.1, l.1))) h)
        end_body_lem d at there E h bad_end e = tt

        end_read : (d at : ℕ) → ReadAs (ends d) at (end_at d ts v s at)
        unfolding end_at
        end_read zero at = tag_read (ends 0) at (λ t. refused TooDeep at) (λ l. tt)
        end_read (suc d) at =
            tag_read (ends (suc d)) at (λ t. end_body (end_tag t) ts v s (λ m. end_at d ts v s m) at)
            (λ l. end_body_lem d at l (λ m. end_at d ts v s m) (λ m. end_read d m) (end_tag (get_or s at 0)) (end-byte (get_or s at 0)))

        -- ---- statements and blocks
        set-read : (at : ℕ) → at < length s → get_or s at 0 ≡ 0x20 → ReadAs stmts at (set_at v s (at + 1))
        unfolding stmt_bytes StmtKeeps
        set-read at there e =
            if_then _ _ (variable_at v s (at + 1)) _ (variable-read (at + 1)) (λ x m j.
            one_more (exprs depth) stmts at (Set x) (0x20 ∷ x ∷ []) m (expr_at depth v s m) (there, e, j.1) (λ a. refl) (λ a k. (j.0, k.0, k.1)) (expr-read depth m))

        emit-read : (at : ℕ) → at < length s → get_or s at 0 ≡ 0x21 → ReadAs stmts at (emit_at v s (at + 1))
        unfolding stmt_bytes StmtKeeps
        emit-read at there e = one_more (exprs depth) stmts at Emit (0x21 ∷ []) (at + 1) (expr_at depth v s (at + 1)) (there, e, refl) (λ a. refl) (λ a k. k) (expr-read depth (at + 1))

        module _ (B : ℕ → Got Block) (h : (m : ℕ) → ReadAs blocks m (B m)) (at : ℕ) where
          -- a statement, and the block after it
          further : (p : Got Stmt) → ReadAs stmts at p → ReadAs blocks at (then p (λ x m. one (with_first x) B m))
          unfolding block_bytes in_turn Every
          further p q =
              if_then _ _ p _ q (λ x m j.
              one_more blocks blocks at (with_first x) (stmt_bytes x) m (B m) j.1 (λ y. append_assoc (stmt_bytes x) (in_turn stmt_bytes y.body) (end_bytes y.ending))
              (λ y k. record { body-keeps = (j.0, k.body-keeps); ending-keeps = k.ending-keeps; ending-deep = k.ending-deep }) (h m))

          block-body : (t : StmtTag) → StmtByte (get_or s at 0) t → ReadAs blocks at (block_body t ts v s B at)
          unfolding block_bytes in_turn Every begins
          block-body set_tag e = further (set_at v s (at + 1)) (set-read at (begins-there s at (ap (λ (t : ℕ). is_stmt (stmt_tag t)) e)) e)
          block-body emit_tag e = further (emit_at v s (at + 1)) (emit-read at (begins-there s at (ap (λ (t : ℕ). is_stmt (stmt_tag t)) e)) e)
          block-body no_stmt e =
              one_more (ends levels) blocks at (λ (x : End). record { body = []; ending = x }) [] at (end_at levels ts v s at) refl (λ x. refl)
              (λ x k. record { body-keeps = tt; ending-keeps = k.1; ending-deep = k.0 }) (end_read levels at)

        block_read : (f at : ℕ) → ReadAs blocks at (block_from f ts v s at)
        unfolding block_from
        block_read zero at = tt
        block_read (suc f) at = block-body (λ m. block_from f ts v s m) (λ m. block_read f m) at (stmt_tag (get_or s at 0)) (stmt_byte (get_or s at 0))

      -- ---- the first blocks of a rule
      blocks-read : (k : ℕ) → ReadAs all_blocks 4 (blocks_to n v s k)
      unfolding blocks_to in_turn Every
      blocks-read zero = (tt, refl)
      blocks-read (suc k) =
          if_then _ _ (blocks_to n v s k) _ (blocks-read k) (λ bs m j.
          one_more blocks all_blocks 4 (λ x. bs ++ (x ∷ [])) (in_turn block_bytes bs) m (block_at n v s m) j.1 (in_turn_last block_bytes bs) (λ x k. every_append (BlockKeeps n v) bs (x ∷ []) j.0 (k, tt)) (block_read k (length s) m))

      pub blocks-spelt : (k : ℕ) (bs : List Block) (m : ℕ) → blocks_to n v s k ≡ got bs m → Every (BlockKeeps n v) bs × Spelt s 4 (in_turn block_bytes bs) m
      blocks-spelt k bs m e = rw e at (blocks-read k)
