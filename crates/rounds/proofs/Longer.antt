-- What is read in some bytes is read in every longer list that begins with them: so a rule may be run where it lies before other bytes. Assumes nothing.
use Prim.Native.Nat.{ℕ, zero, suc, ◌+◌, ◌≤◌}
use native.Mathlib.Omega.{arith}
use borrow.Author.Tests.{lt-ltb, le-leb}
use mathlib.Core.Path.{◌≡◌, sym, ◌∙◌}
use mathlib.Core.List.{List, []}
use lib.ListN.{length, get_or, take}
use lib.Seq.{get_or-take}
use Rattle.definitions.specs.Rule.{Expr, Cond, End, Stmt, Block, Set, Emit, Const, Var, Neg, Op, Case, Compare, Not, Join, Goto, Jump, If}
use Rattle.definitions.specs.Grammar.{Got, got, refused, then, byte_at, one, two, constant_at, variable_at, target_at, depth, levels, expr_at, cond_at, end_at, expr_body, cond_body, end_body, set_at, emit_at, with_first, block_body, block_from}
use Rattle.definitions.specs.Grammar.{ExprTag, const_tag, var_tag, neg_tag, case_tag, bad_expr, op_tag, expr_tag, CondTag, not_tag, bad_cond, compare_tag, join_tag, cond_tag}
use Rattle.definitions.specs.Grammar.{EndTag, goto_tag, jump_tag, stop_tag, if_tag, bad_end, end_tag, StmtTag, set_tag, emit_tag, no_stmt, stmt_tag}
use Rattle.rounds.specs.Run.{Prefix}
use Rattle.rounds.proofs.Stepping.{block-there}
use Rattle.evaluators.proofs.Reading.{no_got, then-got, one-got, two-got, byte-got, constant-got, variable_got, target_got}
use Rattle.definitions.specs.declared.Reason.TheVariants.{TooDeep, EndsEarly}

pub begins : (s s' : List ℕ) → take (length s) s' ≡ s → length s ≤ length s' → Prefix s s'
begins s s' e h = record { longer = h; same = λ k l. sym (get_or-take (length s) s' k 0 l) ∙ rw e }

-- a reading goes over
abbrev Over : {A : Type 0} → (ℕ → Got A) → (ℕ → Got A) → Type 0
Over {A = A} E E' = (at : ℕ) (a : A) (n : ℕ) → E at ≡ got a n → E' at ≡ got a n

one-over : {A B : Type 0} (make : A → B) (E E' : ℕ → Got A) → Over E E' → Over (one make E) (one make E')
one-over make E E' h at b n e = let w = one-got make E at b n e in rw (h at w.0 n w.1, ← w.2)

two-over : {A B : Type 0} (make : A → A → B) (E E' : ℕ → Got A) → Over E E' → Over (two make E) (two make E')
two-over make E E' h at c m e = let w = two-got make E at c m e in rw (h at w.0 w.1 w.3, h w.1 w.2 m w.4, ← w.5)

three-over : {H A B : Type 0} (make : H → A → A → B) (C C' : ℕ → Got H) (E E' : ℕ → Got A) → Over C C' → Over E E' → Over (λ at. then (C at) (λ c n. two (make c) E n)) (λ at. then (C' at) (λ c n. two (make c) E' n))
three-over make C C' E E' g h at b m e =
    let w = then-got (C at) (λ c n. two (make c) E n) b m e in
    rw (g at w.0 w.1 w.2) (two-over (make w.0) E E' h w.1 b m w.3)

module _ (s s' : List ℕ) (p : Prefix s s') where
  constant-over : Over (constant_at s) (constant_at s')
  constant-over at z n e =
      let w = constant-got s at z n e in
      let long = p.longer in
      let there : at + 4 ≤ length s' = omega (arith, w.0) in
      let q = w.2 in
      let v = w.1 in
      rw (le-leb (at + 4) (length s') there, p.same at (omega (arith, w.0)), p.same (at + 1) (omega (arith, w.0)), p.same (at + 2) (omega (arith, w.0)), p.same (at + 3) (omega (arith, w.0)), ← v, ← q)

  variable_over : (v : ℕ) → Over (variable_at v s) (variable_at v s')
  variable_over v at k n e =
      let w = variable_got s at v k n e in
      let long = p.longer in
      let q = w.3 in
      let x = w.2 in
      rw (lt-ltb at (length s') (omega (arith, w.0)), p.same at w.0, lt-ltb (get_or s at 0) v w.1, ← x, ← q)

  target_over : (blocks : ℕ) → Over (target_at blocks s) (target_at blocks s')
  target_over blocks at k n e =
      let w = target_got s at blocks k n e in
      let long = p.longer in
      let q = w.3 in
      let x = w.2 in
      rw (lt-ltb at (length s') (omega (arith, w.0)), p.same at w.0, lt-ltb (get_or s at 0) blocks w.1, ← x, ← q)

  -- a tag is there
  tag_over : {B : Type 0} (at : ℕ) (f f' : ℕ → Got B) (b : B) (m : ℕ) → (f (get_or s at 0) ≡ got b m → f' (get_or s at 0) ≡ got b m) → then (byte_at s at) (λ t _. f t) ≡ got b m → then (byte_at s' at) (λ t _. f' t) ≡ got b m
  tag_over at f f' b m h e =
      let w = byte-got s at (λ t _. f t) b m e in
      let long = p.longer in
      rw (lt-ltb at (length s') (omega (arith, w.0)), p.same at w.0) (h w.1)

  module _ (v : ℕ) (E E' : ℕ → Got Expr) (C C' : ℕ → Got Cond) (hE : Over E E') (hC : Over C C') (at n : ℕ) where
    expr_body_lem : (x : ExprTag) (a : Expr) → expr_body x v s E C at ≡ got a n → expr_body x v s' E' C' at ≡ got a n
    expr_body_lem const_tag a e = one-over Const (constant_at s) (constant_at s') constant-over (at + 1) a n e
    expr_body_lem var_tag a e = one-over Var (variable_at v s) (variable_at v s') (variable_over v) (at + 1) a n e
    expr_body_lem neg_tag a e = one-over Neg E E' hE (at + 1) a n e
    expr_body_lem (op_tag o) a e = two-over (Op o) E E' hE (at + 1) a n e
    expr_body_lem case_tag a e = three-over Case C C' E E' hC hE (at + 1) a n e
    expr_body_lem bad_expr a e = e

    cond-body : (x : CondTag) (a : Cond) → cond_body x E C at ≡ got a n → cond_body x E' C' at ≡ got a n
    cond-body (compare_tag r) a e = two-over (Compare r) E E' hE (at + 1) a n e
    cond-body not_tag a e = one-over Not C C' hC (at + 1) a n e
    cond-body (join_tag j) a e = two-over (Join j) C C' hC (at + 1) a n e
    cond-body bad_cond a e = e

mutual
  unfolding expr_at

  expr_over : (d v : ℕ) (s s' : List ℕ) → Prefix s s' → Over (λ at. expr_at d v s at) (λ at. expr_at d v s' at)
  expr_over zero v s s' p at a n e = tag_over s s' p at (λ t. refused TooDeep at) (λ t. refused TooDeep at) a n (λ q. q) e
  expr_over (suc d) v s s' p at a n e =
      tag_over s s' p at (λ t. expr_body (expr_tag t) v s (λ n. expr_at d v s n) (λ n. cond_at d v s n) at) (λ t. expr_body (expr_tag t) v s' (λ n. expr_at d v s' n) (λ n. cond_at d v s' n) at) a n
      (expr_body_lem s s' p v (λ n. expr_at d v s n) (λ n. expr_at d v s' n) (λ n. cond_at d v s n) (λ n. cond_at d v s' n) (λ at a n e. expr_over d v s s' p at a n e) (λ at a n e. cond_over d v s s' p at a n e) at n (expr_tag (get_or s at 0)) a)
      e

  cond_over : (d v : ℕ) (s s' : List ℕ) → Prefix s s' → Over (λ at. cond_at d v s at) (λ at. cond_at d v s' at)
  cond_over zero v s s' p at a n e = tag_over s s' p at (λ t. refused TooDeep at) (λ t. refused TooDeep at) a n (λ q. q) e
  cond_over (suc d) v s s' p at a n e =
      tag_over s s' p at (λ t. cond_body (cond_tag t) (λ n. expr_at d v s n) (λ n. cond_at d v s n) at) (λ t. cond_body (cond_tag t) (λ n. expr_at d v s' n) (λ n. cond_at d v s' n) at) a n
      (cond-body s s' p v (λ n. expr_at d v s n) (λ n. expr_at d v s' n) (λ n. cond_at d v s n) (λ n. cond_at d v s' n) (λ at a n e. expr_over d v s s' p at a n e) (λ at a n e. cond_over d v s s' p at a n e) at n (cond_tag (get_or s at 0)) a)
      e

module _ (ts : ℕ) (v : ℕ) (s s' : List ℕ) (p : Prefix s s') where
  end_body_lem : (E E' : ℕ → Got End) → Over E E' → (at m : ℕ) (x : EndTag) (a : End) → end_body x ts v s E at ≡ got a m → end_body x ts v s' E' at ≡ got a m
  end_body_lem E E' h at m goto_tag a e = one-over Goto (target_at ts s) (target_at ts s') (target_over s s' p ts) (at + 1) a m e
  end_body_lem E E' h at m jump_tag a e = one-over Jump (target_at ts s) (target_at ts s') (target_over s s' p ts) (at + 1) a m e
  end_body_lem E E' h at m stop_tag a e = e
  end_body_lem E E' h at m if_tag a e = three-over If (λ k. cond_at depth v s k) (λ k. cond_at depth v s' k) E E' (cond_over depth v s s' p) h (at + 1) a m e
  end_body_lem E E' h at m bad_end a e = e

  end-over : (d : ℕ) → Over (λ at. end_at d ts v s at) (λ at. end_at d ts v s' at)
  unfolding end_at
  end-over zero at a m e = tag_over s s' p at (λ t. refused TooDeep at) (λ t. refused TooDeep at) a m (λ q. q) e
  end-over (suc d) at a m e =
      tag_over s s' p at (λ t. end_body (end_tag t) ts v s (λ m. end_at d ts v s m) at) (λ t. end_body (end_tag t) ts v s' (λ m. end_at d ts v s' m) at) a m
      (end_body_lem (λ m. end_at d ts v s m) (λ m. end_at d ts v s' m) (λ at a m e. end-over d at a m e) at m (end_tag (get_or s at 0)) a)
      e

  set-over : Over (set_at v s) (set_at v s')
  set-over at x m e =
      let w = then-got (variable_at v s at) (λ x n. one (Set x) (expr_at depth v s) n) x m e in
      rw (variable_over s s' p v at w.0 w.1 w.2) (one-over (Set w.0) (expr_at depth v s) (expr_at depth v s') (expr_over depth v s s' p) w.1 x m w.3)

  emit_over : Over (emit_at v s) (emit_at v s')
  emit_over = one-over Emit (expr_at depth v s) (expr_at depth v s') (expr_over depth v s s' p)

  later_over : (S S' : ℕ → Got Stmt) (B B' : ℕ → Got Block) → Over S S' → Over B B' → Over (λ at. then (S at) (λ x m. one (with_first x) B m)) (λ at. then (S' at) (λ x m. one (with_first x) B' m))
  later_over S S' B B' g h at a m e =
      let w = then-got (S at) (λ x m. one (with_first x) B m) a m e in
      rw (g at w.0 w.1 w.2) (one-over (with_first w.0) B B' h w.1 a m w.3)

  block-body : (B B' : ℕ → Got Block) → Over B B' → (at m : ℕ) (x : StmtTag) (a : Block) → block_body x ts v s B at ≡ got a m → block_body x ts v s' B' at ≡ got a m
  block-body B B' h at m set_tag a e = later_over (set_at v s) (set_at v s') B B' set-over h (at + 1) a m e
  block-body B B' h at m emit_tag a e = later_over (emit_at v s) (emit_at v s') B B' emit_over h (at + 1) a m e
  block-body B B' h at m no_stmt a e = one-over (λ e. record { body = []; ending = e }) (end_at levels ts v s) (end_at levels ts v s') (end-over levels) at a m e

  pub block-over : (f : ℕ) → Over (λ at. block_from f ts v s at) (λ at. block_from f ts v s' at)
  unfolding block_from
  block-over zero at a m e = absurd (no_got EndsEarly (length s) a m e)
  block-over (suc f) at a m e =
      let there = block-there v s at (record { bound = suc f; targets = ts; what = a; next = m; reads = e }) in
      rw (p.same at there) (block-body (λ m. block_from f ts v s m) (λ m. block_from f ts v s' m) (λ at a m e. block-over f at a m e) at m (stmt_tag (get_or s at 0)) a e)
