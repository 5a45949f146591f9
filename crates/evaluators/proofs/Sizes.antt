-- What is read ends where its bytes end: its place, and its size further on.
use Prim.Native.Nat.{ℕ, zero, suc, ◌+◌}
use native.Mathlib.Omega.{arith}
use mathlib.Core.Path.{◌≡◌, sym, ap, ◌∙◌}
use mathlib.Core.List.{List, [], ◌++◌}
use lib.ListN.{length, get_or, length-append}
use Rattle.definitions.specs.declared.Operator.{Operator}
use Rattle.definitions.specs.declared.Relation.{Relation}
use Rattle.definitions.specs.declared.Joint.{Joint}
use Rattle.definitions.specs.Rule.{Expr, Cond, End, Const, Var, Neg, Op, Case, Compare, Not, Join, Goto, Jump, Stop, If, Stmt, Set, Emit, Block}
use Rattle.definitions.specs.Spelling.{expr_bytes, cond_bytes, stmt_bytes, end_bytes, in_turn, expr_size, cond_size, stmt_size, end_size, body_size}
use Rattle.definitions.specs.Grammar.{Got, got, refused, then, one, two, constant_at, variable_at, target_at, expr_at, cond_at, end_at, expr_body, cond_body, end_body, depth, levels, set_at, emit_at, with_first, block_body, block_from, StmtTag, set_tag, emit_tag, no_stmt, stmt_tag}
use Rattle.definitions.specs.Grammar.{ExprTag, const_tag, var_tag, neg_tag, case_tag, bad_expr, op_tag, expr_tag}
use Rattle.definitions.specs.Grammar.{CondTag, not_tag, bad_cond, compare_tag, join_tag, cond_tag, EndTag, goto_tag, jump_tag, stop_tag, if_tag, bad_end, end_tag}
use Rattle.evaluators.proofs.Reading.{no_got, then-got, one-got, two-got, byte-got, constant-got, variable_got, target_got}
use Rattle.definitions.specs.declared.Reason.TheVariants.{BadTag, TooDeep, EndsEarly}

-- what every reading of a kind takes
abbrev Takes : {A : Type 0} → (A → ℕ) → (ℕ → Got A) → Type 0
Takes {A = A} size E = (at : ℕ) (a : A) (n : ℕ) → E at ≡ got a n → n ≡ at + size a

two_takes : {A B : Type 0} (make : A → A → B) (size : A → ℕ) (E : ℕ → Got A) → Takes size E → (at : ℕ) (b : B) (m : ℕ) → two make E at ≡ got b m → (x : A) × (y : A) × (b ≡ make x y) × (m ≡ at + (size x + size y))
two_takes make size E h at b m e =
    let w = two-got make E at b m e in
    let k = h at w.0 w.1 w.3 in
    let l = h w.1 w.2 m w.4 in
    (w.0, w.2, w.5, omega arith)

three_takes : {H A B : Type 0} (make : H → A → A → B) (first : H → ℕ) (size : A → ℕ) (C : ℕ → Got H) (E : ℕ → Got A) → Takes first C → Takes size E → (at : ℕ) (b : B) (m : ℕ) → then (C at) (λ c n. two (make c) E n) ≡ got b m → (c : H) × (x : A) × (y : A) × (b ≡ make c x y) × (m ≡ at + (first c + (size x + size y)))
three_takes make first size C E g h at b m e =
    let w = then-got (C at) (λ c n. two (make c) E n) b m e in
    let k = g at w.0 w.1 w.2 in
    let u = two_takes (make w.0) size E h w.1 b m w.3 in
    (w.0, u.0, u.1, u.2, omega (arith, u.3))

-- a tag, and so many bytes after it
tagged : (at k n size : ℕ) → n ≡ at + 1 + k → size ≡ 1 + k → n ≡ at + size
tagged at k n size e f = omega arith

module _ (a b : Expr) where
  two_exprs : length (expr_bytes a ++ expr_bytes b) ≡ expr_size a + expr_size b
  two_exprs = length-append (expr_bytes a) (expr_bytes b)

  neg_size : expr_size (Neg a) ≡ 1 + expr_size a
  unfolding expr_bytes
  neg_size = omega arith

  op_size : (o : Operator) → expr_size (Op o a b) ≡ 1 + (expr_size a + expr_size b)
  unfolding expr_bytes
  op_size o = omega (arith, two_exprs)

  case_size : (c : Cond) → expr_size (Case c a b) ≡ 1 + (cond_size c + (expr_size a + expr_size b))
  unfolding expr_bytes
  case_size c = omega (arith, length-append (cond_bytes c) (expr_bytes a ++ expr_bytes b), two_exprs)

  compare_size : (r : Relation) → cond_size (Compare r a b) ≡ 1 + (expr_size a + expr_size b)
  unfolding expr_bytes
  compare_size r = omega (arith, two_exprs)

module _ (c d : Cond) where
  not-size : cond_size (Not c) ≡ 1 + cond_size c
  unfolding expr_bytes
  not-size = omega arith

  join_size : (j : Joint) → cond_size (Join j c d) ≡ 1 + (cond_size c + cond_size d)
  unfolding expr_bytes
  join_size j = omega (arith, length-append (cond_bytes c) (cond_bytes d))

if_size : (c : Cond) (x y : End) → end_size (If c x y) ≡ 1 + (cond_size c + (end_size x + end_size y))
unfolding end_bytes
if_size c x y = omega (arith, length-append (cond_bytes c) (end_bytes x ++ end_bytes y), length-append (end_bytes x) (end_bytes y))

module _ (v : ℕ) (s : List ℕ) (E : ℕ → Got Expr) (C : ℕ → Got Cond) (hE : Takes expr_size E) (hC : Takes cond_size C) (at : ℕ) where
  expr_body_lem : (x : ExprTag) (a : Expr) (n : ℕ) → expr_body x v s E C at ≡ got a n → n ≡ at + expr_size a
  unfolding expr_bytes
  expr_body_lem const_tag a n e = let w = one-got Const (constant_at s) (at + 1) a n e in tagged at 4 n (expr_size a) (constant-got s (at + 1) w.0 n w.1).2 (ap expr_size w.2)
  expr_body_lem var_tag a n e = let w = one-got Var (variable_at v s) (at + 1) a n e in tagged at 1 n (expr_size a) (variable_got s (at + 1) v w.0 n w.1).3 (ap expr_size w.2)
  expr_body_lem neg_tag a n e = let w = one-got Neg E (at + 1) a n e in tagged at (expr_size w.0) n (expr_size a) (hE (at + 1) w.0 n w.1) (ap expr_size w.2 ∙ neg_size w.0 w.0)
  expr_body_lem (op_tag o) a n e = let w = two_takes (Op o) expr_size E hE (at + 1) a n e in tagged at (expr_size w.0 + expr_size w.1) n (expr_size a) w.3 (ap expr_size w.2 ∙ op_size w.0 w.1 o)
  expr_body_lem case_tag a n e =
      let w = three_takes Case cond_size expr_size C E hC hE (at + 1) a n e in
      tagged at (cond_size w.0 + (expr_size w.1 + expr_size w.2)) n (expr_size a) w.4 (ap expr_size w.3 ∙ case_size w.1 w.2 w.0)
  expr_body_lem bad_expr a n e = absurd (no_got BadTag at a n e)

  cond-body : (x : CondTag) (a : Cond) (n : ℕ) → cond_body x E C at ≡ got a n → n ≡ at + cond_size a
  unfolding expr_bytes
  cond-body (compare_tag r) a n e = let w = two_takes (Compare r) expr_size E hE (at + 1) a n e in tagged at (expr_size w.0 + expr_size w.1) n (cond_size a) w.3 (ap cond_size w.2 ∙ compare_size w.0 w.1 r)
  cond-body not_tag a n e = let w = one-got Not C (at + 1) a n e in tagged at (cond_size w.0) n (cond_size a) (hC (at + 1) w.0 n w.1) (ap cond_size w.2 ∙ not-size w.0 w.0)
  cond-body (join_tag j) a n e = let w = two_takes (Join j) cond_size C hC (at + 1) a n e in tagged at (cond_size w.0 + cond_size w.1) n (cond_size a) w.3 (ap cond_size w.2 ∙ join_size w.0 w.1 j)
  cond-body bad_cond a n e = absurd (no_got BadTag at a n e)

-- an expression, or a condition
mutual
  unfolding expr_at

  pub expr_size_lem : (d v : ℕ) (s : List ℕ) → Takes expr_size (λ at. expr_at d v s at)
  expr_size_lem zero v s at a n e = absurd (no_got TooDeep at a n (byte-got s at (λ t _. refused TooDeep at) a n e).1)
  expr_size_lem (suc d) v s at a n e =
      expr_body_lem v s (λ n. expr_at d v s n) (λ n. cond_at d v s n) (λ at a n e. expr_size_lem d v s at a n e) (λ at a n e. cond-size d v s at a n e) at (expr_tag (get_or s at 0)) a n
      (byte-got s at (λ t _. expr_body (expr_tag t) v s (λ n. expr_at d v s n) (λ n. cond_at d v s n) at) a n e).1

  pub cond-size : (d v : ℕ) (s : List ℕ) → Takes cond_size (λ at. cond_at d v s at)
  cond-size zero v s at a n e = absurd (no_got TooDeep at a n (byte-got s at (λ t _. refused TooDeep at) a n e).1)
  cond-size (suc d) v s at a n e =
      cond-body v s (λ n. expr_at d v s n) (λ n. cond_at d v s n) (λ at a n e. expr_size_lem d v s at a n e) (λ at a n e. cond-size d v s at a n e) at (cond_tag (get_or s at 0)) a n
      (byte-got s at (λ t _. cond_body (cond_tag t) (λ n. expr_at d v s n) (λ n. cond_at d v s n) at) a n e).1

-- an ending
module _ (ts : ℕ) (v : ℕ) (s : List ℕ) (E : ℕ → Got End) (hE : Takes end_size E) (at : ℕ) where
  end_body_lem : (x : EndTag) (a : End) (m : ℕ) → end_body x ts v s E at ≡ got a m → m ≡ at + end_size a
  unfolding end_bytes
  end_body_lem goto_tag a m e = let w = one-got Goto (target_at ts s) (at + 1) a m e in tagged at 1 m (end_size a) (target_got s (at + 1) ts w.0 m w.1).3 (ap end_size w.2)
  end_body_lem jump_tag a m e = let w = one-got Jump (target_at ts s) (at + 1) a m e in tagged at 1 m (end_size a) (target_got s (at + 1) ts w.0 m w.1).3 (ap end_size w.2)
  end_body_lem stop_tag a m e = let o : m ≡ at + 1 = cc in let z : Stop ≡ a = cc in tagged at 0 m (end_size a) (omega arith) (ap end_size (sym z))
  end_body_lem if_tag a m e =
      let w = three_takes If cond_size end_size (λ k. cond_at depth v s k) E (cond-size depth v s) hE (at + 1) a m e in
      tagged at (cond_size w.0 + (end_size w.1 + end_size w.2)) m (end_size a) w.4 (ap end_size w.3 ∙ if_size w.0 w.1 w.2)
  end_body_lem bad_end a m e = absurd (no_got BadTag at a m e)

pub end-size : (d : ℕ) (ts : ℕ) (v : ℕ) (s : List ℕ) → Takes end_size (λ at. end_at d ts v s at)
unfolding end_at
end-size zero ts v s at a m e = absurd (no_got TooDeep at a m (byte-got s at (λ t _. refused TooDeep at) a m e).1)
end-size (suc d) ts v s at a m e =
    end_body_lem ts v s (λ m. end_at d ts v s m) (λ at a m e. end-size d ts v s at a m e) at (end_tag (get_or s at 0)) a m
    (byte-got s at (λ t _. end_body (end_tag t) ts v s (λ m. end_at d ts v s m) at) a m e).1

-- ---- statements and blocks
abbrev pub block_size : Block → ℕ
block_size b = body_size b + end_size b.ending

-- a block's statements, of which one is the first
pub first-size : (x : Stmt) (b : Block) → body_size (with_first x b) ≡ stmt_size x + body_size b
unfolding in_turn
first-size x b = length-append (stmt_bytes x) (in_turn stmt_bytes b.body)

set_is : (k : ℕ) (a : Expr) → stmt_size (Set k a) ≡ 2 + expr_size a
unfolding stmt_bytes
set_is k a = omega arith

emit_is : (a : Expr) → stmt_size (Emit a) ≡ 1 + expr_size a
unfolding stmt_bytes
emit_is a = omega arith

module _ (v : ℕ) (s : List ℕ) (at : ℕ) (x : Stmt) (m : ℕ) where
  -- what stands after a statement's tag
  pub set-size : set_at v s (at + 1) ≡ got x m → m ≡ at + stmt_size x
  set-size e =
      let u = then-got (variable_at v s (at + 1)) (λ k n. one (Set k) (expr_at depth v s) n) x m e in
      let k = (variable_got s (at + 1) v u.0 u.1 u.2).3 in
      let p = one-got (Set u.0) (expr_at depth v s) u.1 x m u.3 in
      omega (arith, k, expr_size_lem depth v s u.1 p.0 m p.1, ap stmt_size p.2, set_is u.0 p.0)

  pub emit_size : emit_at v s (at + 1) ≡ got x m → m ≡ at + stmt_size x
  emit_size e =
      let p = one-got Emit (expr_at depth v s) (at + 1) x m e in
      omega (arith, expr_size_lem depth v s (at + 1) p.0 m p.1, ap stmt_size p.2, emit_is p.0)

module _ (ts : ℕ) (v : ℕ) (s : List ℕ) where
  module _ (B : ℕ → Got Block) (hB : Takes block_size B) (at : ℕ) (b : Block) (n : ℕ) where
    first : (x : Stmt) (m : ℕ) → m ≡ at + stmt_size x → one (with_first x) B m ≡ got b n → n ≡ at + block_size b
    first x m k e =
        let u = one-got (with_first x) B m b n e in
        omega (arith, k, hB m u.0 n u.1, ap block_size u.2, first-size x u.0)

    block-body : (t : StmtTag) → block_body t ts v s B at ≡ got b n → n ≡ at + block_size b
    unfolding in_turn
    block-body set_tag e = let w = then-got (set_at v s (at + 1)) (λ x m. one (with_first x) B m) b n e in first w.0 w.1 (set-size v s at w.0 w.1 w.2) w.3
    block-body emit_tag e = let w = then-got (emit_at v s (at + 1)) (λ x m. one (with_first x) B m) b n e in first w.0 w.1 (emit_size v s at w.0 w.1 w.2) w.3
    block-body no_stmt e =
        let w = one-got (λ e. record { body = []; ending = e }) (end_at levels ts v s) at b n e in
        omega (arith, end-size levels ts v s at w.0 n w.1, ap block_size w.2)

  pub block_size_lem : (f : ℕ) → Takes block_size (λ at. block_from f ts v s at)
  unfolding block_from
  block_size_lem zero at b n e = absurd (no_got EndsEarly (length s) b n e)
  block_size_lem (suc f) at b n e = block-body (λ m. block_from f ts v s m) (λ at b n e. block_size_lem f at b n e) at b n (stmt_tag (get_or s at 0)) e
