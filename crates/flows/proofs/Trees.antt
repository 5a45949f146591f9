-- The tags of a tree in a row, and that they tell what the tree reads, sets and names. Assumes nothing.
use Prim.Native.Nat.{ℕ}
use mathlib.Core.Path.{◌≡◌, refl, sym, ap, ◌∙◌}
use mathlib.Core.Bool.{Bool, true, false, not, ◌&&◌, ◌||◌}
use mathlib.Core.List.{List, [], ◌∷◌, ◌++◌, append_assoc, append-nil}
use lib.Dec.{eqb}
use Rattle.definitions.specs.Rule.{Expr, Cond, Const, Var, Neg, Op, Case, Compare, Not, Join, Stmt, Set, Emit, End, Goto, Jump, Stop, If, Block}
use Rattle.definitions.specs.Columns.{reads, looks, end_looks, read_first, sets, goes_to, jumps_to}
use Rattle.flows.specs.Marks.{Mark, has, reads_first}

unfoldable mutual
  pub expr_marks : Expr → List Mark
  expr_marks (Const z) = []
  expr_marks (Var k) = (0x02, k) ∷ []
  expr_marks (Neg a) = expr_marks a
  expr_marks (Op o a b) = expr_marks a ++ expr_marks b
  expr_marks (Case c a b) = cond_marks c ++ (expr_marks a ++ expr_marks b)

  pub cond_marks : Cond → List Mark
  cond_marks (Compare r a b) = expr_marks a ++ expr_marks b
  cond_marks (Not c) = cond_marks c
  cond_marks (Join j c d) = cond_marks c ++ cond_marks d

unfoldable pub end_marks : End → List Mark
end_marks (Goto t) = (0x30, t) ∷ []
end_marks (Jump t) = (0x31, t) ∷ []
end_marks Stop = (0x32, 0) ∷ []
end_marks (If c x y) = (0x33, 0) ∷ (cond_marks c ++ (end_marks x ++ end_marks y))

unfoldable pub stmt_marks : Stmt → List Mark
stmt_marks (Set x a) = (0x20, x) ∷ expr_marks a
stmt_marks (Emit a) = (0x21, 0) ∷ expr_marks a

unfoldable pub body_marks : List Stmt → End → List Mark
body_marks [] e = end_marks e
body_marks (x ∷ xs) e = stmt_marks x ++ body_marks xs e

abbrev pub block_marks : Block → List Mark
block_marks b = body_marks b.body b.ending

-- ---- a tag and its operand among the tags

or-false : (a : Bool) → (a || false) ≡ a
or-false true = refl
or-false false = refl

or_assoc : (a b c : Bool) → (a || b) || c ≡ a || (b || c)
or_assoc true b c = refl
or_assoc false b c = refl

module _ (tag x : ℕ) where
  pub has-append : (ms ns : List Mark) → has tag x (ms ++ ns) ≡ (has tag x ms || has tag x ns)
  unfolding has
  has-append [] ns = refl
  has-append (m ∷ ms) ns = rw (has-append ms ns) (sym (or_assoc (eqb m.0 tag && eqb m.1 x) (has tag x ms) (has tag x ns)))

  past : (ms ns : List Mark) → has tag x ms ≡ false → has tag x (ms ++ ns) ≡ has tag x ns
  past ms ns e = rw (has-append ms ns, e)

  -- an expression and a condition hold no tag but a variable's
  module _ (other : eqb 0x02 tag ≡ false) where
    mutual
      unfolding expr_marks has

      expr-lacks : (e : Expr) → has tag x (expr_marks e) ≡ false
      expr-lacks (Const z) = refl
      expr-lacks (Var k) = rw other
      expr-lacks (Neg a) = expr-lacks a
      expr-lacks (Op o a b) = past (expr_marks a) (expr_marks b) (expr-lacks a) ∙ expr-lacks b
      expr-lacks (Case c a b) = past (cond_marks c) (expr_marks a ++ expr_marks b) (cond-lacks c) ∙ (past (expr_marks a) (expr_marks b) (expr-lacks a) ∙ expr-lacks b)

      cond-lacks : (c : Cond) → has tag x (cond_marks c) ≡ false
      cond-lacks (Compare r a b) = past (expr_marks a) (expr_marks b) (expr-lacks a) ∙ expr-lacks b
      cond-lacks (Not c) = cond-lacks c
      cond-lacks (Join j c d) = past (cond_marks c) (cond_marks d) (cond-lacks c) ∙ cond-lacks d

    -- an ending holds what its arms hold
    arms : eqb 0x33 tag ≡ false → (c : Cond) (a b : End) → has tag x (end_marks (If c a b)) ≡ (has tag x (end_marks a) || has tag x (end_marks b))
    unfolding end_marks has
    arms i c a b = rw i (past (cond_marks c) (end_marks a ++ end_marks b) (cond-lacks c) ∙ has-append (end_marks a) (end_marks b))

    -- a block holds an ending's tag where its ending does
    at-the-end : eqb 0x20 tag ≡ false → eqb 0x21 tag ≡ false → (xs : List Stmt) (e : End) → has tag x (body_marks xs e) ≡ has tag x (end_marks e)
    unfolding body_marks stmt_marks has
    at-the-end p q [] e = refl
    at-the-end p q (Set y a ∷ xs) e = rw p (past (expr_marks a) (body_marks xs e) (expr-lacks a) ∙ at-the-end p q xs e)
    at-the-end p q (Emit a ∷ xs) e = rw q (past (expr_marks a) (body_marks xs e) (expr-lacks a) ∙ at-the-end p q xs e)

-- ---- what is set

end-sets : (k : ℕ) (e : End) → has 0x20 k (end_marks e) ≡ false
unfolding end_marks has
end-sets k (Goto t) = refl
end-sets k (Jump t) = refl
end-sets k Stop = refl
end-sets k (If c x y) = rw (arms 0x20 k refl refl c x y, end-sets k x) (end-sets k y)

pub marks-sets : (xs : List Stmt) (e : End) (k : ℕ) → has 0x20 k (body_marks xs e) ≡ sets xs k
unfolding body_marks stmt_marks has sets
marks-sets [] e k = end-sets k e
marks-sets (Set x a ∷ xs) e k = rw (past 0x20 k (expr_marks a) (body_marks xs e) (expr-lacks 0x20 k refl a), marks-sets xs e k)
marks-sets (Emit a ∷ xs) e k = past 0x20 k (expr_marks a) (body_marks xs e) (expr-lacks 0x20 k refl a) ∙ marks-sets xs e k

-- ---- what is named

end-gotos : (t : ℕ) (e : End) → has 0x30 t (end_marks e) ≡ goes_to e t
unfolding end_marks has goes_to
end-gotos t (Goto u) = or-false (eqb u t)
end-gotos t (Jump u) = refl
end-gotos t Stop = refl
end-gotos t (If c x y) = rw (arms 0x30 t refl refl c x y, end-gotos t x, end-gotos t y)

end-jumps : (t : ℕ) (e : End) → has 0x31 t (end_marks e) ≡ jumps_to e t
unfolding end_marks has jumps_to
end-jumps t (Goto u) = refl
end-jumps t (Jump u) = or-false (eqb u t)
end-jumps t Stop = refl
end-jumps t (If c x y) = rw (arms 0x31 t refl refl c x y, end-jumps t x, end-jumps t y)

pub marks_jump : (xs : List Stmt) (e : End) (t : ℕ) → has 0x31 t (body_marks xs e) ≡ jumps_to e t
marks_jump xs e t = at-the-end 0x31 t refl refl refl xs e ∙ end-jumps t e

pub marks-goto : (xs : List Stmt) (e : End) (t : ℕ) → has 0x30 t (body_marks xs e) ≡ goes_to e t
marks-goto xs e t = at-the-end 0x30 t refl refl refl xs e ∙ end-gotos t e

-- ---- what is read first

-- the tags of a part say whether it reads k, and leave the rest to what follows
abbrev Tells : ℕ → Bool → Bool → List Mark → Type 0
Tells k on b ms = (ns : List Mark) → reads_first k on (ms ++ ns) ≡ (b || reads_first k on ns)

tells_both : (k : ℕ) (on a b : Bool) (ms ns : List Mark) → Tells k on a ms → Tells k on b ns → Tells k on (a || b) (ms ++ ns)
tells_both k on a b ms ns p q = λ os. rw (append_assoc ms ns os, p (ns ++ os), q os) (sym (or_assoc a b (reads_first k on os)))

module _ (k : ℕ) where
  mutual
    unfolding expr_marks reads_first reads

    expr-tells : (e : Expr) (on : Bool) → Tells k on (reads e k) (expr_marks e)
    expr-tells (Const z) on = λ ns. refl
    expr-tells (Var j) on = λ ns. refl
    expr-tells (Neg a) on = expr-tells a on
    expr-tells (Op o a b) on = tells_both k on (reads a k) (reads b k) (expr_marks a) (expr_marks b) (expr-tells a on) (expr-tells b on)
    expr-tells (Case c a b) on =
        tells_both k on (looks c k) (reads a k || reads b k) (cond_marks c) (expr_marks a ++ expr_marks b) (cond-tells c on)
        (tells_both k on (reads a k) (reads b k) (expr_marks a) (expr_marks b) (expr-tells a on) (expr-tells b on))

    cond-tells : (c : Cond) (on : Bool) → Tells k on (looks c k) (cond_marks c)
    cond-tells (Compare r a b) on = tells_both k on (reads a k) (reads b k) (expr_marks a) (expr_marks b) (expr-tells a on) (expr-tells b on)
    cond-tells (Not c) on = cond-tells c on
    cond-tells (Join j c d) on = tells_both k on (looks c k) (looks d k) (cond_marks c) (cond_marks d) (cond-tells c on) (cond-tells d on)

  -- an ending's tag puts the shield up
  end_tells : (e : End) (on : Bool) (ns : List Mark) → reads_first k on (end_marks e ++ ns) ≡ (not on && (end_looks e k || reads_first k false ns))
  unfolding end_marks end_looks reads_first
  end_tells (Goto t) on ns = refl
  end_tells (Jump t) on ns = refl
  end_tells Stop on ns = refl
  end_tells (If c x y) on ns =
      ap (λ (b : Bool). not on && b)
      (tells_both k false (looks c k) (end_looks x k || end_looks y k) (cond_marks c) (end_marks x ++ end_marks y) (cond-tells c false)
      (tells_both k false (end_looks x k) (end_looks y k) (end_marks x) (end_marks y) (end_tells x false) (end_tells y false)) ns)

  body_tells : (xs : List Stmt) (e : End) (on : Bool) → reads_first k on (body_marks xs e) ≡ (not on && read_first xs e k)
  unfolding body_marks stmt_marks read_first reads_first
  body_tells [] e on = rw (← append-nil (end_marks e)) (end_tells e on [] ∙ ap (λ (b : Bool). not on && b) (or-false (end_looks e k)))
  body_tells (Set x a ∷ xs) e on = ap (λ (b : Bool). not on && b) (expr-tells a (eqb x k) (body_marks xs e) ∙ ap (λ (b : Bool). reads a k || b) (body_tells xs e (eqb x k)))
  body_tells (Emit a ∷ xs) e on = ap (λ (b : Bool). not on && b) (expr-tells a false (body_marks xs e) ∙ ap (λ (b : Bool). reads a k || b) (body_tells xs e false))

pub marks-read : (xs : List Stmt) (e : End) (k : ℕ) → reads_first k false (body_marks xs e) ≡ read_first xs e k
marks-read xs e k = body_tells k xs e false
