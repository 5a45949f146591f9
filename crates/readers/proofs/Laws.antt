-- The readers' answers from the answers of what they call: one reading after another, and one level of each grammar. Assumes nothing.
use Prim.Native.Nat.{ℕ, zero, suc, ◌+◌, ◌-◌, ◌<◌, ◌≤◌}
use native.Mathlib.Numerals.{sub-one}
use native.Mathlib.Omega.{arith}
use mathlib.Core.Logic.{◌⊎◌, inl, inr}
use mathlib.Core.Path.{◌≡◌, refl, sym, ap, ◌∙◌}
use mathlib.Core.Bool.{Bool, true, false, cond}
use mathlib.Core.List.{List}
use lib.Dec.{ltb, eqb, eqb-suc-zero}
use lib.ListN.{length, get_or}
use borrow.Author.Tests.{ltb-true, eqb-true, eqb-false, ne_eqb}
use Rattle.definitions.specs.declared.Operator.{Operator}
use Rattle.definitions.specs.declared.Operator.TheVariants.{Add, Subtract, Multiply, Divide, Remainder}
use Rattle.definitions.specs.declared.Relation.{Relation}
use Rattle.definitions.specs.declared.Relation.TheVariants.{Less, Equal}
use Rattle.definitions.specs.declared.Joint.{Joint}
use Rattle.definitions.specs.declared.Joint.TheVariants.{And, Or}
use Rattle.definitions.specs.Rule.{Expr, Cond, Const, Var, Neg, Op, Case, Compare, Not, Join}
use Rattle.definitions.specs.Grammar.{Got, got, refused, then, read_of, byte_at, one, two, constant_at, variable_at, expr_at, cond_at, expr_body, cond_body, expr_tag, cond_tag}
use Rattle.definitions.specs.Grammar.{ExprTag, const_tag, var_tag, neg_tag, case_tag, bad_expr, op_tag, CondTag, not_tag, bad_cond, compare_tag, join_tag}
use Rattle.definitions.specs.declared.Refusal.{Refusal}
use Rattle.definitions.specs.Refusals.{Reply}
use Rattle.readers.specs.Readings.{tag_at, due_of, second}
use Rattle.std.specs.Prelude.{Ok, Err}
use Rattle.std.specs.Result.{IsErr, IsErrAnd}
use Rattle.definitions.proofs.Handed.{handed}
use Rattle.definitions.specs.declared.Reason.TheVariants.{BadTag, TooDeep, EndsEarly}

-- ---- what a call's result is said to be, and what the arm of a `match` on it is told
pub told : {A : Type 0} {x y z : A} → x ≡ y → x ≡ z → y ≡ z
told p q = sym p ∙ q

-- a number that a `match` has not taken as n, nor as one below it
pub past : (n t : ℕ) → n ≤ t → (t ≡ n → ⊥) → n < t
past n t h f = go (eqb t n) refl
  where
    go : (b : Bool) → eqb t n ≡ b → n < t
    go true e = absurd (f (eqb-true t n e))
    go false e = let g = eqb-false t n e in omega arith

-- ---- one reading after another
-- after a reading that ends at n comes f there
pub goes : {A B : Type 0} (p : Got A) (f : A → ℕ → Got B) (n : ℕ) (r : Reply) → read_of p ≡ Ok n → ((a : A) → r ≡ read_of (f a n)) → r ≡ read_of (then p f)
unfolding read_of
goes (got a m) f n r e h = let q : m ≡ n = cc in rw q (h a)
goes (refused k q) f n r e h = let z : ◌≡◌ {A = ℕ} 0 1 = cc in absurd (omega arith)

-- a refusal stays
pub stays : {A B : Type 0} (p : Got A) (f : A → ℕ → Got B) (e : Refusal) → read_of p ≡ Err e → Err e ≡ read_of (then p f)
unfolding read_of
stays (got a m) f e h = let z : ◌≡◌ {A = ℕ} 0 1 = cc in absurd (omega arith)
stays (refused k p) f e h = sym h

-- a refusal that a `?` hands on as it is
abbrev pub Handed : Reply → Refusal → Type 0
Handed r e = IsErr r × IsErrAnd r (λ y. y ≡ e)

-- the same of what calls answer, and of what a `?` hands on
pub goes-on : {A B : Type 0} (p : Got A) (f : ℕ → Got B) (n : ℕ) (r : Reply) {q : Reply} → q ≡ read_of p → q ≡ Ok n → r ≡ read_of (f n) → r ≡ read_of (then p (λ _ m. f m))
goes-on p f n r d w h = goes p (λ _ m. f m) n r (told d w) (λ _. h)

pub ends : {A B : Type 0} (p : Got A) (f : A → ℕ → Got B) (e : Refusal) (r : Reply) {q : Reply} → Handed r e → q ≡ read_of p → q ≡ Err e → r ≡ read_of (then p f)
ends p f e r h d w = handed r e h ∙ stays p f e (told d w)

-- what is made of what was read is nothing to the reader
pub made : {A B : Type 0} (f : A → B) (p : Got A) → read_of (then p (λ a n. got (f a) n)) ≡ read_of p
unfolding read_of
made f (got a n) = refl
made f (refused k p) = refl

pub two_made : {A B : Type 0} (f : A → A → B) (p : ℕ → Got A) (at : ℕ) → read_of (two f p at) ≡ read_of (second p at)
unfolding read_of
two_made {A = A} f p at = go (p at)
  where
    go : (q : Got A) → read_of (then q (λ a n. then (p n) (λ b m. got (f a b) m))) ≡ read_of (then q (λ a n. p n))
    go (got a n) = made (f a) (p n)
    go (refused k q) = refl

-- one, or two of a kind, after something else
pub then_one : {A B C : Type 0} (f : A → B → C) (p : Got A) (q : ℕ → Got B) → read_of (then p (λ a n. one (f a) q n)) ≡ read_of (then p (λ _ n. q n))
unfolding read_of
then_one f (got a n) q = made (f a) (q n)
then_one f (refused k p) q = refl

pub then-two : {A B C : Type 0} (f : A → B → B → C) (p : Got A) (q : ℕ → Got B) → read_of (then p (λ a n. two (f a) q n)) ≡ read_of (then p (λ _ n. second q n))
unfolding read_of
then-two f (got a n) q = two_made (f a) q n
then-two f (refused k p) q = refl

-- ---- the tag that is due
-- where it is there, a level reads on by it
pub by_tag : {A : Type 0} (p : Got ℕ) (f : ℕ → Got A) (t : ℕ) → due_of p ≡ Ok t → then p (λ t _. f t) ≡ f t
unfolding due_of
by_tag (got u n) f t e = let q : u ≡ t = cc in ap f q
by_tag (refused k p) f t e = let z : ◌≡◌ {A = ℕ} 0 1 = cc in absurd (omega arith)

-- where it is not, its refusal stays
pub no_tag : {A : Type 0} (p : Got ℕ) (f : ℕ → ℕ → Got A) (e : Refusal) → due_of p ≡ Err e → Err e ≡ read_of (then p f)
unfolding due_of read_of
no_tag (got t n) f e h = let z : ◌≡◌ {A = ℕ} 0 1 = cc in absurd (omega arith)
no_tag (refused k p) f e h = let q : record { reason = k; place = p } ≡ e = cc in sym (ap Err q)

-- what was refused, and a byte that was read
pub due-refused : (p : Got ℕ) (e : Refusal) → due_of p ≡ Err e → p ≡ refused e.reason e.place
unfolding due_of
due-refused (got t n) e h = cc
due-refused (refused k p) e h = let q : record { reason = k; place = p } ≡ e = cc in ap (λ (r : Refusal). refused r.reason r.place) q

pub byte-got : (s : List ℕ) (at k : ℕ) {q : Reply} → q ≡ due_of (byte_at s at) → q ≡ Ok k → (at < length s) × (byte_at s at ≡ got k (at + 1))
unfolding due_of
byte-got s at k d w = go (ltb at (length s)) refl (told d w)
  where
    go :
        (a : Bool) → ltb at (length s) ≡ a → due_of (cond a (got (get_or s at 0) (at + 1)) (refused EndsEarly (length s))) ≡ Ok k →
        (at < length s) × (cond a (got (get_or s at 0) (at + 1)) (refused EndsEarly (length s)) ≡ got k (at + 1))
    go true p e = let h = ltb-true at (length s) p in let i : get_or s at 0 ≡ k = cc in (h, rw i)
    go false p e = let z : ◌≡◌ {A = ℕ} 0 1 = cc in absurd (omega arith)

-- of what `read_tag` tells and a `match` has found: the byte is there, and a level is left
module _ (left : ℕ) (s : List ℕ) (at tag : ℕ) {q : Reply} (d : q ≡ due_of (tag_at left s at)) (w : q ≡ Ok tag) where
  tagged : (at < length s) × (0 < left)
  unfolding due_of
  tagged = go (ltb at (length s)) (eqb left 0) refl refl (told d w)
    where
      go :
          (a b : Bool) → ltb at (length s) ≡ a → eqb left 0 ≡ b →
          due_of (then (cond a (got (get_or s at 0) (at + 1)) (refused EndsEarly (length s))) (λ t n. cond b (refused TooDeep at) (got t n))) ≡ Ok tag →
          (at < length s) × (0 < left)
      go true false p q e = let h = ltb-true at (length s) p in let z = eqb-false left 0 q in (omega arith, omega arith)
      go true true p q e = let z : ◌≡◌ {A = ℕ} 0 1 = cc in absurd (omega arith)
      go false b p q e = let z : ◌≡◌ {A = ℕ} 0 1 = cc in absurd (omega arith)

  pub tag-there : at < length s
  tag-there = tagged.0

  pub tag-level : 0 < left
  tag-level = tagged.1

-- what reads by levels, X, reads the tag that is due and goes on by it with one level less
pub levelled :
    {A : Type 0} (left : ℕ) (s : List ℕ) (at : ℕ) (X : ℕ → Got A) (f : ℕ → ℕ → Got A) →
    X 0 ≡ then (byte_at s at) (λ t _. refused TooDeep at) → ((d : ℕ) → X (suc d) ≡ then (byte_at s at) (λ t _. f d t)) →
    X left ≡ then (tag_at left s at) (λ t _. f (left - 1) t)
levelled {A = A} zero s at X f z h = z ∙ go (byte_at s at)
  where
    go : (b : Got ℕ) → then {B = A} b (λ t _. refused TooDeep at) ≡ then (then {B = ℕ} b (λ t n. refused TooDeep at)) (λ t _. f (0 - 1) t)
    go (got t n) = refl
    go (refused k p) = refl
levelled {A = A} (suc d) s at X f z h = rw (eqb-suc-zero d, sub-one) (h d ∙ go (byte_at s at))
  where
    go : (b : Got ℕ) → then b (λ t _. f d t) ≡ then (then b (λ t n. got t n)) (λ t _. f d t)
    go (got t n) = refl
    go (refused k p) = refl

-- ---- expressions and conditions
-- the tags of a kind, and those that are none
-- the numbers from low on, one after the other
named :
    {K T : Type 0} (kind : ℕ → T) (make : K → T) (low high : ℕ) → ((k : ℕ) → low + k < high → (x : K) × (kind (low + k) ≡ make x)) →
    (t : ℕ) → low ≤ t → t < high → (x : K) × (kind t ≡ make x)
named kind make low high f t l h = let q : low + (t - low) ≡ t = omega arith in rw q at (f (t - low) (omega arith))

op_tag_lem : (t : ℕ) → 4 ≤ t → t < 9 → (o : Operator) × (expr_tag t ≡ op_tag o)
op_tag_lem = named expr_tag op_tag 4 9 go
  where
    go : (k : ℕ) → 4 + k < 9 → (o : Operator) × (expr_tag (4 + k) ≡ op_tag o)
    go zero h = (Add, refl)
    go (suc zero) h = (Subtract, refl)
    go (suc (suc zero)) h = (Multiply, refl)
    go (suc (suc (suc zero))) h = (Divide, refl)
    go (suc (suc (suc (suc zero)))) h = (Remainder, refl)
    go (suc (suc (suc (suc (suc k))))) h = absurd (omega arith)

compare_tag_lem : (t : ℕ) → 0x10 ≤ t → t < 0x12 → (r : Relation) × (cond_tag t ≡ compare_tag r)
compare_tag_lem = named cond_tag compare_tag 0x10 0x12 go
  where
    go : (k : ℕ) → 0x10 + k < 0x12 → (r : Relation) × (cond_tag (0x10 + k) ≡ compare_tag r)
    go zero h = (Less, refl)
    go (suc zero) h = (Equal, refl)
    go (suc (suc k)) h = absurd (omega arith)

join_tag_lem : (t : ℕ) → 0x13 ≤ t → t < 0x15 → (j : Joint) × (cond_tag t ≡ join_tag j)
join_tag_lem = named cond_tag join_tag 0x13 0x15 go
  where
    go : (k : ℕ) → 0x13 + k < 0x15 → (j : Joint) × (cond_tag (0x13 + k) ≡ join_tag j)
    go zero h = (And, refl)
    go (suc zero) h = (Or, refl)
    go (suc (suc k)) h = absurd (omega arith)

-- a number outside a range is none of it
apart : (low high t : ℕ) → (t < low) ⊎ (high < t) → (k : ℕ) → low ≤ k → k ≤ high → eqb t k ≡ false
apart low high t (inl h) k l u = ne_eqb t k (λ e. omega arith)
apart low high t (inr h) k l u = ne_eqb t k (λ e. omega arith)

bad_expr_lem : (t : ℕ) → (t < 1) ⊎ (9 < t) → expr_tag t ≡ bad_expr
bad_expr_lem t h = let off = apart 1 9 t h in simp (off 1 (omega arith) (omega arith), off 2 (omega arith) (omega arith), off 3 (omega arith) (omega arith), off 4 (omega arith) (omega arith), off 5 (omega arith) (omega arith), off 6 (omega arith) (omega arith), off 7 (omega arith) (omega arith), off 8 (omega arith) (omega arith), off 9 (omega arith) (omega arith))

bad-cond : (t : ℕ) → (t < 0x10) ⊎ (0x14 < t) → cond_tag t ≡ bad_cond
bad-cond t h = let off = apart 0x10 0x14 t h in simp (off 0x10 (omega arith) (omega arith), off 0x11 (omega arith) (omega arith), off 0x12 (omega arith) (omega arith), off 0x13 (omega arith) (omega arith), off 0x14 (omega arith) (omega arith))

module _ (left v : ℕ) (s : List ℕ) (at : ℕ) where
  abbrev E : ℕ → Got Expr
  E n = expr_at (left - 1) v s n

  abbrev C : ℕ → Got Cond
  C n = cond_at (left - 1) v s n

  pub expr_level : expr_at left v s at ≡ then (tag_at left s at) (λ t _. expr_body (expr_tag t) v s E C at)
  unfolding expr_at
  expr_level = levelled left s at (λ d. expr_at d v s at) (λ d t. expr_body (expr_tag t) v s (λ n. expr_at d v s n) (λ n. cond_at d v s n) at) refl (λ d. refl)

  pub cond-level : cond_at left v s at ≡ then (tag_at left s at) (λ t _. cond_body (cond_tag t) E C at)
  unfolding cond_at
  cond-level = levelled left s at (λ d. cond_at d v s at) (λ d t. cond_body (cond_tag t) (λ n. expr_at d v s n) (λ n. cond_at d v s n) at) refl (λ d. refl)

  -- no tag is read
  pub expr_none : (r : Reply) (e : Refusal) {q : Reply} → Handed r e → q ≡ due_of (tag_at left s at) → q ≡ Err e → r ≡ read_of (expr_at left v s at)
  expr_none r e h d w = handed r e h ∙ rw expr_level (no_tag (tag_at left s at) _ e (told d w))

  pub cond-none : (r : Reply) (e : Refusal) {q : Reply} → Handed r e → q ≡ due_of (tag_at left s at) → q ≡ Err e → r ≡ read_of (cond_at left v s at)
  cond-none r e h d w = handed r e h ∙ rw cond-level (no_tag (tag_at left s at) _ e (told d w))

  module _ (r : Reply) (tag : ℕ) {q : Reply} (d : q ≡ due_of (tag_at left s at)) (w : q ≡ Ok tag) where
    expr-by : (t : ExprTag) → expr_tag tag ≡ t → r ≡ read_of (expr_body t v s E C at) → r ≡ read_of (expr_at left v s at)
    expr-by t i e = rw (expr_level, by_tag (tag_at left s at) (λ t. expr_body (expr_tag t) v s E C at) tag (told d w), i) e

    cond-by : (t : CondTag) → cond_tag tag ≡ t → r ≡ read_of (cond_body t E C at) → r ≡ read_of (cond_at left v s at)
    cond-by t i e = rw (cond-level, by_tag (tag_at left s at) (λ t. cond_body (cond_tag t) E C at) tag (told d w), i) e

    pub expr_const : tag ≡ 0x01 → r ≡ read_of (constant_at s (at + 1)) → r ≡ read_of (expr_at left v s at)
    expr_const i e = expr-by const_tag (ap expr_tag i) (e ∙ sym (made Const (constant_at s (at + 1))))

    pub expr_var : tag ≡ 0x02 → r ≡ read_of (variable_at v s (at + 1)) → r ≡ read_of (expr_at left v s at)
    expr_var i e = expr-by var_tag (ap expr_tag i) (e ∙ sym (made Var (variable_at v s (at + 1))))

    pub expr-neg : tag ≡ 0x03 → r ≡ read_of (E (at + 1)) → r ≡ read_of (expr_at left v s at)
    expr-neg i e = expr-by neg_tag (ap expr_tag i) (e ∙ sym (made Neg (E (at + 1))))

    pub expr-op : 3 < tag → tag < 9 → r ≡ read_of (second E (at + 1)) → r ≡ read_of (expr_at left v s at)
    expr-op l h e = let o = op_tag_lem tag l h in expr-by (op_tag o.0) o.1 (e ∙ sym (two_made (Op o.0) E (at + 1)))

    pub expr-case : tag ≡ 0x09 → r ≡ read_of (then (C (at + 1)) (λ _ n. second E n)) → r ≡ read_of (expr_at left v s at)
    expr-case i e = expr-by case_tag (ap expr_tag i) (e ∙ sym (then-two Case (C (at + 1)) E))

    pub expr_bad : (tag < 1) ⊎ (9 < tag) → r ≡ Err (record { reason = BadTag; place = at }) → r ≡ read_of (expr_at left v s at)
    unfolding read_of
    expr_bad h e = expr-by bad_expr (bad_expr_lem tag h) e

    pub cond-compare : 0x10 ≤ tag → tag < 0x12 → r ≡ read_of (second E (at + 1)) → r ≡ read_of (cond_at left v s at)
    cond-compare l h e = let o = compare_tag_lem tag l h in cond-by (compare_tag o.0) o.1 (e ∙ sym (two_made (Compare o.0) E (at + 1)))

    pub cond-not : tag ≡ 0x12 → r ≡ read_of (C (at + 1)) → r ≡ read_of (cond_at left v s at)
    cond-not i e = cond-by not_tag (ap cond_tag i) (e ∙ sym (made Not (C (at + 1))))

    pub cond-join : 0x12 < tag → tag < 0x15 → r ≡ read_of (second C (at + 1)) → r ≡ read_of (cond_at left v s at)
    cond-join l h e = let o = join_tag_lem tag l h in cond-by (join_tag o.0) o.1 (e ∙ sym (two_made (Join o.0) C (at + 1)))

    pub cond-bad : (tag < 0x10) ⊎ (0x14 < tag) → r ≡ Err (record { reason = BadTag; place = at }) → r ≡ read_of (cond_at left v s at)
    unfolding read_of
    cond-bad h e = cond-by bad_cond (bad-cond tag h) e

-- what is told of a tag, and of each way to go on by it
pub ruleset of_tag = (tag-there, tag-level)

pub ruleset of_expr = (of_tag, expr_const, expr_var, expr-neg, cond-not)
