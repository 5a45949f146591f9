-- What is read ends past its place and within the bytes and can be relied on, and a refusal has a number from 4 to 10 and a place within them:
-- by induction on the levels left. Assumes nothing.
use Prim.Native.Nat.{ℕ, zero, suc, ◌+◌, ◌<◌, ◌≤◌}
use native.Mathlib.Omega.{arith}
use mathlib.Core.Path.{◌≡◌, refl}
use mathlib.Core.Bool.{Bool, true, false, cond, ◌||◌}
use mathlib.Core.List.{List}
use lib.Dec.{ltb, leb, eqb}
use lib.ListN.{length, get_or}
use borrow.Author.Tests.{ltb-true, leb-true, eqb-true}
use Rattle.definitions.specs.Rule.{Expr, Cond, Const, Var, Neg, Op, Case, Compare, Not, Join}
use Rattle.definitions.specs.Columns.{reads, looks}
use Rattle.definitions.specs.Grammar.{Got, got, refused, then, read_of, byte_at, one, two, constant_at, variable_at, expr_at, cond_at, expr_body, cond_body, expr_tag, cond_tag}
use Rattle.definitions.specs.Grammar.{ExprTag, const_tag, var_tag, neg_tag, case_tag, bad_expr, op_tag, CondTag, not_tag, bad_cond, compare_tag, join_tag}
use Rattle.readers.specs.Accepted.{Each, ExprIn, CondIn}
use Rattle.std.specs.Prelude.{Ok}
use Rattle.definitions.specs.declared.Reason.{Reason}
use Rattle.definitions.specs.Refusals.{number_of}
use Rattle.definitions.specs.declared.Reason.TheVariants.{BadTag, BadVariable, TooDeep, EndsEarly}

-- of a reading at a place of so many bytes
unfoldable pub Sound : {A : Type 0} → (A → Type 0) → ℕ → ℕ → Got A → Type 0
Sound P at size (got a n) = (at < n) × (n ≤ size) × P a
Sound P at size (refused k p) = (4 ≤ number_of k) × (number_of k ≤ 10) × (p ≤ size)

-- ---- sets
-- what two sets hold together is what each holds
pub both : (P : ℕ → Type 0) (a b : ℕ → Bool) → Each P a → Each P b → Each P (λ k. a k || b k)
both P a b f g k e = go (a k) (b k) refl refl e
  where
    go : (x y : Bool) → a k ≡ x → b k ≡ y → x || y ≡ true → P k
    go true y p q e = f k p
    go false true p q e = g k q
    go false false p q e = let z : ◌≡◌ {A = ℕ} 0 1 = cc in absurd (omega arith)

pub nothing : (P : ℕ → Type 0) → Each P (λ k. false)
nothing P k e = let z : ◌≡◌ {A = ℕ} 0 1 = cc in absurd (omega arith)

pub single : (P : ℕ → Type 0) (x : ℕ) → P x → Each P (λ k. eqb x k)
single P x h k e = rw (← eqb-true x k e) h

-- ---- readings of readings
module _ (size : ℕ) where
  module _ {A : Type 0} (P : A → Type 0) where
    -- from a place further left
    pub earlier : (at n : ℕ) (p : Got A) → at ≤ n → Sound P n size p → Sound P at size p
    unfolding Sound
    earlier at n (got a m) h g = (omega arith, g.1, g.2)
    earlier at n (refused k p) h g = g

    pub refusal : (at : ℕ) (k : Reason) (p : ℕ) → 4 ≤ number_of k → number_of k ≤ 10 → p ≤ size → Sound P at size (refused k p)
    unfolding Sound
    refusal at k p l u h = (l, u, h)

    pub found : (at : ℕ) (a : A) (n : ℕ) → at < n → n ≤ size → P a → Sound P at size (got a n)
    unfolding Sound
    found at a n l u h = (l, u, h)

  module _ {A B : Type 0} (P : A → Type 0) (Q : B → Type 0) where
    pub next : (at : ℕ) (p : Got A) (f : A → ℕ → Got B) → Sound P at size p → ((a : A) (n : ℕ) → at < n → n ≤ size → P a → Sound Q at size (f a n)) → Sound Q at size (then p f)
    unfolding Sound
    next at (got a n) f g h = h a n g.0 g.1 g.2
    next at (refused k p) f g h = g

    pub made : (f : A → B) → ((a : A) → P a → Q (f a)) → (at : ℕ) (p : Got A) → Sound P at size p → Sound Q at size (then p (λ a n. got (f a) n))
    made f i at p g = next at p _ g (λ a n l u h. found Q at (f a) n l u (i a h))

    pub pair : (f : A → A → B) → ((a b : A) → P a → P b → Q (f a b)) → (E : ℕ → Got A) → ((n : ℕ) → Sound P n size (E n)) → (at : ℕ) → Sound Q at size (two f E at)
    pair f i E g at = next at (E at) _ (g at) (λ a n l u h. earlier Q at n _ (omega arith) (made (f a) (λ b k. i a b h k) n (E n) (g n)))

-- ---- bytes
-- a choice by a test
pub choice : {A : Type 0} (P : A → Type 0) (size at : ℕ) (b : Bool) (p q : Got A) → (b ≡ true → Sound P at size p) → (b ≡ false → Sound P at size q) → Sound P at size (cond b p q)
choice P size at true p q g h = g refl
choice P size at false p q g h = h refl

module _ (s : List ℕ) where
  anything : ℕ → Type 0
  anything k = Unit {0}

  byte-sound : (at : ℕ) → Sound anything at (length s) (byte_at s at)
  unfolding anything
  byte-sound at =
      choice anything (length s) at (ltb at (length s)) _ _ (λ e. let h = ltb-true at (length s) e in found (length s) anything at _ _ (omega arith) (omega arith) tt)
      (λ _. refusal (length s) anything at EndsEarly (length s) (omega arith) (omega arith) (omega arith))

  -- a tag that is there, and what follows it
  pub tagged : {A : Type 0} (P : A → Type 0) (at : ℕ) (f : ℕ → Got A) → (at < length s → Sound P at (length s) (f (get_or s at 0))) → Sound P at (length s) (then (byte_at s at) (λ t _. f t))
  tagged P at f h = go (ltb at (length s)) refl
    where
      go : (b : Bool) → ltb at (length s) ≡ b → Sound P at (length s) (then (cond b (got (get_or s at 0) (at + 1)) (refused EndsEarly (length s))) (λ t _. f t))
      go true e = h (ltb-true at (length s) e)
      go false e = refusal (length s) P at EndsEarly (length s) (omega arith) (omega arith) (omega arith)

  -- a byte that passes a test
  pub tested : (P : ℕ → Type 0) (test : ℕ → Bool) (why : Reason) (at : ℕ) → 4 ≤ number_of why → number_of why ≤ 10 → ((k : ℕ) → test k ≡ true → P k) → Sound P at (length s) (then (byte_at s at) (λ k n. cond (test k) (got k n) (refused why at)))
  tested P test why at l u i =
      next (length s) anything P at (byte_at s at) _ (byte-sound at) (λ k n h g _. choice P (length s) at (test k) _ _ (λ e. found (length s) P at k n h g (i k e)) (λ _. refusal (length s) P at why at l u (omega arith)))

  pub variable_sound : (v at : ℕ) → Sound (λ k. k < v) at (length s) (variable_at v s at)
  variable_sound v at = tested (λ k. k < v) (λ k. ltb k v) BadVariable at (omega arith) (omega arith) (λ k e. ltb-true k v e)

  constant-sound : (v at : ℕ) → Sound (ExprIn v) at (length s) (one Const (constant_at s) at)
  unfolding reads
  constant-sound v at = made (length s) (λ z. Unit {0}) (ExprIn v) Const (λ z _. nothing (λ j. j < v)) at (constant_at s at) four
    where
      four : Sound (λ z. Unit {0}) at (length s) (constant_at s at)
      four =
          choice (λ z. Unit {0}) (length s) at (leb (at + 4) (length s)) _ _
          (λ e. let h = leb-true (at + 4) (length s) e in found (length s) (λ z. Unit {0}) at _ _ (omega arith) (omega arith) tt)
          (λ _. refusal (length s) (λ z. Unit {0}) at EndsEarly (length s) (omega arith) (omega arith) (omega arith))

-- ---- expressions and conditions
module _ (s : List ℕ) (v : ℕ) (E : ℕ → Got Expr) (C : ℕ → Got Cond) where
  module _ (e-sound : (n : ℕ) → Sound (ExprIn v) n (length s) (E n)) (c-sound : (n : ℕ) → Sound (CondIn v) n (length s) (C n)) (at : ℕ) (there : at < length s) where
    expr_body_lem : (t : ExprTag) → Sound (ExprIn v) at (length s) (expr_body t v s E C at)
    unfolding reads
    expr_body_lem const_tag = earlier (length s) (ExprIn v) at (at + 1) _ (omega arith) (constant-sound s v (at + 1))
    expr_body_lem var_tag = earlier (length s) (ExprIn v) at (at + 1) _ (omega arith) (made (length s) (λ k. k < v) (ExprIn v) Var (λ k h. single (λ j. j < v) k h) (at + 1) _ (variable_sound s v (at + 1)))
    expr_body_lem neg_tag = earlier (length s) (ExprIn v) at (at + 1) _ (omega arith) (made (length s) (ExprIn v) (ExprIn v) Neg (λ e h. h) (at + 1) _ (e-sound (at + 1)))
    expr_body_lem (op_tag o) = earlier (length s) (ExprIn v) at (at + 1) _ (omega arith) (pair (length s) (ExprIn v) (ExprIn v) (Op o) (λ a b f g. both (λ j. j < v) (reads a) (reads b) f g) E e-sound (at + 1))
    expr_body_lem case_tag =
        earlier (length s) (ExprIn v) at (at + 1) _ (omega arith)
        (next (length s) (CondIn v) (ExprIn v) (at + 1) (C (at + 1)) _ (c-sound (at + 1)) (λ c n l u h.
        earlier (length s) (ExprIn v) (at + 1) n _ (omega arith)
        (pair (length s) (ExprIn v) (ExprIn v) (Case c) (λ a b f g. both (λ j. j < v) (looks c) _ h (both (λ j. j < v) (reads a) (reads b) f g)) E e-sound n)))
    expr_body_lem bad_expr = refusal (length s) (ExprIn v) at BadTag at (omega arith) (omega arith) (omega arith)

    cond-body : (t : CondTag) → Sound (CondIn v) at (length s) (cond_body t E C at)
    unfolding looks
    cond-body (compare_tag r) = earlier (length s) (CondIn v) at (at + 1) _ (omega arith) (pair (length s) (ExprIn v) (CondIn v) (Compare r) (λ a b f g. both (λ j. j < v) (reads a) (reads b) f g) E e-sound (at + 1))
    cond-body not_tag = earlier (length s) (CondIn v) at (at + 1) _ (omega arith) (made (length s) (CondIn v) (CondIn v) Not (λ c h. h) (at + 1) _ (c-sound (at + 1)))
    cond-body (join_tag j) = earlier (length s) (CondIn v) at (at + 1) _ (omega arith) (pair (length s) (CondIn v) (CondIn v) (Join j) (λ c d f g. both (λ j. j < v) (looks c) (looks d) f g) C c-sound (at + 1))
    cond-body bad_cond = refusal (length s) (CondIn v) at BadTag at (omega arith) (omega arith) (omega arith)

-- a level that is not left
pub deep : {A : Type 0} (P : A → Type 0) (s : List ℕ) (at : ℕ) → Sound P at (length s) (then (byte_at s at) (λ t _. refused TooDeep at))
deep P s at = tagged s P at (λ t. refused TooDeep at) (λ h. refusal (length s) P at TooDeep at (omega arith) (omega arith) (omega arith))

mutual
  unfolding expr_at

  pub expr_sound : (d v : ℕ) (s : List ℕ) (at : ℕ) → Sound (ExprIn v) at (length s) (expr_at d v s at)
  expr_sound zero v s at = deep (ExprIn v) s at
  expr_sound (suc d) v s at =
      tagged s (ExprIn v) at (λ t. expr_body (expr_tag t) v s (λ n. expr_at d v s n) (λ n. cond_at d v s n) at)
      (λ h. expr_body_lem s v (λ n. expr_at d v s n) (λ n. cond_at d v s n) (λ n. expr_sound d v s n) (λ n. cond-sound d v s n) at h (expr_tag (get_or s at 0)))

  pub cond-sound : (d v : ℕ) (s : List ℕ) (at : ℕ) → Sound (CondIn v) at (length s) (cond_at d v s at)
  cond-sound zero v s at = deep (CondIn v) s at
  cond-sound (suc d) v s at =
      tagged s (CondIn v) at (λ t. cond_body (cond_tag t) (λ n. expr_at d v s n) (λ n. cond_at d v s n) at)
      (λ h. cond-body s v (λ n. expr_at d v s n) (λ n. cond_at d v s n) (λ n. expr_sound d v s n) (λ n. cond-sound d v s n) at h (cond_tag (get_or s at 0)))

-- ---- what the answers say
module _ {A : Type 0} (P : A → Type 0) (at size : ℕ) (p : Got A) (g : Sound P at size p) where
  pub sound-next : (n : ℕ) → read_of p ≡ Ok n → (at < n) × (n ≤ size)
  unfolding Sound read_of
  sound-next n e = go p g e
    where
      go : (p : Got A) → Sound P at size p → read_of p ≡ Ok n → (at < n) × (n ≤ size)
      go (got a m) g e = let q : m ≡ n = cc in (omega arith, omega arith)
      go (refused k q) g e = let z : ◌≡◌ {A = ℕ} 0 1 = cc in absurd (omega arith)

  pub sound-refused : (k : Reason) (q : ℕ) → p ≡ refused k q → (4 ≤ number_of k) × (number_of k ≤ 10) × (q ≤ size)
  unfolding Sound
  sound-refused k q e = rw e at g

  pub sound-got : (a : A) (n : ℕ) → p ≡ got a n → (at < n) × (n ≤ size) × P a
  unfolding Sound
  sound-got a n e = rw e at g
