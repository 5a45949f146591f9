-- 02, K4: where a row ends in a fault, the operator that stands at its place in the rule's bytes is the one at fault. Assumes nothing.
use Prim.Native.Nat.{ℕ, zero, suc, ◌+◌}
use native.Mathlib.Omega.{arith}
use mathlib.Core.Path.{◌≡◌, refl, sym, ap}
use mathlib.Core.Bool.{Bool, true, false, cond}
use mathlib.Core.List.{List, [], ◌∷◌, ◌++◌, append_assoc, append-nil}
use lib.IntN.{ℤ}
use lib.Dec.{ltb}
use lib.ListN.{length, get_or, take, length-append}
use Rattle.definitions.specs.Values.{Val, number, Out, value, fault, also, negation}
use Rattle.definitions.specs.declared.Operator.{Operator}
use Rattle.definitions.specs.declared.Operator.TheVariants.{Add, Subtract, Multiply, Divide, Remainder}
use Rattle.definitions.specs.Rule.{Expr, Cond, Const, Var, Neg, Op, Case, Compare, Not, Join}
use Rattle.definitions.specs.Rule.{Stmt, Set, Emit, End, Goto, Jump, Stop, If, Block, Rule, size, block_of}
use Rattle.definitions.specs.Spelling.{operator_byte, expr_bytes, cond_bytes, stmt_bytes, end_bytes, in_turn, block_bytes, bytes_of, expr_size, cond_size, stmt_size, end_size, body_size, block_place}
use Rattle.definitions.specs.Meaning.{Where, at_byte, flaw, applied, decided, handed_up, negated, operated, eval, holds}
use Rattle.definitions.specs.Direct.{Way, on, ended, onward, with, emitted, step, steps, Exit, to_block, to_round, to_stop, exit, Round, jumped, finished, leave, through, origin, walk}
use Rattle.definitions.specs.Faulting.{OwnFault, negating, operating, Among, Tells, no_fault, at_fault, Telling}
use Rattle.definitions.specs.Direct.{State, status_number, fault_place, goes_on, joined, start, advance_from, advance, after_from, after}
use Rattle.definitions.specs.declared.Kind.{Kind}
use Rattle.definitions.specs.declared.Flaw.{Flaw}
use Rattle.definitions.specs.declared.Finish.TheVariants.{QuotaFull}

-- ---- among the bytes of a part is among those of the whole

here : (p : ℕ) (e : Expr) (k : Kind) (env : List Val) → OwnFault env k e → Among p (expr_bytes e) (flaw (at_byte p) k)
here p e k env h = record { front = []; operator = e; back = []; env = env; bytes_are = sym (append-nil (expr_bytes e)); place_is = omega arith; own = h }

before : (xs ys : List ℕ) (p : ℕ) (f : Flaw) → Among p xs f → Among p (xs ++ ys) f
before xs ys p f h =
    record { front = h.front; operator = h.operator; back = h.back ++ ys; env = h.env; bytes_are = rw h.bytes_are (simp append_assoc); place_is = h.place_is; own = h.own }

behind : (xs ys : List ℕ) (p m : ℕ) (f : Flaw) → m ≡ p + length xs → Among m ys f → Among p (xs ++ ys) f
behind xs ys p m f e h =
    record {
      front = xs ++ h.front;
      operator = h.operator;
      back = h.back;
      env = h.env;
      bytes_are = rw h.bytes_are (simp append_assoc);
      place_is = omega (arith, e, h.place_is, length-append xs h.front);
      own = h.own;
    }

-- behind a tag x: what it holds, one after the other
module _ (x p : ℕ) (f : Flaw) where
  next : (xs : List ℕ) → Among (p + 1) xs f → Among p (x ∷ xs) f
  next xs h = behind (x ∷ []) xs p (p + 1) f refl h

  first : (xs ys : List ℕ) → Among (p + 1) xs f → Among p (x ∷ (xs ++ ys)) f
  first xs ys h = next (xs ++ ys) (before xs ys (p + 1) f h)

  second : (xs ys : List ℕ) → Among (p + (1 + length xs)) ys f → Among p (x ∷ (xs ++ ys)) f
  second xs ys h = behind (x ∷ xs) ys p (p + (1 + length xs)) f (omega arith) h

  middle : (xs ys zs : List ℕ) → Among (p + (1 + length xs)) ys f → Among p (x ∷ (xs ++ (ys ++ zs))) f
  middle xs ys zs h = second xs (ys ++ zs) (before ys zs _ f h)

  third : (xs ys zs : List ℕ) → Among (p + (1 + length xs + length ys)) zs f → Among p (x ∷ (xs ++ (ys ++ zs))) f
  third xs ys zs h = second xs (ys ++ zs) (behind ys zs (p + (1 + length xs)) _ f (omega arith) h)

-- ---- where what is worked out is a fault, P holds of it
unfoldable pub AtFault : {B : Type 0} → (Flaw → Type 0) → Out Flaw B → Type 0
AtFault P (value b) = Unit {0}
AtFault P (fault f) = P f

value_points : {B : Type 0} (P : Flaw → Type 0) (b : B) → AtFault P (value b)
unfolding AtFault
value_points P b = tt

also_points : {B C : Type 0} (P Q : Flaw → Type 0) (o : Out Flaw B) (g : B → Out Flaw C) → ((f : Flaw) → P f → Q f) → AtFault P o → ((b : B) → AtFault Q (g b)) → AtFault Q (also o g)
unfolding AtFault
also_points P Q (value b) g i h k = k b
also_points P Q (fault f) g i h k = i f h

cond_points : {B : Type 0} (P Q R : Flaw → Type 0) (h : Bool) (a b : Out Flaw B) → ((f : Flaw) → P f → R f) → ((f : Flaw) → Q f → R f) → AtFault P a → AtFault Q b → AtFault R (cond h a b)
unfolding AtFault
cond_points P Q R true (value x) b i j p q = tt
cond_points P Q R true (fault f) b i j p q = i f p
cond_points P Q R false a (value x) i j p q = tt
cond_points P Q R false a (fault f) i j p q = j f q

handed_points : (P : Flaw → Type 0) (w : Where) (o : Out Kind ℤ) → ((k : Kind) → o ≡ fault k → P (flaw w k)) → AtFault P (handed_up w o)
unfolding AtFault
handed_points P w (value z) h = tt
handed_points P w (fault k) h = h k refl

-- what a value leads to, told that it is what is worked out
also-told : {B C : Type 0} (P Q : Flaw → Type 0) (o : Out Flaw B) (g : B → Out Flaw C) → ((f : Flaw) → P f → Q f) → AtFault P o → ((b : B) → o ≡ value b → AtFault Q (g b)) → AtFault Q (also o g)
unfolding AtFault
also-told P Q (value b) g i h k = k b refl
also-told P Q (fault f) g i h k = i f h

negated_points : (p : ℕ) (a : Expr) (w : Where) (env : List Val) (x : Val) → eval a w env ≡ value x → AtFault (Among p (expr_bytes (Neg a))) (negated (at_byte p) x)
negated_points p a w env (number x) e = handed_points _ (at_byte p) (negation x) (λ k h. here p (Neg a) k env (negating w x e h))

operated_points : (p : ℕ) (o : Operator) (a b : Expr) (w w' : Where) (env : List Val) (x y : Val) → eval a w env ≡ value x → eval b w' env ≡ value y
    → AtFault (Among p (expr_bytes (Op o a b))) (operated (at_byte p) o x y)
operated_points p o a b w w' env (number x) (number y) e e' = handed_points _ (at_byte p) (applied o x y) (λ k h. here p (Op o a b) k env (operating w w' x y e e' h))

-- ---- expressions and conditions
mutual
  unfolding eval expr_bytes

  pub eval_points : (e : Expr) (p : ℕ) (env : List Val) → AtFault (Among p (expr_bytes e)) (eval e (at_byte p) env)
  eval_points (Const z) p env = value_points _ _
  eval_points (Var k) p env = value_points _ _
  eval_points (Neg a) p env = also-told _ _ _ _ (λ n. next _ p n (expr_bytes a)) (eval_points a (p + 1) env) (λ x e. negated_points p a _ env x e)
  eval_points (Op o a b) p env =
      also-told _ _ _ _ (λ n. first _ p n (expr_bytes a) (expr_bytes b)) (eval_points a (p + 1) env)
      (λ x e. also-told _ _ _ _ (λ n. second _ p n (expr_bytes a) (expr_bytes b)) (eval_points b (p + (1 + expr_size a)) env) (λ y e'. operated_points p o a b _ _ env x y e e'))
  eval_points (Case c a b) p env =
      also_points _ _ _ _ (λ n. first _ p n (cond_bytes c) (expr_bytes a ++ expr_bytes b)) (holds_points c (p + 1) env)
      (λ h. cond_points _ _ _ h _ _ (λ n. middle _ p n (cond_bytes c) (expr_bytes a) (expr_bytes b)) (λ n. third _ p n (cond_bytes c) (expr_bytes a) (expr_bytes b))
      (eval_points a (p + (1 + cond_size c)) env) (eval_points b (p + (1 + cond_size c + expr_size a)) env))

  pub holds_points : (c : Cond) (p : ℕ) (env : List Val) → AtFault (Among p (cond_bytes c)) (holds c (at_byte p) env)
  holds_points (Compare r a b) p env =
      also_points _ _ _ _ (λ n. first _ p n (expr_bytes a) (expr_bytes b)) (eval_points a (p + 1) env)
      (λ x. also_points _ _ _ _ (λ n. second _ p n (expr_bytes a) (expr_bytes b)) (eval_points b (p + (1 + expr_size a)) env) (λ y. value_points _ _))
  holds_points (Not c) p env = also_points _ _ _ _ (λ n. next _ p n (cond_bytes c)) (holds_points c (p + 1) env) (λ h. value_points _ _)
  holds_points (Join j c d) p env =
      also_points _ _ _ _ (λ n. first _ p n (cond_bytes c) (cond_bytes d)) (holds_points c (p + 1) env)
      (λ h. cond_points (Among p (cond_bytes (Join j c d))) _ _ (decided j h) _ _ (λ n i. i) (λ n. second _ p n (cond_bytes c) (cond_bytes d)) (value_points _ h) (holds_points d (p + (1 + cond_size c)) env))

-- ---- statements and endings

tells_more : (P Q : Flaw → Type 0) (s p : ℕ) → ((f : Flaw) → P f → Q f) → Tells P s p → Tells Q s p
tells_more P Q s p i (no_fault n h k) = no_fault n h k
tells_more P Q s p i (at_fault f h) = at_fault f (i f h)

unfoldable WayPoints : (Flaw → Type 0) → Way → Type 0
WayPoints P (on env ls) = Unit {0}
WayPoints P (ended how ls) = Telling P how

with_points : {B : Type 0} (P Q : Flaw → Type 0) (o : Out Flaw B) (ls : List Val) (f : B → Way) → ((f : Flaw) → P f → Q f) → AtFault P o → ((b : B) → WayPoints Q (f b)) → WayPoints Q (with o ls f)
unfolding AtFault WayPoints
with_points P Q (value b) ls f i h k = k b
with_points P Q (fault e) ls f i h k = at_fault e (i e h)

on_points : (P : Flaw → Type 0) (env ls : List Val) → WayPoints P (on env ls)
unfolding WayPoints
on_points P env ls = tt

emitted_points : (P : Flaw → Type 0) (q : ℕ) (env ls : List Val) (z : Val) → WayPoints P (emitted q env ls z)
unfolding WayPoints
emitted_points P q env ls z = go (ltb (length ls) q)
  where
    go : (t : Bool) → WayPoints P (cond t (on env (ls ++ (z ∷ []))) (ended QuotaFull ls))
    go true = tt
    go false = no_fault 4 (λ e. omega arith) (λ e. omega arith)

step_points : (q : ℕ) (x : Stmt) (p : ℕ) (env ls : List Val) → WayPoints (Among p (stmt_bytes x)) (step q x (at_byte p) env ls)
unfolding step stmt_bytes
step_points q (Set x e) p env ls = with_points _ _ _ ls _ (λ n. behind (0x20 ∷ x ∷ []) (expr_bytes e) p (p + 2) n refl) (eval_points e (p + 2) env) (λ z. on_points _ _ ls)
step_points q (Emit e) p env ls = with_points _ _ _ ls _ (λ n. next _ p n (expr_bytes e)) (eval_points e (p + 1) env) (λ z. emitted_points _ q env ls z)

onward_points : (P Q R : Flaw → Type 0) (a : Way) (f : List Val → List Val → Way) → ((f : Flaw) → P f → R f) → ((f : Flaw) → Q f → R f)
    → WayPoints P a → ((env ls : List Val) → WayPoints Q (f env ls)) → WayPoints R (onward a f)
unfolding WayPoints
onward_points P Q R (on env ls) f i j h k = go (f env ls) (k env ls)
  where
    go : (w : Way) → WayPoints Q w → WayPoints R w
    go (on env ls) h = tt
    go (ended how ls) h = tells_more Q R (status_number how) (fault_place how) j h
onward_points P Q R (ended how ls) f i j h k = tells_more P R (status_number how) (fault_place how) i h

steps_points : (q : ℕ) (xs : List Stmt) (p : ℕ) (env ls : List Val) → WayPoints (Among p (in_turn stmt_bytes xs)) (steps q xs (at_byte p) env ls)
unfolding steps in_turn
steps_points q [] p env ls = on_points _ env ls
steps_points q (x ∷ xs) p env ls =
    onward_points _ _ _ _ _ (λ n. before (stmt_bytes x) (in_turn stmt_bytes xs) p n) (λ n. behind (stmt_bytes x) (in_turn stmt_bytes xs) p (p + stmt_size x) n refl)
    (step_points q x p env ls) (λ env ls. steps_points q xs (p + stmt_size x) env ls)

exit_points : (e : End) (p : ℕ) (env : List Val) → AtFault (Among p (end_bytes e)) (exit e (at_byte p) env)
unfolding exit end_bytes
exit_points (Goto t) p env = value_points _ _
exit_points (Jump t) p env = value_points _ _
exit_points Stop p env = value_points _ _
exit_points (If c x y) p env =
    also_points _ _ _ _ (λ n. first _ p n (cond_bytes c) (end_bytes x ++ end_bytes y)) (holds_points c (p + 1) env)
    (λ h. cond_points _ _ _ h _ _ (λ n. middle _ p n (cond_bytes c) (end_bytes x) (end_bytes y)) (λ n. third _ p n (cond_bytes c) (end_bytes x) (end_bytes y))
    (exit_points x (p + (1 + cond_size c)) env) (exit_points y (p + (1 + cond_size c + end_size x)) env))

-- ---- a round

unfoldable RoundPoints : (Flaw → Type 0) → Round → Type 0
RoundPoints P (jumped b env ls) = Unit {0}
RoundPoints P (finished how ls) = Telling P how

leave_points : (P Q : Flaw → Type 0) (o : Out Flaw Exit) (env ls : List Val) (W : ℕ → Round) → ((f : Flaw) → P f → Q f) → AtFault P o → ((t : ℕ) → RoundPoints Q (W t)) → RoundPoints Q (leave o env ls W)
unfolding AtFault RoundPoints
leave_points P Q (value (to_block t)) env ls W i h k = k t
leave_points P Q (value (to_round t)) env ls W i h k = tt
leave_points P Q (value to_stop) env ls W i h k = no_fault 1 (λ e. omega arith) (λ e. omega arith)
leave_points P Q (fault f) env ls W i h k = at_fault f (i f h)

through_points : (P Q R : Flaw → Type 0) (a : Way) (e : End) (w : Where) (W : ℕ → List Val → List Val → Round) → ((f : Flaw) → P f → R f) → ((f : Flaw) → Q f → R f)
    → WayPoints P a → ((env : List Val) → AtFault Q (exit e w env)) → ((t : ℕ) (env ls : List Val) → RoundPoints R (W t env ls)) → RoundPoints R (through a e w W)
unfolding WayPoints RoundPoints
through_points P Q R (on env ls) e w W i j h g k = leave_points Q R _ env ls _ j (g env) (λ t. k t env ls)
through_points P Q R (ended how ls) e w W i j h g k = tells_more P R (status_number how) (fault_place how) i h

-- a block that only stops is the one byte of its ending, and no operator's tag is
none_in_stop : (p : ℕ) (f : Flaw) → Among p (block_bytes (record { body = []; ending = Stop })) f → ⊥
unfolding block_bytes end_bytes in_turn expr_bytes
none_in_stop p f h = no_tag h.front h.operator h.back h.own h.bytes_are
  where
    none : (o : Operator) → operator_byte o ≡ 0x32 → ⊥
    none Add e = omega arith
    none Subtract e = omega arith
    none Multiply e = omega arith
    none Divide e = omega arith
    none Remainder e = omega arith

    no_tag : (front : List ℕ) (e : Expr) (back : List ℕ) → OwnFault h.env f.kind e → (0x32 ∷ []) ≡ front ++ (expr_bytes e ++ back) → ⊥
    no_tag [] e back (negating w x a b) i = omega (arith, ap (λ (l : List ℕ). get_or l 0 0) i)
    no_tag [] e back (operating {o} w w' x y a b c) i = none o (sym (ap (λ (l : List ℕ). get_or l 0 0) i))
    no_tag (z ∷ []) e back (negating w x a b) i = omega (arith, ap length i)
    no_tag (z ∷ []) e back (operating {o} w w' x y a b c) i = omega (arith, ap length i)
    no_tag (z ∷ y ∷ front) e back o i = omega (arith, ap length i)

-- among the bytes of block b is among those of all blocks; a number with no block has no operator
in_blocks : (bs : List Block) (b p m : ℕ) (n : Flaw) → m ≡ p + length (in_turn block_bytes (take b bs)) → Among m (block_bytes (get_or bs b (record { body = []; ending = Stop }))) n → Among p (in_turn block_bytes bs) n
unfolding in_turn
in_blocks [] b p m n e h = absurd (none_in_stop m n h)
in_blocks (x ∷ bs) zero p m n e h = before (block_bytes x) (in_turn block_bytes bs) p n (behind [] (block_bytes x) p m n e h)
in_blocks (x ∷ bs) (suc b) p m n e h =
    behind (block_bytes x) (in_turn block_bytes bs) p (p + length (block_bytes x)) n refl
    (in_blocks bs b (p + length (block_bytes x)) m n (omega (arith, e, length-append (block_bytes x) (in_turn block_bytes (take b bs)))) h)

module _ (r : Rule) where
  in-rule : (b : ℕ) (n : Flaw) → Among (0 + block_place r b) (block_bytes (block_of r b)) n → Among 0 (bytes_of r) n
  unfolding bytes_of
  in-rule b n h = behind (r.form ∷ r.variables ∷ r.arguments ∷ size r ∷ []) (in_turn block_bytes r.blocks) 0 4 n refl (in_blocks r.blocks b 4 (0 + block_place r b) n (omega arith) h)

  walk_points : (f q b : ℕ) (env ls : List Val) → RoundPoints (Among 0 (bytes_of r)) (walk f origin r q b env ls)
  unfolding walk block_bytes RoundPoints
  walk_points zero q b env ls = tt
  walk_points (suc f) q b env ls =
      let x = block_of r b in
      let p = 0 + block_place r b in
      through_points _ _ _ _ x.ending _ _ (λ n h. in-rule b n (before (in_turn stmt_bytes x.body) (end_bytes x.ending) p n h))
      (λ n h. in-rule b n (behind (in_turn stmt_bytes x.body) (end_bytes x.ending) p (p + body_size x) n refl h))
      (steps_points q x.body p env ls) (λ env. exit_points x.ending (p + body_size x) env) (λ t env ls. walk_points f q t env ls)

  -- ---- a row
  joined_points : (P : Flaw → Type 0) (s : State) (R : Round) → RoundPoints P R → Telling P (joined s R).finish
  unfolding RoundPoints
  joined_points P s (jumped b env ls) h = no_fault 0 (λ e. omega arith) (λ e. omega arith)
  joined_points P s (finished how ls) h = h

  advance_points : (q : ℕ) (s : State) → Telling (Among 0 (bytes_of r)) s.finish → Telling (Among 0 (bytes_of r)) (advance r q s).finish
  unfolding advance_from
  advance_points q s h = go (goes_on s.finish)
    where
      go : (t : Bool) → Telling (Among 0 (bytes_of r)) (cond t (joined s (walk (size r) origin r q s.block s.vars s.labels)) s).finish
      go true = joined_points _ s _ (walk_points (size r) q s.block s.vars s.labels)
      go false = h

  pub after_points : (q n : ℕ) (s : State) → Telling (Among 0 (bytes_of r)) s.finish → Telling (Among 0 (bytes_of r)) (after r q n s).finish
  unfolding after_from
  after_points q zero s h = h
  after_points q (suc n) s h = advance_points q (after r q n s) (after_points q n s h)

  -- the theorem: a row of a batch tells the place of the operator at fault, and 0 if none is
  pub run_tells : (q n : ℕ) (args : List Val) → Telling (Among 0 (bytes_of r)) (after r q n (start r args)).finish
  run_tells q n args = after_points q n (start r args) (no_fault 0 (λ e. omega arith) (λ e. omega arith))
