-- Where things stand decides nothing but the place that a fault tells: a run nowhere is the run anywhere, its places forgotten. Assumes nothing.
use Prim.Native.Nat.{ℕ, zero, suc, ◌+◌, max}
use mathlib.Core.Path.{◌≡◌, refl, ap, ◌∙◌, sym}
use mathlib.Core.Bool.{Bool, true, false, cond}
use mathlib.Core.List.{List, [], ◌∷◌, ◌++◌, map}
use lib.IntN.{ℤ, pos}
use lib.Dec.{ltb}
use lib.ListN.{length, set, length-map}
use Rattle.definitions.specs.Values.{Word, Val, number, Out, value, fault, also, negation, words_of}
use Rattle.definitions.specs.declared.Operator.{Operator}
use Rattle.definitions.specs.Rule.{Expr, Cond, Const, Var, Neg, Op, Case, Compare, Not, Join, Stmt, Set, Emit, End, Goto, Jump, Stop, If, Rule, size, block_of}
use Rattle.definitions.specs.Spelling.{expr_size, cond_size, stmt_size, end_size}
use Rattle.definitions.specs.Meaning.{Where, nowhere, further, applied, decided, handed_up, negated, operated, eval, holds}
use Rattle.definitions.specs.Direct.{Way, on, ended, onward, with, emitted, step, steps, Exit, to_block, to_round, to_stop, exit, Round, jumped, finished, leave, through, body_at, ending_at, walk}
use Rattle.definitions.specs.Direct.{State, goes_on, joined, advance_from, after_from, placeless, unplaced}
use Rattle.definitions.specs.Batch.{record_words, record_of, line_of, lines_from, live_of, table_of, most_of}
use Rattle.definitions.specs.declared.Kind.{Kind}
use Rattle.definitions.specs.declared.Flaw.{Flaw}
use Rattle.definitions.specs.declared.Finish.{Finish}
use Rattle.definitions.specs.declared.Finish.TheVariants.{Unfinished, Stopped, Faulted, QuotaFull}

-- ---- what is worked out, a way and a round, their places forgotten

unfoldable pub out_unplaced : {B : Type 0} → Out Flaw B → Out Flaw B
out_unplaced (value b) = value b
out_unplaced (fault f) = fault (record { kind = f.kind; place = 0 })

unfoldable pub way_unplaced : Way → Way
way_unplaced (on env ls) = on env ls
way_unplaced (ended how ls) = ended (placeless how) ls

unfoldable pub round_unplaced : Round → Round
round_unplaced (jumped b env ls) = jumped b env ls
round_unplaced (finished how ls) = finished (placeless how) ls

-- what tells no place stays
value-unplaced : {B : Type 0} (b : B) → out_unplaced (value b) ≡ value b
unfolding out_unplaced
value-unplaced b = refl

on-unplaced : (env ls : List Val) → way_unplaced (on env ls) ≡ on env ls
unfolding way_unplaced
on-unplaced env ls = refl

jumped-unplaced : (b : ℕ) (env ls : List Val) → round_unplaced (jumped b env ls) ≡ jumped b env ls
unfolding round_unplaced
jumped-unplaced b env ls = refl

-- ---- expressions and conditions

also-unplaced : {B C : Type 0} (o o' : Out Flaw B) (f g : B → Out Flaw C) → out_unplaced o ≡ o' → ((b : B) → out_unplaced (f b) ≡ g b) → out_unplaced (also o f) ≡ also o' g
unfolding out_unplaced
also-unplaced (value b) o' f g e h = h b ∙ ap (λ (o : Out Flaw _). also o g) e
also-unplaced (fault k) o' f g e h = ap (λ (o : Out Flaw _). also o g) e

cond-unplaced : {B : Type 0} (h : Bool) (a b a' b' : Out Flaw B) → out_unplaced a ≡ a' → out_unplaced b ≡ b' → out_unplaced (cond h a b) ≡ cond h a' b'
cond-unplaced true a b a' b' p q = p
cond-unplaced false a b a' b' p q = q

handed-unplaced : (w : Where) (o : Out Kind ℤ) → out_unplaced (handed_up w o) ≡ handed_up nowhere o
unfolding out_unplaced
handed-unplaced w (value z) = refl
handed-unplaced w (fault k) = refl

negated-unplaced : (w : Where) (x : Val) → out_unplaced (negated w x) ≡ negated nowhere x
negated-unplaced w (number x) = handed-unplaced w (negation x)

operated-unplaced : (w : Where) (o : Operator) (x y : Val) → out_unplaced (operated w o x y) ≡ operated nowhere o x y
operated-unplaced w o (number x) (number y) = handed-unplaced w (applied o x y)

mutual
  unfolding eval

  pub eval-unplaced : (e : Expr) (w : Where) (env : List Val) → out_unplaced (eval e w env) ≡ eval e nowhere env
  eval-unplaced (Const z) w env = value-unplaced _
  eval-unplaced (Var k) w env = value-unplaced _
  eval-unplaced (Neg a) w env = also-unplaced _ _ _ _ (eval-unplaced a (further w 1) env) (λ x. negated-unplaced w x)
  eval-unplaced (Op o a b) w env =
      also-unplaced _ _ _ _ (eval-unplaced a (further w 1) env) (λ x. also-unplaced _ _ _ _ (eval-unplaced b (further w (1 + expr_size a)) env) (λ y. operated-unplaced w o x y))
  eval-unplaced (Case c a b) w env =
      also-unplaced _ _ _ _ (holds-unplaced c (further w 1) env)
      (λ h. cond-unplaced h _ _ _ _ (eval-unplaced a (further w (1 + cond_size c)) env) (eval-unplaced b (further w (1 + cond_size c + expr_size a)) env))

  pub holds-unplaced : (c : Cond) (w : Where) (env : List Val) → out_unplaced (holds c w env) ≡ holds c nowhere env
  holds-unplaced (Compare r a b) w env =
      also-unplaced _ _ _ _ (eval-unplaced a (further w 1) env) (λ x. also-unplaced _ _ _ _ (eval-unplaced b (further w (1 + expr_size a)) env) (λ y. value-unplaced _))
  holds-unplaced (Not c) w env = also-unplaced _ _ _ _ (holds-unplaced c (further w 1) env) (λ h. value-unplaced _)
  holds-unplaced (Join j c d) w env =
      also-unplaced _ _ _ _ (holds-unplaced c (further w 1) env) (λ h. cond-unplaced (decided j h) _ _ _ _ (value-unplaced h) (holds-unplaced d (further w (1 + cond_size c)) env))

-- ---- statements and endings

with-unplaced : {B : Type 0} (o o' : Out Flaw B) (ls : List Val) (f : B → Way) → out_unplaced o ≡ o' → ((b : B) → way_unplaced (f b) ≡ f b) → way_unplaced (with o ls f) ≡ with o' ls f
unfolding out_unplaced way_unplaced
with-unplaced (value b) o' ls f e h = h b ∙ ap (λ (o : Out Flaw _). with o ls f) e
with-unplaced (fault k) o' ls f e h = ap (λ (o : Out Flaw _). with o ls f) e

emitted-unplaced : (q : ℕ) (env ls : List Val) (z : Val) → way_unplaced (emitted q env ls z) ≡ emitted q env ls z
unfolding way_unplaced
emitted-unplaced q env ls z = go (ltb (length ls) q)
  where
    go : (t : Bool) → way_unplaced (cond t (on env (ls ++ (z ∷ []))) (ended QuotaFull ls)) ≡ cond t (on env (ls ++ (z ∷ []))) (ended QuotaFull ls)
    go true = refl
    go false = refl

pub step-unplaced : (q : ℕ) (x : Stmt) (w : Where) (env ls : List Val) → way_unplaced (step q x w env ls) ≡ step q x nowhere env ls
unfolding step
step-unplaced q (Set x e) w env ls = with-unplaced _ _ ls _ (eval-unplaced e (further w 2) env) (λ z. on-unplaced _ ls)
step-unplaced q (Emit e) w env ls = with-unplaced _ _ ls _ (eval-unplaced e (further w 1) env) (λ z. emitted-unplaced q env ls z)

onward-unplaced : (a b : Way) (f g : List Val → List Val → Way) → way_unplaced a ≡ b → ((env ls : List Val) → way_unplaced (f env ls) ≡ g env ls) → way_unplaced (onward a f) ≡ onward b g
unfolding way_unplaced
onward-unplaced (on env ls) b f g e h = h env ls ∙ ap (λ (x : Way). onward x g) e
onward-unplaced (ended how ls) b f g e h = ap (λ (x : Way). onward x g) e

pub steps-unplaced : (q : ℕ) (xs : List Stmt) (w : Where) (env ls : List Val) → way_unplaced (steps q xs w env ls) ≡ steps q xs nowhere env ls
unfolding steps
steps-unplaced q [] w env ls = on-unplaced env ls
steps-unplaced q (x ∷ xs) w env ls = onward-unplaced _ _ _ _ (step-unplaced q x w env ls) (λ env ls. steps-unplaced q xs (further w (stmt_size x)) env ls)

pub exit-unplaced : (e : End) (w : Where) (env : List Val) → out_unplaced (exit e w env) ≡ exit e nowhere env
unfolding exit
exit-unplaced (Goto t) w env = value-unplaced _
exit-unplaced (Jump t) w env = value-unplaced _
exit-unplaced Stop w env = value-unplaced _
exit-unplaced (If c x y) w env =
    also-unplaced _ _ _ _ (holds-unplaced c (further w 1) env)
    (λ h. cond-unplaced h _ _ _ _ (exit-unplaced x (further w (1 + cond_size c)) env) (exit-unplaced y (further w (1 + cond_size c + end_size x)) env))

-- ---- a round

leave-unplaced : (o o' : Out Flaw Exit) (env ls : List Val) (W U : ℕ → Round) → out_unplaced o ≡ o' → ((t : ℕ) → round_unplaced (W t) ≡ U t) → round_unplaced (leave o env ls W) ≡ leave o' env ls U
unfolding out_unplaced round_unplaced
leave-unplaced (value (to_block t)) o' env ls W U e h = h t ∙ ap (λ (o : Out Flaw Exit). leave o env ls U) e
leave-unplaced (value (to_round t)) o' env ls W U e h = ap (λ (o : Out Flaw Exit). leave o env ls U) e
leave-unplaced (value to_stop) o' env ls W U e h = ap (λ (o : Out Flaw Exit). leave o env ls U) e
leave-unplaced (fault k) o' env ls W U e h = ap (λ (o : Out Flaw Exit). leave o env ls U) e

through-unplaced : (a b : Way) (e : End) (w : Where) (W U : ℕ → List Val → List Val → Round) → way_unplaced a ≡ b → ((t : ℕ) (env ls : List Val) → round_unplaced (W t env ls) ≡ U t env ls)
    → round_unplaced (through a e w W) ≡ through b e nowhere U
unfolding way_unplaced round_unplaced
through-unplaced (on env ls) b e w W U p h = leave-unplaced _ _ env ls _ _ (exit-unplaced e w env) (λ t. h t env ls) ∙ ap (λ (x : Way). through x e nowhere U) p
through-unplaced (ended how ls) b e w W U p h = ap (λ (x : Way). through x e nowhere U) p

pub walk-unplaced : (f : ℕ) (w : Where) (r : Rule) (q b : ℕ) (env ls : List Val) → round_unplaced (walk f w r q b env ls) ≡ walk f nowhere r q b env ls
unfolding walk
walk-unplaced zero w r q b env ls = jumped-unplaced b env ls
walk-unplaced (suc f) w r q b env ls =
    through-unplaced _ _ (block_of r b).ending (ending_at w r b) _ _ (steps-unplaced q (block_of r b).body (body_at w r b) env ls) (λ t env ls. walk-unplaced f w r q t env ls)

-- ---- a row

joined-unplaced : (s : State) (R : Round) → unplaced (joined s R) ≡ joined (unplaced s) (round_unplaced R)
unfolding round_unplaced
joined-unplaced s (jumped b env ls) = refl
joined-unplaced s (finished how ls) = refl

going-placeless : (how : Finish) → goes_on (placeless how) ≡ goes_on how
going-placeless Unfinished = refl
going-placeless Stopped = refl
going-placeless (Faulted f) = refl
going-placeless QuotaFull = refl

pub advance-unplaced : (w : Where) (r : Rule) (q : ℕ) (s : State) → unplaced (advance_from w r q s) ≡ advance_from nowhere r q (unplaced s)
unfolding advance_from
advance-unplaced w r q s = rw (going-placeless s.finish) (go (goes_on s.finish))
  where
    go : (t : Bool) → unplaced (cond t (joined s (walk (size r) w r q s.block s.vars s.labels)) s)
        ≡ cond t (joined (unplaced s) (walk (size r) nowhere r q s.block s.vars s.labels)) (unplaced s)
    go true = joined-unplaced s (walk (size r) w r q s.block s.vars s.labels) ∙ ap (joined (unplaced s)) (walk-unplaced (size r) w r q s.block s.vars s.labels)
    go false = refl

pub after-unplaced : (w : Where) (r : Rule) (q n : ℕ) (s : State) → unplaced (after_from w r q n s) ≡ after_from nowhere r q n (unplaced s)
unfolding after_from
after-unplaced w r q zero s = refl
after-unplaced w r q (suc n) s = advance-unplaced w r q (after_from w r q n s) ∙ ap (advance_from nowhere r q) (after-unplaced w r q n s)

-- ---- what a caller sees of it: a record keeps all but its fourth word, and lines, rounds and who is unfinished stay

pub record_unplaced : (q : ℕ) (s : State) → record_of q (unplaced s) ≡ set (record_of q s) 3 (pos 0)
record_unplaced q s = go s.finish
  where
    go : (how : Finish) → record_words q (placeless how) s.begun (length s.labels) (words_of s.labels) ≡ set (record_words q how s.begun (length s.labels) (words_of s.labels)) 3 (pos 0)
    go Unfinished = refl
    go Stopped = refl
    go (Faulted f) = refl
    go QuotaFull = refl

-- rows that are the same but for the places of their faults
pub record_same : (q : ℕ) (s s' : State) → unplaced s ≡ unplaced s' → set (record_of q s) 3 (pos 0) ≡ set (record_of q s') 3 (pos 0)
record_same q s s' e = sym (record_unplaced q s) ∙ ap (record_of q) e ∙ record_unplaced q s'

pub lines-unplaced : (v : ℕ) (lc : ℕ → Bool) (k : ℕ) (ss : List State) → lines_from v lc k (map unplaced ss) ≡ lines_from v lc k ss
unfolding lines_from
lines-unplaced v lc k [] = refl
lines-unplaced v lc k (s ∷ ss) = rw (going-placeless s.finish) (ap (λ (l : List Word). cond (goes_on s.finish) (line_of v lc k s) [] ++ l) (lines-unplaced v lc (k + 1) ss))

pub live-unplaced : (ss : List State) → live_of (map unplaced ss) ≡ live_of ss
unfolding live_of
live-unplaced [] = refl
live-unplaced (s ∷ ss) = rw (going-placeless s.finish) (ap (λ (n : ℕ). cond (goes_on s.finish) 1 0 + n) (live-unplaced ss))

pub table-unplaced : (v : ℕ) (lc : ℕ → Bool) (ss : List State) → table_of v lc (map unplaced ss) ≡ table_of v lc ss
table-unplaced v lc ss = rw (lines-unplaced v lc 0 ss, live-unplaced ss, length-map ss unplaced)

pub most-unplaced : (ss : List State) → most_of (map unplaced ss) ≡ most_of ss
unfolding most_of
most-unplaced [] = refl
most-unplaced (s ∷ ss) = ap (max s.begun) (most-unplaced ss)
