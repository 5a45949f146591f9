-- What each statement keeps, a round keeps: E says it of the variables, L of the labels. Assumes nothing.
use Prim.Native.Nat.{ℕ, zero, suc, ◌≤◌, ◌<◌}
use mathlib.Core.Path.{◌≡◌, refl}
use mathlib.Core.Bool.{Bool, true, false, cond}
use mathlib.Core.List.{List, [], ◌∷◌, ◌++◌, Memᴰ}
use native.Mathlib.Omega.{arith}
use lib.Dec.{ltb}
use lib.ListN.{length, set}
use borrow.Author.Tests.{ltb-true}
use Rattle.definitions.specs.Values.{Val, Out, value, fault, kind_number}
use Rattle.definitions.specs.declared.Flaw.{Flaw}
use Rattle.definitions.specs.declared.Finish.{Finish}
use Rattle.definitions.specs.declared.Kind.{Kind}
use Rattle.definitions.specs.declared.Kind.TheVariants.{ZeroDivisor, OutOfRange}
use Rattle.definitions.specs.Rule.{Expr, Stmt, Set, Emit, End, Rule, block_of}
use Rattle.definitions.specs.Spelling.{stmt_size}
use Rattle.definitions.specs.Meaning.{Where, further, eval}
use Rattle.definitions.specs.Direct.{status_number, Way, on, ended, onward, with, emitted, step, steps, Exit, to_block, to_round, to_stop, exit, Round, jumped, finished, leave, through, body_at, ending_at, walk}
use Rattle.definitions.specs.declared.Finish.TheVariants.{Faulted, QuotaFull}

-- how a row ends that has ended
abbrev pub Ends : Finish → Type 0
Ends how = (0 < status_number how) × (status_number how ≤ 4)

abbrev pub KeptWay : (E L : List Val → Type 0) → Way → Type 0
KeptWay E L (on env ls) = E env × L ls
KeptWay E L (ended how ls) = Ends how × L ls

abbrev pub KeptRound : (E L : List Val → Type 0) → Round → Type 0
KeptRound E L (jumped t env ls) = E env × L ls
KeptRound E L (finished how ls) = Ends how × L ls

fault-ends : (f : Flaw) → Ends (Faulted f)
fault-ends f = go f.kind
  where
    go : (k : Kind) → (0 < kind_number k) × (kind_number k ≤ 4)
    go ZeroDivisor = omega arith
    go OutOfRange = omega arith

module _ (q : ℕ) (Ok : Stmt → Type 0) (E L : List Val → Type 0)
    (sets : (i : ℕ) (a : Expr) (w : Where) (env : List Val) (z : Val) → Ok (Set i a) → E env → eval a w env ≡ value z → E (set env i z))
    (emits : (a : Expr) (w : Where) (env ls : List Val) (z : Val) → Ok (Emit a) → E env → L ls → eval a w env ≡ value z → length ls < q → L (ls ++ (z ∷ []))) where
  with-kept : (o : Out Flaw Val) (ls : List Val) (f : Val → Way) → L ls → ((z : Val) → o ≡ value z → KeptWay E L (f z)) → KeptWay E L (with o ls f)
  with-kept (value z) ls f l h = h z refl
  with-kept (fault k) ls f l h = (fault-ends k, l)

  emitted-kept : (env ls : List Val) (z : Val) → E env → L ls → (length ls < q → L (ls ++ (z ∷ []))) → KeptWay E L (emitted q env ls z)
  emitted-kept env ls z e l h = go (ltb (length ls) q) refl
    where
      go : (t : Bool) → ltb (length ls) q ≡ t → KeptWay E L (cond t (on env (ls ++ (z ∷ []))) (ended QuotaFull ls))
      go true p = (e, h (ltb-true (length ls) q p))
      go false p = (omega arith, l)

  step_kept : (s : Stmt) (w : Where) (env ls : List Val) → Ok s → E env → L ls → KeptWay E L (step q s w env ls)
  unfolding step
  step_kept (Set i a) w env ls o e l = with-kept (eval a (further w 2) env) ls _ l (λ z p. (sets i a (further w 2) env z o e p, l))
  step_kept (Emit a) w env ls o e l = with-kept (eval a (further w 1) env) ls _ l (λ z p. emitted-kept env ls z e l (λ h. emits a (further w 1) env ls z o e l p h))

  onward-kept : (w : Way) (f : List Val → List Val → Way) → KeptWay E L w → ((env ls : List Val) → E env → L ls → KeptWay E L (f env ls)) → KeptWay E L (onward w f)
  onward-kept (on env ls) f k h = h env ls k.0 k.1
  onward-kept (ended how ls) f k h = k

  pub steps-kept : (xs : List Stmt) (w : Where) (env ls : List Val) → ((s : Stmt) → Memᴰ s xs → Ok s) → E env → L ls → KeptWay E L (steps q xs w env ls)
  unfolding steps
  steps-kept [] w env ls o e l = (e, l)
  steps-kept (s ∷ xs) w env ls o e l = onward-kept (step q s w env ls) _ (step_kept s w env ls (o s (Memᴰ.head refl)) e l) (λ env ls e l. steps-kept xs (further w (stmt_size s)) env ls (λ s m. o s (Memᴰ.tail m)) e l)

  pub leave-kept : (o : Out Flaw Exit) (env ls : List Val) (W : ℕ → Round) → E env → L ls → ((t : ℕ) → KeptRound E L (W t)) → KeptRound E L (leave o env ls W)
  leave-kept (value (to_block t)) env ls W e l h = h t
  leave-kept (value (to_round t)) env ls W e l h = (e, l)
  leave-kept (value to_stop) env ls W e l h = (omega arith, l)
  leave-kept (fault k) env ls W e l h = (fault-ends k, l)

  through-kept : (x : Way) (d : End) (w : Where) (W : ℕ → List Val → List Val → Round) → KeptWay E L x → ((t : ℕ) (env ls : List Val) → E env → L ls → KeptRound E L (W t env ls)) → KeptRound E L (through x d w W)
  through-kept (on env ls) d w W k h = leave-kept (exit d w env) env ls _ k.0 k.1 (λ t. h t env ls k.0 k.1)
  through-kept (ended how ls) d w W k h = k

  pub walk_kept : (r : Rule) → ((b : ℕ) (s : Stmt) → Memᴰ s (block_of r b).body → Ok s) → (f : ℕ) (w : Where) (b : ℕ) (env ls : List Val) → E env → L ls → KeptRound E L (walk f w r q b env ls)
  unfolding walk
  walk_kept r o zero w b env ls e l = (e, l)
  walk_kept r o (suc f) w b env ls e l = through-kept (steps q (block_of r b).body (body_at w r b) env ls) (block_of r b).ending (ending_at w r b) _ (steps-kept (block_of r b).body (body_at w r b) env ls (o b) e l) (λ t env ls e l. walk_kept r o f w t env ls e l)
