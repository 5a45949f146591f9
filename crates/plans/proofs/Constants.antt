-- The constants of every accepted rule lie in the range, so all values of its rows do, if their arguments do. Assumes nothing.
use Prim.Native.Nat.{ℕ}
use mathlib.Core.Path.{◌≡◌}
use mathlib.Core.Logic.{⊎_elim}
use mathlib.Core.List.Memᴰ
use mathlib.Core.List.{List, [], ◌∷◌, Memᴰ}
use lib.ListN.{take, drop, get_or-eq_default}
use Rattle.definitions.specs.Values.{Val}
use Rattle.definitions.specs.Rule.{Expr, Const, Var, Neg, Op, Case, Stmt, Set, Emit, Rule, size, block_of}
use Rattle.definitions.specs.Grammar.{got, rule_of}
use Rattle.definitions.specs.Limits.{ExprKeeps, StmtKeeps, Every, BlockKeeps}
use Rattle.definitions.specs.Plan.{bodies_at, carried, planned}
use Rattle.definitions.specs.Direct.{start, after}
use Rattle.definitions.proofs.Tests.{less_or}
use Rattle.pages.proofs.Trip.{Bytes, bytes-append, bytes_take, bytes_drop}
use Rattle.rules.proofs.Spelling.{rule-exactly}
use Rattle.readers.proofs.Spelt.{every_at}
use Rattle.columns.specs.Range.{AllInRange, Bounded, worked, Constants, Ranged}
use Rattle.columns.proofs.Ranges.{start_ranged, after_ranged}
use Rattle.plans.proofs.Accepted.{is-plan}

expr_bounded : (v : ℕ) (e : Expr) → ExprKeeps v e → Bounded e
unfolding ExprKeeps Bounded
expr_bounded v (Const z) h = h
expr_bounded v (Var k) h = tt
expr_bounded v (Neg a) h = tt
expr_bounded v (Op o a b) h = tt
expr_bounded v (Case c a b) h = (expr_bounded v a h.1, expr_bounded v b h.2)

stmt_bounded : (v : ℕ) (x : Stmt) → StmtKeeps v x → Bounded (worked x)
unfolding StmtKeeps
stmt_bounded v (Set k a) h = expr_bounded v a h.2
stmt_bounded v (Emit a) h = expr_bounded v a h.1

body_bounded : (v : ℕ) (xs : List Stmt) → Every (StmtKeeps v) xs → (x : Stmt) → Memᴰ x xs → Bounded (worked x)
unfolding Every
body_bounded v [] h x m = absurd (Memᴰ.not-nil m)
body_bounded v (y ∷ ys) h x m = ⊎_elim (λ e. rw e (stmt_bounded v y h.0)) (body_bounded v ys h.1 x) (Memᴰ.cases_cons m)

-- ---- of an accepted rule
module _ (s : List ℕ) (r : Rule) (n : ℕ) (bytes : Bytes s) (e : rule_of s ≡ got r n) where
  constants : Constants r
  constants b = ⊎_elim
      (λ h. body_bounded r.variables (block_of r b).body (every_at (BlockKeeps (size r) r.variables) r.blocks b _ ((rule-exactly s bytes r n).0 e).1.blocks_keep h).body-keeps)
      (λ h. rw (get_or-eq_default r.blocks _ {n = b} h) (λ x m. absurd (Memᴰ.not-nil m)))
      (less_or b (size r))

  pub rule_ranged : (args : List Val) → AllInRange args → (q N : ℕ) → Ranged (after r q N (start r args))
  rule_ranged args h q N = after_ranged r q constants N (start r args) (start_ranged r args h)

-- every variable and every label of every row under an accepted plan
pub plan_ranged : (plan : List ℕ) (r : Rule) (n : ℕ) → Bytes plan → planned plan ≡ got r n → (args : List Val) → AllInRange args → (q N : ℕ) → Ranged (after r q N (start r args))
plan_ranged plan r n bytes e =
    let body : ℕ = bodies_at plan in
    rule_ranged (carried plan) r n (bytes-append (take 4 plan) (drop body plan) (bytes_take 4 plan bytes) (bytes_drop body plan bytes)) ((is-plan plan r n).0 e).rule
