-- K5 in a plan's bytes: the plans of rules with no goto back keep the bytes that they had, and the others list the rule's one order of evaluation right
-- after their entries. Assumes nothing.
use Prim.Native.Nat.{ℕ, zero, suc, ◌+◌, ◌*◌}
use mathlib.Core.Path.{◌≡◌, refl, sym, ap, ap₂, subst, ◌∙◌}
use mathlib.Core.Bool.{true}
use mathlib.Core.List.{List, [], ◌++◌}
use mathlib.Core.Logic.{◌↔◌}
use native.Mathlib.Omega.{arith}
use lib.ListN.{length, take, drop}
use Rattle.definitions.specs.Rule.{Rule, size}
use Rattle.definitions.specs.Grammar.{got, rule_of}
use Rattle.definitions.specs.Columns.{flow_of}
use Rattle.definitions.specs.Paths.{goto_in}
use Rattle.definitions.specs.Order.{Order, order_of, goes_back}
use Rattle.definitions.specs.Plan.{order_bytes, head_size, bodies_from, entry_of, entries_to, plan_by, plan_of, carried, planned}
use Rattle.definitions.specs.Pages.{unpacked}
use Rattle.definitions.specs.Calls.{to_compile, bytes_in, Wrote}
use Rattle.definitions.proofs.Tests.{not_so, must_be}
use Rattle.definitions.proofs.Orders.{order-length, order_is, order-only}
use Rattle.definitions.proofs.Ordered.{order-once, order-ahead, goes_back_lem, none-back}
use Rattle.rules.proofs.Uncycled.{rule_no_cycle}
use Rattle.rules.proofs.Promises.{done-bytes}
use Rattle.plans.specs.Promised.{rule_in_file}
use Rattle.plans.specs.Accepted.{tree_of, rule_in, Accepted}
use Rattle.plans.specs.Ordered.{BackGoto, NoneBack, plain_entry, plain_entries, unordered_plan, order_in, Ordered}
use Rattle.plans.proofs.Fields.{plan-order}
use Rattle.plans.proofs.Carried.{carried-rule, carried-long, carried-bytes, plan-long, at-bodies}
use Rattle.plans.proofs.Promises.{compiled}
use Rattle.std.specs.Prelude.{Ok}

-- ---- whether some goto goes back
pub back-exactly : (r : Rule) → (goes_back (size r) (goto_in r) ≡ true) ↔ BackGoto r
back-exactly r = (
  λ e. let w = goes_back_lem (size r) (goto_in r) e in record { block = w.0; to = w.1; goto = w.2; lower = w.3 },
  λ w. must_be (goes_back (size r) (goto_in r)) (λ e. omega (arith, none-back (size r) (goto_in r) e w.block w.to w.goto, w.lower)),
)

-- where none does there are no order bytes
pub no_order : (r : Rule) → NoneBack r → order_bytes r ≡ []
unfolding order_bytes
no_order r none = rw (not_so (goes_back (size r) (goto_in r)) (λ e. none ((back-exactly r).0 e)))

-- .. else there is one for each block
pub has-order : (r : Rule) → BackGoto r → order_bytes r ≡ order_of (size r) (goto_in r)
unfolding order_bytes
has-order r w = rw ((back-exactly r).1 w)

-- ---- other plans keep their bytes
module _ (r : Rule) (s : List ℕ) (none : NoneBack r) where
  entry-plain : (b : ℕ) → entry_of (flow_of r) r s b ≡ plain_entry r s b
  unfolding entry_of plain_entry
  entry-plain b =
      let none-listed : length (order_bytes r) ≡ 0 = ap length (no_order r none) in
      let from : bodies_from r ≡ 6 + 8 * size r = omega arith in
      rw from

  entries_plain : (k : ℕ) → entries_to (flow_of r) r s k ≡ plain_entries r s k
  unfolding entries_to plain_entries
  entries_plain zero = refl
  entries_plain (suc k) = ap₂ (λ (x y : List ℕ). x ++ y) (entries_plain k) (entry-plain k)

  pub plan-plain : plan_of r s ≡ unordered_plan r s
  unfolding plan_by unordered_plan
  plan-plain = rw (entries_plain (size r), no_order r none)

-- .. and so what `compile` writes of a file whose rule has no goto back
pub compiled-plain : (file old : List ℕ) (n : ℕ) (new : List ℕ) → Wrote (to_compile file) old (Ok n) new
    → (s : List ℕ) (m : ℕ) → unpacked file ≡ got s m → (r : Rule) (k : ℕ) → rule_of s ≡ got r k → NoneBack r → take n new ≡ unordered_plan r s
unfolding to_compile bytes_in
compiled-plain file old n new w s m f r k e none = done-bytes (to_compile file) old n new w ∙ rw (f, e) (plan-plain r s none)

-- ---- the order in a plan's bytes
listed_here : (p : List ℕ) (a : Accepted p) → BackGoto (rule_in p) → Ordered p (rule_in p)
listed_here p a w =
    let r = rule_in p in
    let n = size r in
    let listed : order_bytes r ≡ order_of n (goto_in r) = has-order r w in
    let long : length (order_bytes r) ≡ n = ap length listed ∙ order-length n (goto_in r) n in
    let past : head_size n 0 ≡ 6 + 8 * n = omega arith in
    let bytes : order_in p n ≡ order_of n (goto_in r) =
    ap (λ (x : List ℕ). take n (drop (head_size n 0) x)) (sym (carried-bytes p a))
    ∙ ap₂ (λ (k m : ℕ). take k (drop m (plan_of r (carried p)))) (sym long) past
    ∙ plan-order (flow_of r) r (carried p) (carried-long p a) ∙ listed in
    let is : Order n (goto_in r) (order_in p n) = rw bytes (order_is n (goto_in r) (rule_no_cycle (carried p) r a.next (carried-rule p a))) in
    record {
      order = is;
      only = λ l o. order-only n (goto_in r) l (order_in p n) o is;
      once = order-once n (goto_in r) (order_in p n) is;
      ahead = order-ahead n (goto_in r) (order_in p n) is;
      bodies = at-bodies p a ∙ omega (arith, long);
      long = omega (arith, plan-long p a, long);
    }

pub plan-ordered : (plan : List ℕ) (r : Rule) (n : ℕ) → planned plan ≡ got r n → BackGoto r → Ordered plan r
unfolding tree_of
plan-ordered plan r n e =
    let same : rule_in plan ≡ r = ap tree_of e in
    let a : Accepted plan = record { next = n; is = e ∙ ap (λ (x : Rule). got x n) (sym same) } in
    subst (λ (x : Rule). BackGoto x → Ordered plan x) same (listed_here plan a)

-- .. and so in what `compile` writes
pub compiled-ordered : (file old : List ℕ) (n : ℕ) (new : List ℕ) → Wrote (to_compile file) old (Ok n) new → (r : Rule) (m : ℕ) → rule_in_file file ≡ got r m
    → BackGoto r → Ordered (take n new) r
compiled-ordered file old n new w r m e =
    let p = compiled file old n new w in
    let was : got p.rule p.end ≡ got r m = sym p.is ∙ e in
    plan-ordered (take n new) r m (p.accepted ∙ was)
