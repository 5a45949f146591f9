-- `closure::columns` meets its contract. After k variables the masks are the sums over those below k, for every flow that the tables tell of.
use Prim.Native.Nat.{ℕ, ◌<◌}
use mathlib.Core.Path.{◌≡◌, ◌∙◌}
use mathlib.Core.Bool.{◌&&◌, ◌||◌}
use lib.Dec.{eqb}
use lib.ListN.{get_or-replicate}
use native.Mathlib.Omega.{arith}
use borrow.Author.Rules.{rules}
use borrow.Author.Tests.{tests}
use Rattle.definitions.specs.Columns.{some, among, inputs_of, outputs_of}
use Rattle.closure.specs.Tables.{edge_in}
use Rattle.closure.proofs.Bits.{mask-none, mask-more, mask-room}
use Rattle.closure.proofs.Tables.{tables-own, is-joined, is-input, is-output}
use Rattle.closure.proofs.columns.Goals as goal

pub loop-k-init : goal.loop-k-init
loop-k-init c = λ g t. record {
  input = λ b l. get_or-replicate 64 b 0 0 (omega arith) ∙ mask-none _;
  output = λ b l. get_or-replicate 64 b 0 0 (omega arith) ∙ mask-none _;
  joins = is-joined g c.edges_where-names.result c.blocks_where-j.result t
      (λ b d h i. let p = c.edges_where-names.ensures b d h (omega arith) in search (rules, tests))
      (λ d i. let p = c.blocks_where-j.ensures d i in search (rules, tests));
}

pub mark-requires : goal.mark-requires
mark-requires c =
    (search rules, λ b l. mask-room c.loop-k.k _ _ (omega arith) ((c.loop-k.invariant _ (tables-own _ _ _ _ _ _)).input b l))

pub mark-requires-in-loop-k : goal.mark-requires-in-loop-k
mark-requires-in-loop-k c =
    (search rules, λ b l. mask-room c.loop-k.k _ _ (omega arith) ((c.loop-k.invariant _ (tables-own _ _ _ _ _ _)).output b l))

pub loop-k-preserved : goal.loop-k-preserved
loop-k-preserved c = λ g t.
    let n = c.args.n in
    let names = c.edges_where-names.result in
    let j = c.blocks_where-j.result in
    let need = c.needing-need.result in
    let naming : (b d : ℕ) → b < n → d < n → edge_in names b d ≡ (edge_in c.args.gotos.now b d || edge_in c.args.jumps.now b d) =
    λ b d h i. let p = c.edges_where-names.ensures b d h (omega arith) in search (rules, tests) in
    let restarting : (d : ℕ) → d < n → among j d ≡ (eqb d 0 || some n (λ b. edge_in c.args.jumps.now b d)) =
    λ d i. let p = c.blocks_where-j.ensures d i in search (rules, tests) in
    let handing : (b : ℕ) → b < n → among c.blocks_where-out.result b ≡ some n (λ d. edge_in names b d && among need d) =
    λ b h. let p = c.blocks_where-out.ensures b h in search (rules, tests) in
    record {
      input = λ b l. mask-more c.loop-k.k (inputs_of g b) _ _ _ (omega arith) ((c.loop-k.invariant g t).input b l)
          (is-input g names j t naming restarting c.loop-k.k (omega arith) _ c.needing-need.ensures b l) (c.mark.ensures b l);
      output = λ b l. mask-more c.loop-k.k (outputs_of g b) _ _ _ (omega arith) ((c.loop-k.invariant g t).output b l)
          (handing b l ∙ is-output g names j t naming restarting c.loop-k.k (omega arith) _ c.needing-need.ensures b l) (c.mark-in-loop-k.ensures b l);
      joins = (c.loop-k.invariant g t).joins;
    }

pub returns : goal.returns
returns c = λ g t.
    let e : c.loop-k.k ≡ c.args.v = omega arith in
    rw e at (c.loop-k.invariant g t)
