-- Every rule that is accepted is one that the run on the plan's columns may rest on. Assumes nothing.
use Prim.Native.Nat.{ℕ, ◌-◌, ◌≤◌, ◌<◌}
use mathlib.Core.Path.{◌≡◌}
use mathlib.Core.Bool.{true}
use native.Mathlib.Omega.{arith}
use mathlib.Core.List.{List}
use Rattle.definitions.specs.Values.{Val}
use Rattle.definitions.specs.Rule.{Rule, size, block_of}
use Rattle.definitions.specs.Grammar.{got, rule_of}
use Rattle.definitions.specs.Meaning.{Where}
use Rattle.definitions.specs.Direct.{walk}
use Rattle.definitions.specs.Columns.{goes_to}
use Rattle.definitions.specs.Paths.{goto_in}
use Rattle.definitions.specs.Order.{order_of}
use Rattle.definitions.proofs.Orders.{order_is}
use Rattle.definitions.proofs.Ordered.{place_in, order-rank}
use Rattle.readers.proofs.Accepted.{rule-in, gotos-exist, jumps-exist, reads-exist, sets-exist}
use Rattle.rules.proofs.Uncycled.{rule-parsed, rule_no_cycle}
use Rattle.columns.specs.Proper.{Ranked, Proper}
use Rattle.columns.proofs.Walks.{walk-enough}

-- a number for each block that rises along gotos, counted down from the last, is a rank
falling : (r : Rule) (rise : ℕ → ℕ) → ((b : ℕ) → b < size r → rise b < size r)
    → ((b t : ℕ) → b < size r → goes_to (block_of r b).ending t ≡ true → (rise b < rise t) × (t < size r)) → Ranked r (λ b. size r - 1 - rise b)
falling r rise below rises = record {
  below = λ b h. omega arith;
  falls = λ b t h p. let m = rises b t h p in omega (arith, below t m.1);
}

pub proper : (s : List ℕ) (r : Rule) (n : ℕ) → rule_of s ≡ got r n → Proper r
proper s r n e =
    let read = rule-parsed s r n e in
    let i = rule-in s r n read in
    let order = order_of (size r) (goto_in r) in
    let place = order-rank (size r) (goto_in r) order (order_is (size r) (goto_in r) (rule_no_cycle s r n e)) in
    record {
      entry = i.blocks_from;
      few = i.variables-to;
      given = i.arguments-to;
      read_below = λ b k _ h. reads-exist s r n read b k h;
      set_below = λ b k _ h. sets-exist s r n read b k h;
      goto-below = λ b t _ h. gotos-exist s r n read b t h;
      jump_below = λ b t _ h. jumps-exist s r n read b t h;
      rank = λ b. size r - 1 - place_in order (size r) b;
      -- a block's place in the order of evaluation rises along gotos
      ranked = falling r (place_in order (size r)) place.below (λ b t h p. let l = gotos-exist s r n read b t p in (place.rises b t (record { from = h; to = l; goto = p }), l));
    }

-- a round enters no more blocks than there are: with any larger bound it is the same round
pub blocks-enough : (s : List ℕ) (r : Rule) (n : ℕ) → rule_of s ≡ got r n → (f g : ℕ) → size r ≤ f → size r ≤ g → (w : Where) (q b : ℕ) (env ls : List Val) → b < size r → walk f w r q b env ls ≡ walk g w r q b env ls
blocks-enough s r n e f g hf hg w q b env ls l =
    let ok = proper s r n e in
    walk-enough r ok f g w q b env ls l (omega (arith, ok.ranked.below b l)) (omega (arith, ok.ranked.below b l))
