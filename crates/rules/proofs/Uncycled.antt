-- A rule is what is read to its end and has no cycle among its gotos. Assumes nothing.
use Prim.Native.Nat.{ℕ, ◌≤◌, ◌<◌}
use mathlib.Core.Path.{◌≡◌, refl, sym, ◌∙◌}
use mathlib.Core.Bool.{Bool, true, false, cond}
use mathlib.Core.List.{List}
use native.Mathlib.Omega.{arith}
use lib.Dec.{ltb}
use lib.ListN.{length, get_or}
use borrow.Author.Tests.{ltb-false, lt-ltb, le-ltb}
use Rattle.definitions.specs.Rule.{Rule, size}
use Rattle.definitions.specs.Grammar.{Got, got, refused, then, read_of, parsed, uncycled, rule_of, longest}
use Rattle.definitions.specs.Paths.{goto_in, Step, GotoPath, one, more, NoCycle, LowestOnCycle}
use Rattle.definitions.specs.Cycles.{cycle_of}
use Rattle.definitions.specs.declared.Refusal.{Refusal}
use Rattle.readers.proofs.Accepted.{rule-in}
use Rattle.readers.proofs.Places.{rule-header}
use Rattle.flows.specs.Flow.{Ruled}
use Rattle.closure.specs.Tables.{edge_in}
use Rattle.rules.proofs.FileLaws.{read-got, read-refused}
use Rattle.definitions.proofs.Cycled.{cycle-none, cycle-lowest, cycle-free}
use Rattle.definitions.proofs.Ordered.{Rises, rises_no_cycle}
use Rattle.std.specs.Prelude.{Ok, Err}
use Rattle.definitions.specs.declared.Reason.TheVariants.{GotoCycle}
use Rattle.definitions.specs.Refusals.{Reply, refusal}
use Rattle.definitions.specs.declared.Reason.{Reason}

-- ---- the gotos of two tables that agree on the blocks
module _ (n : ℕ) (edge edge' : ℕ → ℕ → Bool) (same : (b t : ℕ) → b < n → t < n → edge b t ≡ edge' b t) where
  path_as : {b t : ℕ} → GotoPath n edge b t → GotoPath n edge' b t
  path_as (one s) = one (step s)
    where
      step : {b t : ℕ} → Step n edge b t → Step n edge' b t
      step {b} {t} s = record { from = s.from; to = s.to; goto = sym (same b t s.from s.to) ∙ s.goto }
  path_as (more {b} {c} s p) = more (record { from = s.from; to = s.to; goto = sym (same b c s.from s.to) ∙ s.goto }) (path_as p)

module _ (n : ℕ) (edge edge' : ℕ → ℕ → Bool) (same : (b t : ℕ) → b < n → t < n → edge b t ≡ edge' b t) where
  back : (b t : ℕ) → b < n → t < n → edge' b t ≡ edge b t
  back b t h l = sym (same b t h l)

  pub none_as : NoCycle n edge → NoCycle n edge'
  none_as h b p = h b (path_as n edge' edge back p)

  pub lowest_as : (b : ℕ) → LowestOnCycle n edge b → LowestOnCycle n edge' b
  lowest_as b l = record { here = path_as n edge edge' same l.here; lowest = λ c h p. l.lowest c h (path_as n edge' edge back p) }

-- ---- what is read, and what is a rule
module _ (r : Rule) (n : ℕ) where
  -- refused exactly at the lowest block on a cycle
  pub cycled : (b : ℕ) → LowestOnCycle (size r) (goto_in r) b → uncycled r n ≡ refused GotoCycle b
  cycled b l =
      let c = (cycle-lowest (size r) (goto_in r) b).1 l in
      rw (c.0, lt-ltb b (size r) c.1)

  pub no_cycles : NoCycle (size r) (goto_in r) → uncycled r n ≡ got r n
  no_cycles h = rw ((cycle-free (size r) (goto_in r)).1 h, le-ltb (size r) (size r) (omega arith))

-- and a rule that is accepted has none
module _ (s : List ℕ) (r : Rule) (n : ℕ) where
  accepted : (g : Got Rule) → then g uncycled ≡ got r n → (g ≡ got r n) × NoCycle (size r) (goto_in r)
  accepted (refused k p) e = let z : ◌≡◌ {A = ℕ} 0 1 = cc in absurd (omega arith)
  accepted (got x m) e = go (ltb (cycle_of (size x) (goto_in x)) (size x)) refl e
    where
      go : (b : Bool) → ltb (cycle_of (size x) (goto_in x)) (size x) ≡ b → cond b (refused GotoCycle (cycle_of (size x) (goto_in x))) (got x m) ≡ got r n → (got x m ≡ got r n) × NoCycle (size r) (goto_in r)
      go true t e = let z : ◌≡◌ {A = ℕ} 0 1 = cc in absurd (omega arith)
      go false t e =
          let same : x ≡ r = cc in
          (e, rw same at (cycle-none (size x) (goto_in x) (ltb-false (cycle_of (size x) (goto_in x)) (size x) t)))

  pub rule-parsed : rule_of s ≡ got r n → parsed s ≡ got r n
  unfolding rule_of
  rule-parsed e = (accepted (parsed s) e).0

  pub rule_no_cycle : rule_of s ≡ got r n → NoCycle (size r) (goto_in r)
  unfolding rule_of
  rule_no_cycle e = (accepted (parsed s) e).1

  pub rule-whole : parsed s ≡ got r n → NoCycle (size r) (goto_in r) → rule_of s ≡ got r n
  unfolding rule_of
  rule-whole e h = rw e (no_cycles r n h)

  -- where every goto goes to a higher block, nothing is refused that was accepted before K5
  pub rises-whole : parsed s ≡ got r n → Rises (size r) (goto_in r) → rule_of s ≡ got r n
  rises-whole e h = rule-whole e (rises_no_cycle (size r) (goto_in r) h)

-- bytes that are refused while they are read, and bytes whose gotos form a cycle
pub rule-bad : (s : List ℕ) (k : Reason) (p : ℕ) → parsed s ≡ refused k p → rule_of s ≡ refused k p
unfolding rule_of
rule-bad s k p e = rw e

pub rule-cycled : (s : List ℕ) (r : Rule) (n b : ℕ) → parsed s ≡ got r n → LowestOnCycle (size r) (goto_in r) b → rule_of s ≡ refused GotoCycle b
unfolding rule_of
rule-cycled s r n b e l = rw e (cycled r n b l)

-- ---- what the code finds
module _ (s : List ℕ) where
  pub tell_refused : {r : Reply} → r ≡ read_of (parsed s) → (w : Refusal) → r ≡ Err w → Err w ≡ read_of (rule_of s)
  unfolding rule_of read_of
  tell_refused q w e = let q = read-refused (parsed s) w (sym q ∙ e) in rw q

  module _ {r : Reply} (q : r ≡ read_of (parsed s)) (m : ℕ) (e : r ≡ Ok m) (short : length s ≤ longest) where
    is : (r : Rule) × (parsed s ≡ got r m)
    is = read-got (parsed s) m (sym q ∙ e)

    pub tell-ruled : Ruled s
    tell-ruled = record { rule = is.0; end = m; is = is.1; short = short }

    pub tell-header : 4 ≤ length s
    tell-header = rule-header s is.0 m is.1

    pub tell-blocks : get_or s 3 0 ≤ 64
    tell-blocks = let i = rule-in s is.0 m is.1 in omega (arith, i.blocks_are, i.blocks_to)

    module _ (gotos : List Bool) (told : (r : Rule) (m : ℕ) → parsed s ≡ got r m → (b t : ℕ) → b < size r → t < size r → edge_in gotos b t ≡ goto_in r b t) where
      count : get_or s 3 0 ≡ size is.0
      count = sym (rule-in s is.0 m is.1).blocks_are

      pub tell_none : NoCycle (get_or s 3 0) (edge_in gotos) → Ok m ≡ read_of (rule_of s)
      unfolding read_of
      tell_none h = rw (rule-whole s is.0 m is.1 (none_as (size is.0) (edge_in gotos) (goto_in is.0) (told is.0 m is.1) (rw count at h)))

      pub tell-at : (b : ℕ) → LowestOnCycle (get_or s 3 0) (edge_in gotos) b → refusal GotoCycle b ≡ read_of (rule_of s)
      unfolding read_of rule_of
      tell-at b h = rw is.1 (rw (cycled is.0 m b (lowest_as (size is.0) (edge_in gotos) (goto_in is.0) (told is.0 m is.1) b (rw count at h))))

-- what holds of bytes that are read
pub ruleset of_tree = (tell-ruled, tell-header, tell-blocks)
