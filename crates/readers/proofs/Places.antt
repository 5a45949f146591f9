-- Where the blocks of an accepted rule stand: each where the ones before it end, and the last one ends with the bytes. Assumes nothing.
use Prim.Native.Nat.{ℕ, zero, suc, ◌<◌, ◌≤◌}
use native.Mathlib.Omega.{arith}
use mathlib.Core.Path.{◌≡◌, refl, sym, ap, ◌∙◌}
use mathlib.Core.Bool.{Bool, true, false, cond}
use mathlib.Core.List.{List, [], ◌∷◌, ◌++◌}
use lib.Dec.{ltb, eqb}
use lib.ListN.{length, get_or, get_or-append}
use lib.Seq.{get_or_at}
use borrow.Author.Tests.{ltb-false, eqb-true, eqb-false}
use Rattle.definitions.specs.Rule.{Block, Rule, size, block_of}
use Rattle.definitions.specs.Grammar.{Got, got, refused, then, read_of, one, block_at, form_in, variables_in, arguments_in, blocks_to, whole_rule, parsed}
use Rattle.definitions.specs.Plan.{end_of, place_of}
use Rattle.readers.specs.Readings.{header_at}
use Rattle.readers.specs.Accepted.{no_block, RuleIn}
use Rattle.readers.proofs.Sound.{sound-got}
use Rattle.readers.proofs.Accepted.{First, blocks-sound, rule-sound, rule-in}
use Rattle.readers.proofs.RuleLaws.{blocks, rule-is, header-there}
use Rattle.std.specs.Prelude.{Ok}
use Rattle.definitions.specs.declared.Reason.TheVariants.{BytesAfter}

-- where what was read ends
pub next_place : {A : Type 0} (p : Got A) (n : ℕ) → read_of p ≡ Ok n → n ≡ end_of p
unfolding read_of
next_place (got a m) n e = cc
next_place (refused k q) n e = let z : ◌≡◌ {A = ℕ} 0 1 = cc in absurd (omega arith)

-- what was read first, where one reading after another came to b
pub record Through {A B : Type 0} (p : Got A) (f : A → ℕ → Got B) (b : B) (n : ℕ) : Type 0 where
  pub first : A
  pub place : ℕ
  pub was : p ≡ got first place
  pub then-was : f first place ≡ got b n

pub through : {A B : Type 0} (p : Got A) (f : A → ℕ → Got B) (b : B) (n : ℕ) → then p f ≡ got b n → Through p f b n
through (got a m) f b n e = record { first = a; place = m; was = refl; then-was = e }
through (refused k q) f b n e = let z : ◌≡◌ {A = ℕ} 0 1 = cc in absurd (omega arith)

module _ (n v : ℕ) (s : List ℕ) (there : 4 ≤ length s) where
  -- the last of the first blocks, and those before it
  module _ (k : ℕ) (bs : List Block) (at : ℕ) (e : blocks_to n v s (suc k) ≡ got bs at) where
    before : Through (blocks_to n v s k) (λ bs at. one (λ b. bs ++ (b ∷ [])) (block_at n v s) at) bs at
    unfolding blocks_to
    before = through (blocks_to n v s k) _ bs at e

    last : Through (block_at n v s before.place) (λ b m. got (before.first ++ (b ∷ [])) m) bs at
    last = through (block_at n v s before.place) _ bs at before.then-was

    all : before.first ++ (last.first ∷ []) ≡ bs
    all = let w = last.then-was in cc

    count : length before.first ≡ k
    count = (sound-got (First n v k) 3 (length s) (blocks_to n v s k) (blocks-sound n v s there k) before.first before.place before.was).2.count

    last-stands : block_at n v s (end_of (blocks_to n v s k)) ≡ got (get_or bs k no_block) (end_of (blocks_to n v s (suc k)))
    last-stands =
        let w = last.then-was in
        let q : last.place ≡ at = cc in
        let x : last.first ≡ get_or bs k no_block = sym (get_or_at before.first last.first [] no_block k count) ∙ ap (λ l. get_or l k no_block) all in
        let y : last.place ≡ end_of (blocks_to n v s (suc k)) = q ∙ sym (ap end_of e) in
        let z : got last.first last.place ≡ got (get_or bs k no_block) (end_of (blocks_to n v s (suc k))) = cc in
        ap (λ p. block_at n v s (end_of p)) before.was ∙ last.was ∙ z

  -- of the first k blocks, each stands where the ones before it end
  stands : (k : ℕ) (bs : List Block) (at : ℕ) → blocks_to n v s k ≡ got bs at → (b : ℕ) → b < k → block_at n v s (end_of (blocks_to n v s b)) ≡ got (get_or bs b no_block) (end_of (blocks_to n v s (suc b)))
  stands zero bs at e b h = absurd (omega arith)
  stands (suc k) bs at e b h = go (eqb b k) refl (λ l. stands k (before k bs at e).first (before k bs at e).place (before k bs at e).was b l)
    where
      go :
          (q : Bool) → eqb b k ≡ q →
          (b < k → block_at n v s (end_of (blocks_to n v s b)) ≡ got (get_or (before k bs at e).first b no_block) (end_of (blocks_to n v s (suc b)))) →
          block_at n v s (end_of (blocks_to n v s b)) ≡ got (get_or bs b no_block) (end_of (blocks_to n v s (suc b)))
      go true i f = rw (eqb-true b k i) (last-stands k bs at e)
      go false i f =
          let d = eqb-false b k i in
          let l : b < k = omega arith in
          let c = count k bs at e in
          let x : get_or (before k bs at e).first b no_block ≡ get_or bs b no_block = sym (get_or-append (before k bs at e).first ((last k bs at e).first ∷ []) no_block b (omega arith)) ∙ ap (λ m. get_or m b no_block) (all k bs at e) in
          f l ∙ ap (λ y. got y (end_of (blocks_to n v s (suc b)))) x

-- ---- accepted rules
module _ (s : List ℕ) (r : Rule) (n : ℕ) (e : parsed s ≡ got r n) where
  head : Through (header_at s) (λ _ _. then (blocks s) (whole_rule s)) r n
  head = through (header_at s) _ r n (sym (rule-is s) ∙ e)

  inner : Through (blocks s) (whole_rule s) r n
  inner = through (blocks s) (whole_rule s) r n head.then-was

  whole : (b : Bool) (x : Rule) (m : ℕ) → ltb m (length s) ≡ b → cond b (refused BytesAfter m) (got x m) ≡ got r n → (x ≡ r) × (m ≡ n) × (length s ≤ m)
  whole true x m q w = let z : ◌≡◌ {A = ℕ} 0 1 = cc in absurd (omega arith)
  whole false x m q w = (cc, (cc), ltb-false m (length s) q)

  read : ((record { form = form_in s; variables = variables_in s; arguments = arguments_in s; blocks = inner.first }) ≡ r) × (inner.place ≡ n) × (length s ≤ inner.place)
  read = whole (ltb inner.place (length s)) _ inner.place refl inner.then-was

  -- the whole of the bytes was read, and these are the rule's blocks
  pub rule_end : n ≡ length s
  rule_end = let g = sound-got (RuleIn s) 3 (length s) (parsed s) (rule-sound s) r n e in omega (arith, read.1, read.2, g.1)

  pub rule-blocks : blocks_to (size r) r.variables s (size r) ≡ got r.blocks n
  rule-blocks =
      let i = rule-in s r n e in
      let w = inner.was in
      let x : inner.first ≡ r.blocks = ap (λ y. y.blocks) read.0 in
      let y = read.1 in
      rw (i.blocks_are, i.variables_are) (cc)

  pub rule-header : 4 ≤ length s
  unfolding read_of
  rule-header = header-there s head.place refl (ap read_of head.was)

  pub block-stands : (b : ℕ) → b < size r → block_at (size r) r.variables s (place_of r s b) ≡ got (block_of r b) (place_of r s (suc b))
  block-stands b h = stands (size r) r.variables s rule-header (size r) r.blocks n rule-blocks b h
