-- What is told of each block's tags is what the rule's flow says. Assumes nothing.
use mathlib.Core.Path.{◌≡◌, refl, sym, ap, ap₂, ◌∙◌}
use mathlib.Core.Bool.{Bool, true, false, ◌&&◌, ◌||◌}
use mathlib.Core.List.{List}
use Prim.Native.Nat.{ℕ, zero, suc, ◌<◌, ◌≤◌}
use native.Mathlib.Omega.{arith}
use native.Mathlib.Numerals.{add-one}
use borrow.Author.Tests.{ne_eqb}
use lib.Dec.{eqb}
use lib.ListN.{length, get_or, set, replicate, get_or-replicate}
use Rattle.definitions.specs.Rule.{Block, Rule, size, block_of}
use Rattle.definitions.specs.Grammar.{got, parsed, blocks_to, blocks_in, variables_in, longest, most_variables, most_blocks}
use Rattle.definitions.specs.Columns.{among, jumps_to, led_to}
use Rattle.definitions.specs.Paths.{goto_in}
use Rattle.definitions.specs.Smallest.{Smallest}
use Rattle.definitions.specs.Plan.{place_of, end_of}
use Rattle.definitions.proofs.Smallest.{smallest-only, alike}
use Rattle.definitions.proofs.Reached.{closure-smallest}
use Rattle.readers.proofs.Accepted.{rule-in}
use Rattle.readers.proofs.Places.{rule-header, rule-blocks, block-stands}
use Rattle.closure.specs.Tables.{edge_in, variable_in}
use Rattle.flows.specs.Marks.{part_in, has, reads_first}
use Rattle.flows.specs.Flow.{Ruled, Placed, Told}
use Rattle.flows.proofs.Spans.{Spans, all}
use Rattle.flows.proofs.Trees.{block_marks, marks-read, marks-sets, marks-goto, marks_jump}
use Rattle.flows.proofs.Readings.{block_spans}

module _ (s : List ℕ) (r : Rule) (m : ℕ) (e : parsed s ≡ got r m) where
  span : (b : ℕ) → b < size r → Spans s (place_of r s b) (place_of r s (suc b)) (block_marks (block_of r b))
  span b h = block_spans (size r) r.variables s (place_of r s b) (place_of r s (suc b)) (block_of r b) (block-stands s r m e b h)

  -- a block begins past the header, and no later than the bytes end
  pub place-past : (b : ℕ) → b ≤ size r → 4 ≤ place_of r s b
  unfolding blocks_to
  place-past zero h = omega arith
  place-past (suc b) h = omega (arith, (span b h).grows, place-past b (omega arith))

  pub place-within : (b : ℕ) → b ≤ size r → place_of r s b ≤ length s
  unfolding blocks_to
  place-within zero h = rule-header s r m e
  place-within (suc b) h = (span b h).within

-- what is read of the places, by the numbers in the header
abbrev pub Read : List ℕ → List ℕ → Type 0
Read s starts = (bs : List Block) (m : ℕ) → blocks_to (blocks_in s) (variables_in s) s (blocks_in s) ≡ got bs m → (b : ℕ) → b ≤ blocks_in s → get_or starts b 0 ≡ end_of (blocks_to (blocks_in s) (variables_in s) s b)

pub placed : (s starts : List ℕ) → Read s starts → (r : Rule) (m : ℕ) → parsed s ≡ got r m → Placed r s s (blocks_in s) starts
placed s starts read r m e =
    let i = rule-in s r m e in
    record { bytes_are = refl; number = sym i.blocks_are; places = (rw (← i.variables_are, ← i.blocks_are) at read) r.blocks m (rule-blocks s r m e) }

-- what making a body needs of a rule
module _ (s : List ℕ) (ruled : Ruled s) where
  pub header : 3 < length s
  header = rule-header s ruled.rule ruled.end ruled.is

  pub few : blocks_in s ≤ 64
  few = let i = rule-in s ruled.rule ruled.end ruled.is in omega arith

  pub in_reach : (starts : List ℕ) → Read s starts → (b : ℕ) → b ≤ blocks_in s → get_or starts b 0 ≤ longest
  in_reach starts read b h =
      let p = placed s starts read ruled.rule ruled.end ruled.is in
      let l : b ≤ size ruled.rule = omega arith in
      rw (p.places b l) (omega (arith, ruled.short, place-within s ruled.rule ruled.end ruled.is b l))

-- what is told of the tables of n blocks
module _ (n : ℕ) where
  module _ (s starts : List ℕ) where
    abbrev pub Reads : List Bool → List Bool → Type 0
    Reads led fv = (b k : ℕ) → b < n → k < most_variables → variable_in fv b k ≡ (among led b && reads_first k false (part_in s starts b))

    abbrev pub Sets : List Bool → Type 0
    Sets bv = (b k : ℕ) → b < n → k < most_variables → variable_in bv b k ≡ has 0x20 k (part_in s starts b)

    abbrev pub Named : ℕ → List Bool → Type 0
    Named tag named = (b t : ℕ) → b < n → t < most_blocks → edge_in named b t ≡ has tag t (part_in s starts b)

  -- those of the blocks that count
  abbrev pub Only : List Bool → List Bool → List Bool → Type 0
  Only counts edges kept = (b t : ℕ) → b < n → t < most_blocks → edge_in kept b t ≡ (among counts b && edge_in edges b t)

  -- the blocks that are led to, by the tables of gotos and jumps
  abbrev pub Led : List Bool → List Bool → List Bool → Type 0
  Led gotos jumps led = Smallest n (λ b. eqb b 0) (λ t b. edge_in gotos b t || edge_in jumps b t) (among led)

-- a set of block 0 alone
pub entry-alone : (b : ℕ) → b < 64 → among (set (replicate 64 false) 0 true) b ≡ eqb b 0
entry-alone zero h = refl
entry-alone (suc b) h = get_or-replicate 63 b false false (omega arith) ∙ sym (ne_eqb (suc b) 0 (λ e. omega arith))

module _ (s : List ℕ) (r : Rule) (m : ℕ) (e : parsed s ≡ got r m) (bytes : List ℕ) (n : ℕ) (starts : List ℕ) (p : Placed r s bytes n starts) where
  part : (b : ℕ) → b < size r → part_in bytes starts b ≡ block_marks (block_of r b)
  part b h = rw (p.bytes_are, add-one b, p.places b (omega arith), p.places (suc b) h) (all s (place_of r s b) (place_of r s (suc b)) (block_marks (block_of r b)) (span s r m e b h))

  few-blocks : n ≤ 64
  few-blocks = let i = rule-in s r m e in omega (arith, p.number)

  -- the gotos of all blocks
  module _ (gotos : List Bool) (by-goto : Named n bytes starts 0x30 gotos) where
    pub goto-is : (b t : ℕ) → b < size r → t < size r → edge_in gotos b t ≡ goto_in r b t
    goto-is b t h l = by-goto b t (omega (arith, p.number)) (omega (arith, few-blocks, p.number)) ∙ (ap (has 0x30 t) (part b h) ∙ marks-goto (block_of r b).body (block_of r b).ending t)

  module _ (gotos jumps : List Bool) (by-goto : Named n bytes starts 0x30 gotos) (by_jump : Named n bytes starts 0x31 jumps) where
    jump-is : (b t : ℕ) → b < size r → t < size r → edge_in jumps b t ≡ jumps_to (block_of r b).ending t
    jump-is b t h l = by_jump b t (omega (arith, p.number)) (omega (arith, few-blocks, p.number)) ∙ (ap (has 0x31 t) (part b h) ∙ marks_jump (block_of r b).body (block_of r b).ending t)

    led-is : (led : List Bool) → Led n gotos jumps led → (b : ℕ) → b < size r → among led b ≡ led_to r b
    unfolding led_to
    led-is led w =
        smallest-only (alike (λ b h. refl) (λ t b h l. ap₂ (λ (x y : Bool). x || y) (goto-is gotos by-goto b t l h) (jump-is b t l h)) (rw p.number at w)) (closure-smallest (size r) _ _)

    pub told : (led fv bv gotos' jumps' : List Bool) → Led n gotos jumps led → Reads n bytes starts led fv → Sets n bytes starts bv → Only n led gotos gotos' → Only n led jumps jumps' → Told r s starts fv bv gotos' jumps'
    told led fv bv gotos' jumps' w reads sets goes jumps-on =
        let i = rule-in s r m e in
        record {
          places = p.places;
          tables = record {
            blocks = refl;
            FV = λ b k h l.
                reads b k (omega (arith, p.number)) (omega arith)
                ∙ ap₂ (λ (x y : Bool). x && y) (led-is led w b h) (ap (reads_first k false) (part b h) ∙ marks-read (block_of r b).body (block_of r b).ending k);
            BV = λ b k h l. sets b k (omega (arith, p.number)) (omega arith) ∙ (ap (has 0x20 k) (part b h) ∙ marks-sets (block_of r b).body (block_of r b).ending k);
            gotos' = λ b t h l. goes b t (omega (arith, p.number)) (omega arith) ∙ ap₂ (λ (x y : Bool). x && y) (led-is led w b h) (goto-is gotos by-goto b t h l);
            jumps' = λ b t h l. jumps-on b t (omega (arith, p.number)) (omega arith) ∙ ap₂ (λ (x y : Bool). x && y) (led-is led w b h) (jump-is b t h l);
          };
        }
