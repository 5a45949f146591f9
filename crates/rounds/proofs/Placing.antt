-- Where a block stands in the bytes is where the sizes put it. Assumes nothing.
use Prim.Native.Nat.{ℕ, zero, suc, ◌+◌, ◌≤◌, ◌<◌}
use native.Mathlib.Omega.{arith}
use mathlib.Core.Path.{◌≡◌, refl}
use mathlib.Core.List.{List, [], ◌∷◌}
use lib.ListN.{length, take, get_or, length-append}
use Rattle.definitions.specs.Rule.{Block, Rule, size, block_of}
use Rattle.definitions.specs.Grammar.{got, blocks_to, rule_of}
use Rattle.definitions.specs.Plan.{place_of}
use Rattle.definitions.specs.Spelling.{stmt_bytes, end_bytes, in_turn, block_bytes, block_place}
use Rattle.readers.specs.Accepted.{no_block}
use Rattle.readers.proofs.Places.{block-stands}
use Rattle.rules.proofs.Uncycled.{rule-parsed}
use Rattle.evaluators.proofs.Sizes.{block_size, block_size_lem}

-- the bytes of one block
block-is : (b : Block) → length (block_bytes b) ≡ block_size b
unfolding block_bytes
block-is b = length-append (in_turn stmt_bytes b.body) (end_bytes b.ending)

-- one block more
one_more : (bs : List Block) (b : ℕ) → b < length bs → length (in_turn block_bytes (take (suc b) bs)) ≡ length (in_turn block_bytes (take b bs)) + block_size (get_or bs b no_block)
unfolding in_turn
one_more [] b h = absurd (omega arith)
one_more (x ∷ xs) zero h = omega (arith, length-append (block_bytes x) [], block-is x)
one_more (x ∷ xs) (suc b) h =
    omega (arith, length-append (block_bytes x) (in_turn block_bytes (take (suc b) xs)), length-append (block_bytes x) (in_turn block_bytes (take b xs)), one_more xs b (omega arith))

module _ (s : List ℕ) (r : Rule) (n : ℕ) (e : rule_of s ≡ got r n) where
  pub place_is : (b : ℕ) → b ≤ size r → place_of r s b ≡ block_place r b
  unfolding blocks_to in_turn
  place_is zero l = refl
  place_is (suc b) l =
      let k = block_size_lem (size r) r.variables s (length s) (place_of r s b) (block_of r b) (place_of r s (suc b)) (block-stands s r n (rule-parsed s r n e) b (omega arith)) in
      omega (arith, k, place_is b (omega arith), one_more r.blocks b (omega arith))
