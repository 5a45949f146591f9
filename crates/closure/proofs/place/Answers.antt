-- `closure::place` meets its contract: the lower part of the mask is what is left of it by 2 ^ k.
use Prim.Native.Nat.{ℕ, ◌*◌, ◌%◌, ◌^◌}
use mathlib.Core.Path.{◌≡◌, ap, ◌∙◌}
use native.Mathlib.Omega.{arith}
use lib.Count.{ones}
use Rattle.closure.proofs.Bits.{power, ones_below}
use Rattle.closure.proofs.place.Goals as goal

-- what `1 << k` is in the 32 bits that the mask is widened to
shifted : (c : goal.Start) → 1 * 2 ^ c.args.k % 2 ^ 32 ≡ 2 ^ c.args.k
shifted c = power 32 c.args.k (omega (arith, c.requires))

pub returns : goal.returns
returns c = ap (λ (n : ℕ). ones (c.args.mask % n)) (shifted c) ∙ ones_below c.args.mask c.args.k
