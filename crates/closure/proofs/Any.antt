-- `any` over the numbers below n, against `some` (01). Assumes nothing.
use Rattle.std.proofs.Common.{ℕ, zero, suc, ◌+◌, ◌≡◌, Bool, true, false, ◌||◌, List, Option, MatchOption, refl, ◌∙◌, arith}
use Rattle.std.proofs.iter.Yields.{nat_range_steps}
use Rattle.std.specs.Fn.{Called}
use Rattle.std.specs.Iterator.{YieldsThen}
use Rattle.std.specs.List.{list_any, range_with_len, FoldsTo}
use Rattle.std.specs.declared.ops.Range.{Range}
use Rattle.std.proofs.lemmas.Iterator.{YieldsList-from_range}
use Rattle.std.proofs.lemmas.Iterator.Search.{any_from_yields_List}
use Rattle.std.proofs.lemmas.Grind.{common_steps}
use denote.Param.Members.{Mut}
use Rattle.definitions.specs.Columns.{some}

some-more : (a n : ℕ) (f : ℕ → Bool) → list_any f (range_with_len a (suc n)) ≡ (list_any f (range_with_len a n) || f (a + n))
some-more a zero f = grind (arith, common_steps)
some-more a (suc n) f = grind (arith, common_steps, some-more (a + 1) n f)

some-range : (n : ℕ) (f : ℕ → Bool) → list_any f (range_with_len 0 n) ≡ some n f
unfolding some
some-range zero f = refl
some-range (suc n) f = grind (arith, common_steps, some-more 0 n f, some-range n f)

-- what a call of `any` over 0..n answers, where the closure is f at each number and stays as it was
pub some-any : {F : Type 0} {g : Mut F (ℕ × Unit {0}) Bool} (n : ℕ) (f : ℕ → Bool) (u : Range ℕ) (j : F) {r : Bool}
    → (xs : List ℕ) × (o : Option ℕ) × (k : F) × YieldsThen nat_range_steps (record { start = 0; end = n }) xs o u
    × FoldsTo (λ p x q. Called g p (x, tt) false q) j xs k × MatchOption o (r ≡ false) (λ x. (r ≡ true) × ((h : F) × Called g k (x, tt) true h))
    → ((x : ℕ) (b : Bool) (q : F) → Called g j (x, tt) b q → (q ≡ j) × (b ≡ f x)) → r ≡ some n f
some-any n f u j ran h = any_from_yields_List f u j _ ran (YieldsList-from_range 0 n n refl (omega arith)) h ∙ some-range n f
