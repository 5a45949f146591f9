-- Cycles and orders of evaluation of some small relations, worked out.
use Rattle.std.specs.Prelude.{◌≡◌, refl, Bool, true, false, ◌&&◌, ◌||◌, [], ◌∷◌, ℕ, suc, eqb}
use Rattle.std.proofs.lemmas.Bool.{false≢true}
use Rattle.definitions.specs.Columns.{some, from, grown, growths, closure}
use Rattle.definitions.specs.Paths.{GotoPath, one, more}
use Rattle.definitions.specs.Order.{lowest_of, waits, free, order_to, order_of, goes_back}
use Rattle.definitions.specs.Cycles.{cycle_of}

-- 0 goes to 3, and 3 back to 1
back : ℕ → ℕ → Bool
back b t = (eqb b 0 && eqb t 3) || (eqb b 3 && eqb t 1)

back-order : order_of 4 back ≡ 0 ∷ 2 ∷ 3 ∷ 1 ∷ []
unfolding back some lowest_of waits free order_to
back-order = refl

back-goes : goes_back 4 back ≡ true
unfolding back some goes_back
back-goes = refl

-- 0 goes to 1 and 2, and they to 3
ahead : ℕ → ℕ → Bool
ahead b t = (eqb b 0 && (eqb t 1 || eqb t 2)) || ((eqb b 1 || eqb b 2) && eqb t 3)

ahead-order : order_of 4 ahead ≡ 0 ∷ 1 ∷ 2 ∷ 3 ∷ []
unfolding ahead some lowest_of waits free order_to
ahead-order = refl

ahead-goes : goes_back 4 ahead ≡ false
unfolding ahead some goes_back
ahead-goes = refl

-- on a cycle no block is ever free: 2 stands for `none of two`
round : ℕ → ℕ → Bool
round b t = (eqb b 0 && eqb t 1) || (eqb b 1 && eqb t 0)

round-order : order_of 2 round ≡ 2 ∷ 2 ∷ []
unfolding round some lowest_of waits free order_to
round-order = refl

-- 1 and 2 go to each other, and 0 to 1
late : ℕ → ℕ → Bool
late b t = (eqb b 0 && eqb t 1) || ((eqb b 1 && eqb t 2) || (eqb b 2 && eqb t 1))

late-cycle : cycle_of 3 late ≡ 1
unfolding late some from grown growths closure lowest_of cycle_of
late-cycle = refl

back-cycle : cycle_of 4 back ≡ 4
unfolding back some from grown growths closure lowest_of cycle_of
back-cycle = refl

-- eight blocks, each with a goto to the one below
down : ℕ → ℕ → Bool
down b t = eqb b (suc t)

down-order : order_of 8 down ≡ 7 ∷ 6 ∷ 5 ∷ 4 ∷ 3 ∷ 2 ∷ 1 ∷ 0 ∷ []
unfolding down some lowest_of waits free order_to
down-order = refl

-- without gotos there is no path
nowhere : ℕ → ℕ → Bool
nowhere b t = false

no_path : {b t : ℕ} → GotoPath 1 nowhere b t → ⊥
unfolding nowhere
no_path (one s) = false≢true s.goto
no_path (more s p) = false≢true s.goto
