-- A fault of the evaluators ends the row: what a `?` after `map_err(Finish::Faulted)` returns, and what it binds. Assumes nothing.
use Prim.Native.Nat.{ℕ}
use native.Mathlib.Omega.{arith}
use mathlib.Core.Path.{◌≡◌, refl}
use Rattle.std.specs.Prelude.{Result, Ok, Err}
use Rattle.std.specs.Result.{MatchResult, IsErrAnd}
use Rattle.std.proofs.lemmas.Result.{err_from_is_err_and}
use Rattle.definitions.specs.declared.Flaw.{Flaw}
use Rattle.definitions.specs.declared.Finish.{Finish}
use Rattle.definitions.specs.declared.Finish.TheVariants.{Faulted}

-- what `map_err` ensures of its result m, for what a call gave
abbrev pub Maps : {A : Type 0} → Result A Flaw → Result A Finish → Type 0
Maps r m = MatchResult r (λ x. m ≡ Ok x) (λ k. IsErrAnd m (λ how. how ≡ Faulted k))

pub value-of : {A : Type 0} (r : Result A Flaw) (m : Result A Finish) (x : A) → Maps r m → m ≡ Ok x → r ≡ Ok x
value-of (Ok y) m x h e = cc
value-of (Err k) m x h e = let p = err_from_is_err_and m h in let z : ◌≡◌ {A = ℕ} 0 1 = cc in absurd (omega arith)

pub fault-of : {A B : Type 0} (r : Result A Flaw) (m : Result A Finish) (out : Result B Finish) (how : Finish) → Maps r m → m ≡ Err how → IsErrAnd out (λ y. y ≡ how) → (k : Flaw) × (r ≡ Err k) × (out ≡ Err (Faulted k))
fault-of (Ok x) m out how h e o = let z : ◌≡◌ {A = ℕ} 0 1 = cc in absurd (omega arith)
fault-of (Err k) m out how h e o =
    let p = err_from_is_err_and m h in
    let q = err_from_is_err_and out o in
    let same : p.0 ≡ how = cc in
    (k, refl, cc)
