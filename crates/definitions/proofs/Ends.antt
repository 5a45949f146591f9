-- The ends of a row by their status: only 0 goes on, and none is above 4. Assumes nothing.
use Rattle.std.proofs.Common.{◌≡◌, ℕ, ◌<◌, ◌≤◌, Bool, true, false, refl, sym, ◌∙◌, eqb, arith}
use Rattle.definitions.specs.Values.{kind_number}
use Rattle.definitions.specs.Direct.{status_number, goes_on}
use Rattle.definitions.specs.declared.Kind.{Kind}
use Rattle.definitions.specs.declared.Kind.TheVariants.{ZeroDivisor, OutOfRange}
use Rattle.definitions.specs.declared.Finish.{Finish}
use Rattle.definitions.specs.declared.Finish.TheVariants.{Unfinished, Stopped, Faulted, QuotaFull}

kind-between : (k : Kind) → (2 ≤ kind_number k) × (kind_number k ≤ 3)
kind-between ZeroDivisor = (omega arith, omega arith)
kind-between OutOfRange = (omega arith, omega arith)

pub status_low : (how : Finish) → status_number how ≤ 4
status_low Unfinished = omega arith
status_low Stopped = omega arith
status_low (Faulted f) = omega (arith, (kind-between f.kind).1)
status_low QuotaFull = omega arith

pub zero-goes : (how : Finish) → status_number how ≡ 0 → goes_on how ≡ true
zero-goes Unfinished e = refl
zero-goes Stopped e = absurd (omega arith)
zero-goes (Faulted f) e = absurd (omega (arith, (kind-between f.kind).0))
zero-goes QuotaFull e = absurd (omega arith)

pub ended-above : (how : Finish) → goes_on how ≡ false → 0 < status_number how
ended-above Unfinished e = let z : ◌≡◌ {A = ℕ} 0 1 = cc in absurd (omega arith)
ended-above Stopped e = omega arith
ended-above (Faulted f) e = omega (arith, (kind-between f.kind).0)
ended-above QuotaFull e = omega arith

pub above-ended : (how : Finish) → 0 < status_number how → goes_on how ≡ false
above-ended Unfinished e = absurd (omega arith)
above-ended Stopped e = refl
above-ended (Faulted f) e = refl
above-ended QuotaFull e = refl

pub goes-unfinished : (how : Finish) → goes_on how ≡ true → how ≡ Unfinished
goes-unfinished Unfinished e = refl
goes-unfinished Stopped e = let z : ◌≡◌ {A = ℕ} 0 1 = cc in absurd (omega arith)
goes-unfinished (Faulted f) e = let z : ◌≡◌ {A = ℕ} 0 1 = cc in absurd (omega arith)
goes-unfinished QuotaFull e = let z : ◌≡◌ {A = ℕ} 0 1 = cc in absurd (omega arith)

pub no-both : {A : Type 0} (how : Finish) → goes_on how ≡ true → goes_on how ≡ false → A
no-both how e f =
    let w : ◌≡◌ {A = Bool} true false = sym e ∙ f in
    let z : ◌≡◌ {A = ℕ} 0 1 = cc in
    absurd (omega arith)

pub nonzero-ended : (how : Finish) → (status_number how ≡ 0 → ⊥) → goes_on how ≡ false
nonzero-ended Unfinished n = absurd (n refl)
nonzero-ended Stopped n = refl
nonzero-ended (Faulted f) n = refl
nonzero-ended QuotaFull n = refl

pub zero-is : (how : Finish) → eqb (status_number how) 0 ≡ goes_on how
zero-is Unfinished = refl
zero-is Stopped = refl
zero-is (Faulted f) = go f.kind
  where
    go : (k : Kind) → eqb (kind_number k) 0 ≡ false
    go ZeroDivisor = refl
    go OutOfRange = refl
zero-is QuotaFull = refl
