-- A packed answer stands for one reply, and no second outcome meets a contract. Assumes nothing.
use Prim.Native.Nat.{ℕ, ◌+◌, ◌*◌, ◌≤◌, ◌<◌}
use native.Mathlib.Omega.{arith}
use mathlib.Core.Path.{◌≡◌, sym, ap, ◌∙◌}
use mathlib.Core.List.{List}
use Rattle.definitions.specs.Values.{Word}
use Rattle.definitions.specs.Grammar.{Got}
use Rattle.definitions.specs.Calls.{Wrote, Batch, Ran}
use Rattle.definitions.specs.declared.Refusal.{Refusal}
use Rattle.definitions.specs.Refusals.{Reply}
use Rattle.tap.specs.Packed.{half, packed, most_number, Clear, Stands}
use Rattle.std.specs.Prelude.{Ok, Err}
use Rattle.definitions.specs.Refusals.{number_of, refusal}
use Rattle.definitions.specs.declared.Reason.{Reason}
use Rattle.definitions.proofs.Numbered.{number_once}

-- ---- replies

pub pack_done : (r : Reply) (n : ℕ) → r ≡ Ok n → n ≡ packed r
unfolding packed
pack_done r n e = rw e

module _ (r : Reply) (f : Refusal) (e : r ≡ Err f) where
  pub pack_refused : number_of f.reason * half + f.place ≡ packed r
  unfolding packed
  pack_refused = rw e

  pub pack_room : Clear r → (number_of f.reason ≤ most_number) × (f.place < half)
  unfolding Clear
  pack_room h = (rw e at h).1

-- two replies with one answer are one reply
pub one-reply : (x y : Reply) → Clear x → Clear y → packed x ≡ packed y → x ≡ y
unfolding packed Clear
one-reply (Ok m) (Ok n) h l e = rw e
one-reply (Ok m) (Err g) h l e = absurd (omega arith)
one-reply (Err f) (Ok n) h l e = absurd (omega arith)
one-reply (Err f) (Err g) h l e =
    let a : f.reason ≡ g.reason = number_once f.reason g.reason (omega arith) in
    let b : f.place ≡ g.place = omega arith in
    same f.reason g.reason f.place g.place a b
  where
    same : (k : Reason) (l : Reason) (p q : ℕ) → k ≡ l → p ≡ q → refusal k p ≡ refusal l q
    same k l p q a b = rw (a, b)

-- ---- no second outcome

module _ {what : Got (List ℕ)} {old new new' : List ℕ} {x x' : ℕ} where
  pub wrote_once : Stands (λ r. Wrote what old r new) x → Stands (λ r. Wrote what old r new') x' → (x ≡ x') × (new ≡ new')
  wrote_once p p' =
      let e : p.reply ≡ p'.reply = p.holds.reply ∙ sym p'.holds.reply in
      (p.packs ∙ ap packed e ∙ sym p'.packs, p.holds.buffer ∙ rw e (sym p'.holds.buffer))

module _ {b : Batch} {out work o o' w w' : List Word} {x x' : ℕ} where
  pub ran-once : Stands (λ r. Ran b out work r o w) x → Stands (λ r. Ran b out work r o' w') x' → (x ≡ x') × ((o ≡ o') × (w ≡ w'))
  ran-once p p' =
      let e : p.reply ≡ p'.reply = p.holds.reply ∙ sym p'.holds.reply in
      (p.packs ∙ ap packed e ∙ sym p'.packs, (p.holds.result ∙ rw e (sym p'.holds.result), p.holds.working ∙ rw e (sym p'.holds.working)))

pub told-once : {q : Reply} {x x' : ℕ} → Stands (λ r. r ≡ q) x → Stands (λ r. r ≡ q) x' → x ≡ x'
told-once p p' = p.packs ∙ ap packed (p.holds ∙ sym p'.holds) ∙ sym p'.packs
