-- The loop that writes a plan's entries: one entry more. Assumes nothing.
use Prim.Native.Nat.{ℕ, ◌+◌, ◌-◌, ◌*◌, ◌≤◌, ◌<◌}
use mathlib.Core.Path.{◌≡◌, sym, ap, ◌∙◌}
use mathlib.Core.Bool.{cond}
use mathlib.Core.List.{List, ◌++◌, append_assoc}
use native.Mathlib.Omega.{arith}
use native.Mathlib.Numerals.{add-one}
use lib.ListN.{length, take, drop, get_or, length-append, length-drop, take-append-drop}
use lib.Seq.{take_all, length-take-le}
use Rattle.buffers.specs.Words.{over}
use Rattle.buffers.proofs.Laws.{over-next}
use Rattle.definitions.specs.Rule.{Rule, size}
use Rattle.definitions.specs.Columns.{among, flow_of, LC}
use Rattle.definitions.specs.Plan.{le16, mask_of, order_bytes, head_size, entry_of, entries_to, plan_by, plan_of}
use Rattle.closure.specs.declared.ColumnSets.{ColumnSets}
use Rattle.plans.specs.Laid.{Laid}
use Rattle.plans.proofs.Fields.{entries_length}

-- the bodies begin at one place, however it was worked out
pub begins : {r : Rule} {s : List ℕ} {n head head' : ℕ} {places : List ℕ} {sets : ColumnSets} → head ≡ head'
    → Laid r s n head places sets → Laid r s n head' places sets
begins e l = record { blocks = l.blocks; bodies = l.bodies ∙ e; place = l.place; columns = l.columns }

-- before the first
pub nothing : (d : List ℕ) (r : Rule) (s : List ℕ) → d ≡ over d 6 (entries_to (flow_of r) r s 0)
unfolding entries_to over
nothing d r s = sym (take-append-drop 6 d)

module _ {r : Rule} {s : List ℕ} {n head : ℕ} {places : List ℕ} {sets : ColumnSets} (l : Laid r s n head places sets) (b : ℕ) (h : b < n) (past : 4 ≤ get_or places b 0) where
  -- the numbers that are written are those of the entry
  entry-is : le16 (get_or places b 0 - 4 + head) ++ (le16 (get_or sets.inputs b 0) ++ (le16 (get_or sets.outputs b 0) ++ le16 (cond (among sets.j b) 1 0))) ≡ entry_of (flow_of r) r s b
  unfolding entry_of
  entry-is =
      rw (← l.bodies, l.place b h, l.columns.input b h, l.columns.output b h, l.columns.joins b h)

  pub one_entry : (d₀ d d' : List ℕ) → 6 + 8 * n ≤ length d₀ → d ≡ over d₀ 6 (entries_to (flow_of r) r s b)
      → d' ≡ over d (6 + 8 * b) (le16 (get_or places b 0 - 4 + head) ++ (le16 (get_or sets.inputs b 0) ++ (le16 (get_or sets.outputs b 0) ++ le16 (cond (among sets.j b) 1 0))))
      → d' ≡ over d₀ 6 (entries_to (flow_of r) r s (b + 1))
  unfolding entries_to
  one_entry d₀ d d' room e e' =
      let k : length (entries_to (flow_of r) r s b) ≡ 8 * b = entries_length (flow_of r) r s b in
      rw (e', e, entry-is, add-one) (over-next d₀ 6 (entries_to (flow_of r) r s b) (6 + 8 * b) (entry_of (flow_of r) r s b) (omega arith) (omega arith))

-- the header, LC, the entries, the order and the bodies, one right after the other
pub whole-plan : {r : Rule} {s order : List ℕ} {n : ℕ} {places : List ℕ} {sets : ColumnSets} → order ≡ order_bytes r
    → Laid r s n (head_size n (length order)) places sets
    → (d : List ℕ) {d₁ d₂ d₃ d₄ d₅ : List ℕ} (entries head : ℕ) → 1 ≤ n → 4 ≤ length s → head_size n (length order) + length s - 4 ≤ length d
    → entries ≡ head_size n 0 → head ≡ entries + length order
    → d₁ ≡ over d 0 (take 4 s) → d₂ ≡ over d₁ 4 (le16 (get_or sets.inputs 0 0)) → d₃ ≡ over d₂ 6 (entries_to (flow_of r) r s n) → d₄ ≡ over d₃ entries order
    → d₅ ≡ over d₄ head (take (length s - 4) (drop 4 s)) → d₅ ≡ over d 0 (plan_of r s)
unfolding plan_by
whole-plan {r} {s} {order} {n} eo l d {d₂ = d₂} entries head some h fits ee eh e₁ e₂ e₃ e₄ e₅ =
    let four : length (take 4 s) ≡ 4 = length-take-le 4 s h in
    let rest : take (length s - 4) (drop 4 s) ≡ drop 4 s = take_all (length s - 4) (drop 4 s) (omega (arith, length-drop 4 s)) in
    let a : List ℕ = take 4 s in
    let b : List ℕ = le16 (mask_of r.variables (LC (flow_of r))) in
    let c : List ℕ = entries_to (flow_of r) r s (size r) in
    let same : size r ≡ n = l.blocks in
    let many : length c ≡ 8 * size r = entries_length (flow_of r) r s (size r) in
    let e₃' = e₃ ∙ ap (λ k. over d₂ 6 (entries_to (flow_of r) r s k)) (sym same) in
    let s₁ : over (over d 0 a) 4 b ≡ over d 0 (a ++ b) = over-next d 0 a 4 b (omega arith) (omega arith) in
    let s₂ : over (over d 0 (a ++ b)) 6 c ≡ over d 0 ((a ++ b) ++ c) = over-next d 0 (a ++ b) 6 c (simp length-append (omega arith)) (simp length-append (omega arith)) in
    let s₃ : over (over d 0 ((a ++ b) ++ c)) entries order ≡ over d 0 (((a ++ b) ++ c) ++ order) =
    over-next d 0 ((a ++ b) ++ c) entries order (simp length-append (omega arith)) (simp length-append (omega arith)) in
    let s₄ : over (over d 0 (((a ++ b) ++ c) ++ order)) head (drop 4 s) ≡ over d 0 ((((a ++ b) ++ c) ++ order) ++ drop 4 s) =
    over-next d 0 (((a ++ b) ++ c) ++ order) head (drop 4 s) (simp length-append (omega arith)) (simp length-append (omega (arith, length-drop 4 s))) in
    rw (e₅, e₄, e₃', e₂, e₁, rest, l.columns.input 0 some, s₁, s₂, s₃, s₄, ← eo)
    (ap (over d 0) (append_assoc ((a ++ b) ++ c) order (drop 4 s) ∙ append_assoc (a ++ b) c (order ++ drop 4 s) ∙ append_assoc a b (c ++ (order ++ drop 4 s))))
