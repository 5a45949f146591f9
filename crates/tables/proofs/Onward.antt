-- Carrying on from what a pass left: m i rounds of row i and then k i are m i + k i, so a pass by N is N passes by one round of LOOP. Assumes nothing.
use mathlib.Core.Path.{◌≡◌, refl, ap, ◌∙◌}
use Prim.Native.Nat.{ℕ, ◌+◌, ◌*◌, ◌≤◌}
use native.Mathlib.Omega.{arith}
use native.Mathlib.Nat.{mul-le-mul_right}
use mathlib.Core.List.{List, [], ◌∷◌, ◌++◌}
use Rattle.definitions.specs.Values.{Word}
use Rattle.definitions.specs.Rule.{Rule}
use Rattle.definitions.specs.Direct.{State, after}
use Rattle.definitions.specs.Batch.{map_from, records_of, live_of, most_of}
use Rattle.columns.specs.Proper.{Proper}
use Rattle.columns.specs.Row.{SoundNow}
use Rattle.columns.proofs.Rows.{after_add}
use Rattle.layouts.specs.Layout.{width, lines_in}
use Rattle.layouts.proofs.Buffers.{drop_later}
use Rattle.tables.specs.Table.{Table, AfterPass}
use Rattle.tables.specs.declared.Standing.{Standing}
use Rattle.tables.proofs.Rows.{each_map, map-length, live-less}
use Rattle.tables.proofs.Turns.{step}

map_add : (r : Rule) (q : ℕ) (m k : ℕ → ℕ) (n : ℕ) (ss : List State) → map_from (λ i. after r q (k i)) n (map_from (λ i. after r q (m i)) n ss) ≡ map_from (λ i. after r q (m i + k i)) n ss
unfolding map_from
map_add r q m k n [] = refl
map_add r q m k n (s ∷ ss) = rw (after_add r q (m n) (k n) s) (ap (λ (l : List State). after r q (k n) (after r q (m n) s) ∷ l) (map_add r q m k (n + 1) ss))

module _ {r : Rule} {q : ℕ} {b : Standing} {out work : List Word} (m : ℕ → ℕ) (ok : Proper r) (t : Table r q b.live out work)
    {a : Standing} {out' work' : List Word} (p : AfterPass r q b out work t (λ i. after r q (m i)) a out' work') where
  abbrev by-m : ℕ → State → State
  by-m i = after r q (m i)

  -- what is left is a table again
  abbrev pub left-table : Table r q a.live out' work'
  left-table = record {
    rows = map_from by-m 0 t.rows;
    tail = t.tail;
    few = omega (arith, map-length by-m 0 t.rows, t.few);
    sound = each_map (λ _ s. SoundNow r q s) (λ _ s. SoundNow r q s) by-m (step r q ok m).sound 0 t.rows t.sound;
    records = p.records;
    lines = p.lines;
    count = p.count;
  }

  pub onward : (k : ℕ → ℕ) (c : Standing) (out'' work'' : List Word) → AfterPass r q a out' work' left-table (λ i. after r q (k i)) c out'' work''
      → AfterPass r q b out work t (λ i. after r q (m i + k i)) c out'' work''
  onward k c out'' work'' next =
      let e : map_from (λ i. after r q (k i)) 0 (map_from by-m 0 t.rows) ≡ map_from (λ i. after r q (m i + k i)) 0 t.rows = map_add r q m k 0 t.rows in
      let fewer : a.live ≤ b.live = omega (arith, p.count, t.count, live-less by-m (step r q ok m).done 0 t.rows) in
      record {
        records = next.records ∙ ap (λ (l : List State). records_of q l ++ t.tail) e;
        lines = next.lines ∙ ap (lines_in r 0) e;
        beyond = drop_later (a.live * width r) (b.live * width r) work'' work' (mul-le-mul_right (width r) fewer) next.beyond ∙ p.beyond;
        count = next.count ∙ ap live_of e;
        greatest = λ z. next.greatest (p.greatest z) ∙ ap most_of e;
      }
