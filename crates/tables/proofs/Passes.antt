-- One pass over the table: what holds between two turns, and the laws that carry it on. Assumes nothing.
use mathlib.Core.Path.{◌≡◌, refl, sym, ap, subst, ◌∙◌}
use mathlib.Core.Bool.{Bool, true, false, cond}
use Prim.Native.Nat.{ℕ, ◌+◌, ◌*◌, ◌≤◌, ◌<◌, max}
use native.Mathlib.Omega.{arith}
use native.Mathlib.Nat.{mul-le-mul_right}
use mathlib.Core.List.{List, [], ◌∷◌, ◌++◌, append_assoc, append-nil}
use lib.ListN.{length, take, drop, length-append, take-append-drop}
use lib.Seq.{take_at, drop_at, drop-drop}
use Rattle.buffers.specs.Words.{over}
use Rattle.buffers.proofs.Laws.{drop-over}
use Rattle.definitions.specs.Values.{Word}
use Rattle.definitions.specs.Rule.{Rule}
use Rattle.definitions.specs.Direct.{State, goes_on}
use Rattle.definitions.specs.Batch.{map_from, record_size, record_of, records_of, lines_from, live_of, most_of}
use Rattle.definitions.specs.Finder.{most_rows}
use Rattle.columns.specs.Row.{SoundNow}
use Rattle.layouts.specs.Layout.{width, line_in, lines_in}
use Rattle.layouts.specs.Rows.{RowAt}
use Rattle.layouts.proofs.Buffers.{over_mid, part_mid, part-fits, take_over_all}
use Rattle.layouts.proofs.Looks.{record_length, line-length}
use Rattle.tables.specs.Table.{EachRow, Turned, Table, AfterPass}
use Rattle.tables.specs.declared.Stage.{Stage}
use Rattle.tables.specs.declared.Standing.{Standing}
use Rattle.tables.proofs.Rows.{Stepwise, each_left, each_at, each_map, map-append, map_snoc, map-length, records-append, lines-append, live-append, records-length, quiet-lines, quiet-map, live-length, live-less, Next, next, most-more}

-- a line is kept exactly if its row goes on
pub one_more : (k k' : ℕ) (on : Bool) → on ≡ true → k' ≡ k + 1 → k' ≡ k + cond on 1 0
one_more k k' on z h = rw z h

pub no_more : (k k' : ℕ) (on : Bool) → on ≡ false → k' ≡ k → k' ≡ k + cond on 1 0
no_more k k' on z h = rw z (omega arith)

module _ (r : Rule) (q : ℕ) (g : ℕ → State → State) (b : Standing) (out work : List Word) (t : Table r q b.live out work) where
  -- the rows `done` have gone on, and `left` have not. The first `kept` lines are those of the rows done that still go on; from line i on stand those left
  pub record Mid (done left : List State) (i kept top : ℕ) (out' work' : List Word) : Type 0 where
    pub split : t.rows ≡ done ++ left
    pub records : out' ≡ records_of q (map_from g 0 done ++ left) ++ t.tail
    pub lines : take (kept * width r) work' ≡ lines_in r 0 (map_from g 0 done)
    pub ahead : drop (i * width r) work' ≡ lines_in r (length done) left ++ drop (b.live * width r) work
    pub count : kept ≡ live_of (map_from g 0 done)
    pub passed : i ≡ live_of done
    pub greatest : b.most ≡ most_of t.rows → top ≡ most_of (map_from g 0 done ++ left)

  -- some rows are done
  pub record Between (i kept top : ℕ) (out' work' : List Word) : Type 0 where
    pub done : List State
    pub left : List State
    pub mid : Mid done left i kept top out' work'

  -- and the next one that goes on is to take its turn
  pub record Ready (i kept top : ℕ) (out' work' : List Word) : Type 0 where
    pub done : List State
    pub row : State
    pub more : List State
    pub going : goes_on row.finish ≡ true
    pub mid : Mid done (row ∷ more) i kept top out' work'

pub few-live : {r : Rule} {q live : ℕ} {out work : List Word} → Table r q live out work → live ≤ most_rows
few-live t = omega (arith, t.count, t.few, live-length t.rows)

module _ {r : Rule} {q : ℕ} {g : ℕ → State → State} {out work : List Word} (sw : Stepwise r q g) (b : Standing) (t : Table r q b.live out work) where
  abbrev live : ℕ
  live = b.live

  abbrev At : List State → List State → ℕ → ℕ → ℕ → List Word → List Word → Type 0
  At = Mid r q g b out work t

  pub mid_start : Between r q g b out work t 0 0 b.most out work
  unfolding live_of lines_from map_from
  mid_start =
      let none : 0 * width r ≡ 0 = omega arith in
      record {
        done = [];
        left = t.rows;
        mid = record {
          split = refl;
          records = t.records;
          lines = rw none;
          ahead = rw none (sym (take-append-drop (live * width r) work) ∙ ap (λ (l : List Word). l ++ drop (live * width r) work) t.lines);
          count = refl;
          passed = refl;
          greatest = λ e. e;
        };
      }

  module _ {i kept top : ℕ} {out' work' : List Word} where
    -- rows that have ended are done
    mid-quiet : (done fin left : List State) → live_of fin ≡ 0 → At done (fin ++ left) i kept top out' work' → At (done ++ fin) left i kept top out' work'
    mid-quiet done fin left h k =
        let e : map_from g 0 (done ++ fin) ≡ map_from g 0 done ++ fin = map-append g 0 done fin ∙ ap (λ (l : List State). map_from g 0 done ++ l) (quiet-map g sw.done (0 + length done) fin h) in
        let s : map_from g 0 done ++ (fin ++ left) ≡ map_from g 0 (done ++ fin) ++ left = rw e (sym (append_assoc (map_from g 0 done) fin left)) in
        let a : lines_in r (length done) (fin ++ left) ≡ lines_in r (length (done ++ fin)) left =
        lines-append r (length done) fin left ∙ rw (quiet-lines r (length done) fin h, length-append) in
        record {
          split = k.split ∙ sym (append_assoc done fin left);
          records = k.records ∙ ap (λ (l : List State). records_of q l ++ t.tail) s;
          lines = k.lines ∙ rw (e, lines-append, quiet-lines r (0 + length (map_from g 0 done)) fin h) (sym (append-nil (lines_in r 0 (map_from g 0 done))));
          ahead = k.ahead ∙ ap (λ (l : List Word). l ++ drop (live * width r) work) a;
          count = rw (e, live-append) (omega (arith, k.count));
          passed = rw live-append (omega (arith, k.passed));
          greatest = λ p. k.greatest p ∙ ap most_of s;
        }

    pub ready : i < live → Between r q g b out work t i kept top out' work' → Ready r q g b out work t i kept top out' work'
    ready h w =
        let k = w.mid in
        let x : Next w.left = next w.left (omega (arith, live-append w.done w.left, ap live_of k.split, t.count, k.passed)) in
        let k' : At w.done (x.done ++ x.row ∷ x.more) i kept top out' work' = rw x.split at k in
        record { done = w.done ++ x.done; row = x.row; more = x.more; going = x.going; mid = mid-quiet w.done x.done (x.row ∷ x.more) x.quiet k' }

    module _ (done : List State) (s : State) (more : List State) (on : goes_on s.finish ≡ true) (d : At done (s ∷ more) i kept top out' work') where
      -- what holds of each row, of this one
      here-at : (P : ℕ → State → Type 0) → EachRow P 0 t.rows → P (length done) s
      here-at P h =
          let e : 0 + length done ≡ length done = omega arith in
          subst (λ (k : ℕ). P k s) e (each_at P 0 done s more (rw d.split at h))

      pub sound : SoundNow r q s
      sound = here-at (λ _ x. SoundNow r q x) t.sound

      pub place : length (records_of q (map_from g 0 done)) ≡ length done * record_size q
      place =
          records-length r q 0 (map_from g 0 done) (each_map (λ _ x. SoundNow r q x) (λ _ x. SoundNow r q x) g sw.sound 0 done (each_left (λ _ x. SoundNow r q x) 0 done (s ∷ more) (rw d.split at t.sound)))
          ∙ rw map-length

      -- the records, about row s
      pub around : (x : State) → records_of q (map_from g 0 done ++ x ∷ more) ++ t.tail ≡ records_of q (map_from g 0 done) ++ (record_of q x ++ (records_of q more ++ t.tail))
      unfolding records_of
      around x =
          ap (λ (l : List Word). l ++ t.tail) (records-append q (map_from g 0 done) (x ∷ more))
          ∙ append_assoc (records_of q (map_from g 0 done)) (record_of q x ++ records_of q more) t.tail
          ∙ ap (λ (l : List Word). records_of q (map_from g 0 done) ++ l) (append_assoc (record_of q x) (records_of q more) t.tail)

      -- the lines, from row s on
      rest : List Word
      rest = lines_in r (length done + 1) more ++ drop (live * width r) work

      first : drop (i * width r) work' ≡ line_in r (length done) s ++ rest
      unfolding lines_from rest
      first = d.ahead ∙ rw (on) (append_assoc (line_in r (length done) s) (lines_in r (length done + 1) more) (drop (live * width r) work))

      pub here : take (width r) (drop (i * width r) work') ≡ line_in r (length done) s
      here = rw first (take_at (line_in r (length done) s) rest (width r) (line-length r (length done) s))

      abbrev row_at : (size : ℕ) → size ≡ width r → RowAt r q (i * size) out' work'
      row_at size e = record {
        row = length done;
        state = s;
        few = omega (arith, t.few, ap length d.split, length-append done (s ∷ more));
        sound = sound;
        going = on;
        line = rw e here;
        record' = rw (d.records, around s) (part_mid (records_of q (map_from g 0 done)) (record_of q s) (records_of q more ++ t.tail) (length done * record_size q) (record_size q) place (record_length r q s.begun s sound));
      }

      kept-few : kept ≤ i
      kept-few = omega (arith, live-less g sw.done 0 done, d.count, d.passed)

      -- where it goes
      abbrev s' : State
      s' = g (length done) s

      abbrev line : List Word
      line = line_in r (length done) s'

      room : kept * width r + length line ≤ (i + 1) * width r
      room = omega (arith, line-length r (length done) s', mul-le-mul_right (width r) kept-few)

      inside : (i + 1) * width r ≤ length work'
      inside = omega (arith, part-fits work' (line_in r (length done) s) (i * width r) (width r) here (line-length r (length done) s) (omega arith))

      -- after its turn
      module _ (size : ℕ) (es : size ≡ width r) (h : Stage) (out'' work'' : List Word) (u : Turned r q (length done) (kept * size) s' out' work' h out'' work'') where
        more-done : map_from g 0 (done ++ s ∷ []) ≡ map_from g 0 done ++ s' ∷ []
        more-done = map_snoc g done s

        again : map_from g 0 (done ++ s ∷ []) ++ more ≡ map_from g 0 done ++ s' ∷ more
        again = rw more-done (append_assoc (map_from g 0 done) (s' ∷ []) more)

        -- its line is kept exactly if it goes on
        kept-lines : (kept' : ℕ) (b : Bool) → goes_on s'.finish ≡ b → kept' ≡ kept + cond b 1 0 → take (kept' * width r) work'' ≡ lines_in r 0 (map_from g 0 done) ++ cond b line []
        kept-lines kept' true e k =
            let w : work'' ≡ over work' (kept * width r) line = rw (e, es) at u.line in
            let z : kept' * width r ≡ kept * width r + length line = rw k (omega (arith, line-length r (length done) s')) in
            rw (z, w) (take_over_all work' (kept * width r) line (omega (arith, room, inside)) ∙ ap (λ (l : List Word). l ++ line) d.lines)
        kept-lines kept' false e k =
            let w : work'' ≡ work' = rw e at u.line in
            let z : kept' ≡ kept = omega arith in
            rw (z, w) (d.lines ∙ sym (append-nil (lines_in r 0 (map_from g 0 done))))

        tail-line : lines_in r 0 (map_from g 0 (done ++ s ∷ [])) ≡ lines_in r 0 (map_from g 0 done) ++ cond (goes_on s'.finish) line []
        unfolding lines_from
        tail-line =
            let z : 0 + length (map_from g 0 done) ≡ length done = omega (arith, map-length g 0 done) in
            rw more-done (lines-append r 0 (map_from g 0 done) (s' ∷ []) ∙ rw (z, append-nil (cond (goes_on s'.finish) line [])))

        untouched : (b : Bool) → goes_on s'.finish ≡ b → drop ((i + 1) * width r) work'' ≡ drop ((i + 1) * width r) work'
        untouched true e =
            let w : work'' ≡ over work' (kept * width r) line = rw (e, es) at u.line in
            rw w (drop-over work' (kept * width r) line ((i + 1) * width r) room (omega (arith, room, inside)))
        untouched false e = ap (drop ((i + 1) * width r)) (rw e at u.line)

        beyond : drop ((i + 1) * width r) work'' ≡ lines_in r (length (done ++ s ∷ [])) more ++ drop (live * width r) work
        unfolding rest
        beyond =
            let e : (i + 1) * width r ≡ i * width r + width r = omega arith in
            let k : length done + 1 ≡ length (done ++ s ∷ []) = omega (arith, length-append done (s ∷ [])) in
            untouched (goes_on s'.finish) refl
            ∙ ap (λ (j : ℕ). drop j work') e ∙ sym (drop-drop (width r) (i * width r) work') ∙ ap (drop (width r)) first
            ∙ drop_at (line_in r (length done) s) rest (width r) (line-length r (length done) s)
            ∙ ap (λ (j : ℕ). lines_in r j more ++ drop (live * width r) work) k

        turned : (kept' top' : ℕ) → kept' ≡ kept + cond (goes_on h.finish) 1 0 → top' ≡ max top h.begun → Between r q g b out work t (i + 1) kept' top' out'' work''
        unfolding lines_from live_of
        turned kept' top' ek et =
            let ek' : kept' ≡ kept + cond (goes_on s'.finish) 1 0 = rw u.finish' at ek in
            record {
              done = done ++ s ∷ [];
              left = more;
              mid = record {
                split = d.split ∙ sym (append_assoc done (s ∷ []) more);
                records =
                    u.record' ∙ rw (d.records, around s) (over_mid (records_of q (map_from g 0 done)) (record_of q s) (records_of q more ++ t.tail) (record_of q s') (length done * record_size q) place (record_length r q s'.begun s' (sw.sound (length done) s sound) ∙ sym (record_length r q s.begun s sound)))
                    ∙ sym (around s') ∙ ap (λ (l : List State). records_of q l ++ t.tail) (sym again);
                lines = kept-lines kept' (goes_on s'.finish) refl ek' ∙ sym tail-line;
                ahead = beyond;
                count = rw (more-done, live-append) (omega (arith, ek', d.count));
                passed = rw (live-append, on) (omega (arith, d.passed));
                greatest = λ p.
                    et ∙ ap (λ (x : ℕ). max top x) u.begun' ∙ ap (λ (x : ℕ). max x s'.begun) (d.greatest p)
                    ∙ sym (most-more (map_from g 0 done) more s s' (sw.begun (length done) s)) ∙ ap most_of (sym again);
              };
            }

    module _ (d : Ready r q g b out work t i kept top out' work') where
      -- the row, where the code finds it: the size of a line is in its hands
      unfoldable pub mid_row : (size : ℕ) → size ≡ width r → RowAt r q (i * size) out' work'
      mid_row = row_at d.done d.row d.more d.going d.mid

      module _ (size : ℕ) (e : size ≡ width r) where
        -- what holds of each row, of this one
        pub mid-each : (P : ℕ → State → Type 0) → EachRow P 0 t.rows → P (mid_row size e).row (mid_row size e).state
        unfolding mid_row
        mid-each = here-at d.done d.row d.more d.going d.mid

        pub mid-turn : (h : Stage) (out'' work'' : List Word) → Turned r q (mid_row size e).row (kept * size) (g (mid_row size e).row (mid_row size e).state) out' work' h out'' work''
            → (kept' top' : ℕ) → kept' ≡ kept + cond (goes_on h.finish) 1 0 → top' ≡ max top h.begun → Between r q g b out work t (i + 1) kept' top' out'' work''
        unfolding mid_row
        mid-turn = turned d.done d.row d.more d.going d.mid size e

  -- at the end of the pass
  pub mid_end : {i kept top : ℕ} {out' work' : List Word} → i ≡ live → Between r q g b out work t i kept top out' work' → AfterPass r q b out work t g (record { live = kept; most = top }) out' work'
  unfolding lines_from
  mid_end {i} {kept} {top} {out'} {work'} ei w =
      let k = w.mid in
      let h : live_of w.left ≡ 0 = omega (arith, live-append w.done w.left, ap live_of k.split, t.count, k.passed) in
      let k₀ : At w.done (w.left ++ []) i kept top out' work' = rw (append-nil w.left) k in
      let e : At t.rows [] i kept top out' work' = subst (λ (l : List State). At l [] i kept top out' work') (sym k.split) (mid-quiet w.done w.left [] h k₀) in
      record {
        records = e.records ∙ rw append-nil;
        lines = e.lines;
        beyond = rw ei at e.ahead;
        count = e.count;
        greatest = λ p. e.greatest p ∙ rw append-nil;
      }
