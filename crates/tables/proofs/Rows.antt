-- Laws of lists of rows' states and of the words that hold them. Assumes nothing.
use mathlib.Core.Path.{◌≡◌, refl, sym, ap, subst, ◌∙◌}
use mathlib.Core.Bool.{Bool, true, false, cond}
use Prim.Native.Nat.{ℕ, ◌+◌, ◌*◌, ◌≤◌, ◌<◌, max}
use native.Mathlib.Omega.{arith}
use mathlib.Core.List.{List, [], ◌∷◌, ◌++◌, append_assoc}
use lib.ListN.{length, length-append}
use Rattle.definitions.specs.Values.{Word}
use Rattle.definitions.specs.Rule.{Rule}
use Rattle.definitions.specs.Direct.{State, goes_on}
use Rattle.definitions.specs.Batch.{map_from, record_size, record_of, records_of, lines_from, live_of, most_of}
use Rattle.columns.specs.Row.{SoundNow}
use Rattle.layouts.specs.Layout.{width, line_in, lines_in}
use Rattle.layouts.proofs.Looks.{record_length, line-length}
use Rattle.tables.specs.Table.{EachRow}

-- what the laws of a pass over all rows want of the step g of each row's number
pub record Stepwise (r : Rule) (q : ℕ) (g : ℕ → State → State) : Type 0 where
  pub done : (i : ℕ) (s : State) → goes_on s.finish ≡ false → g i s ≡ s
  pub sound : (i : ℕ) (s : State) → SoundNow r q s → SoundNow r q (g i s)
  pub begun : (i : ℕ) (s : State) → s.begun ≤ (g i s).begun

-- ---- what holds of each row
module _ (P : ℕ → State → Type 0) where
  pub each_left : (k : ℕ) (a b : List State) → EachRow P k (a ++ b) → EachRow P k a
  unfolding EachRow
  each_left k [] b h = tt
  each_left k (s ∷ a) b h = (h.0, each_left (k + 1) a b h.1)

  -- the first row of the second part
  pub each_at : (k : ℕ) (a : List State) (s : State) (b : List State) → EachRow P k (a ++ s ∷ b) → P (k + length a) s
  unfolding EachRow
  each_at k [] s b h =
      let e : k ≡ k + length {A = State} [] = omega arith in
      subst (λ (n : ℕ). P n s) e h.0
  each_at k (x ∷ a) s b h =
      let e : k + 1 + length a ≡ k + length (x ∷ a) = omega arith in
      subst (λ (n : ℕ). P n s) e (each_at (k + 1) a s b h.1)

  pub each_snoc : (k : ℕ) (a : List State) (s : State) → EachRow P k a → P (k + length a) s → EachRow P k (a ++ s ∷ [])
  unfolding EachRow
  each_snoc k [] s h p =
      let e : k + length {A = State} [] ≡ k = omega arith in
      (subst (λ (n : ℕ). P n s) e p, tt)
  each_snoc k (x ∷ a) s h p =
      let e : k + length (x ∷ a) ≡ k + 1 + length a = omega arith in
      (h.0, each_snoc (k + 1) a s h.1 (subst (λ (n : ℕ). P n s) e p))

  pub each_map : (Q : ℕ → State → Type 0) (g : ℕ → State → State) → ((i : ℕ) (s : State) → P i s → Q i (g i s)) → (k : ℕ) (ss : List State) → EachRow P k ss → EachRow Q k (map_from g k ss)
  unfolding EachRow map_from
  each_map Q g t k [] h = tt
  each_map Q g t k (s ∷ ss) h = (t k s h.0, each_map Q g t (k + 1) ss h.1)

-- ---- rows that each go on by a step of their number
module _ (g : ℕ → State → State) where
  pub map-append : (k : ℕ) (a b : List State) → map_from g k (a ++ b) ≡ map_from g k a ++ map_from g (k + length a) b
  unfolding map_from
  map-append k [] b =
      let e : k ≡ k + length {A = State} [] = omega arith in
      ap (λ (n : ℕ). map_from g n b) e
  map-append k (s ∷ a) b =
      let e : k + 1 + length a ≡ k + length (s ∷ a) = omega arith in
      ap (λ (l : List State). g k s ∷ l) (map-append (k + 1) a b ∙ ap (λ (n : ℕ). map_from g (k + 1) a ++ map_from g n b) e)

  pub map_snoc : (a : List State) (s : State) → map_from g 0 (a ++ s ∷ []) ≡ map_from g 0 a ++ g (length a) s ∷ []
  unfolding map_from
  map_snoc a s =
      let e : 0 + length a ≡ length a = omega arith in
      map-append 0 a (s ∷ []) ∙ ap (λ (n : ℕ). map_from g 0 a ++ g n s ∷ []) e

  pub map-length : (k : ℕ) (ss : List State) → length (map_from g k ss) ≡ length ss
  unfolding map_from
  map-length k [] = refl
  map-length k (s ∷ ss) = omega (arith, map-length (k + 1) ss)

-- steps that agree on the rows' numbers
pub map-alike : (g h : ℕ → State → State) (k : ℕ) (ss : List State) → ((i : ℕ) (s : State) → i < k + length ss → g i s ≡ h i s) → map_from g k ss ≡ map_from h k ss
unfolding map_from
map-alike g h k [] e = refl
map-alike g h k (s ∷ ss) e = rw (e k s (omega arith)) (ap (λ (l : List State). h k s ∷ l) (map-alike g h (k + 1) ss (λ i s l. e i s (omega arith))))

-- ---- the layouts, of two lists one after the other
pub records-append : (q : ℕ) (a b : List State) → records_of q (a ++ b) ≡ records_of q a ++ records_of q b
unfolding records_of
records-append q [] b = refl
records-append q (s ∷ a) b = rw (records-append q a b) (sym (append_assoc (record_of q s) (records_of q a) (records_of q b)))

pub lines-append : (r : Rule) (k : ℕ) (a b : List State) → lines_in r k (a ++ b) ≡ lines_in r k a ++ lines_in r (k + length a) b
unfolding lines_from
lines-append r k [] b =
    let e : k ≡ k + length {A = State} [] = omega arith in
    ap (λ (m : ℕ). lines_in r m b) e
lines-append r k (s ∷ a) b =
    let e : k + 1 + length a ≡ k + length (s ∷ a) = omega arith in
    let h = cond (goes_on s.finish) (line_in r k s) [] in
    ap (λ (l : List Word). h ++ l) (lines-append r (k + 1) a b ∙ ap (λ (m : ℕ). lines_in r (k + 1) a ++ lines_in r m b) e)
    ∙ sym (append_assoc h (lines_in r (k + 1) a) (lines_in r (k + length (s ∷ a)) b))

pub live-append : (a b : List State) → live_of (a ++ b) ≡ live_of a + live_of b
unfolding live_of
live-append [] b = omega arith
live-append (s ∷ a) b = omega (arith, live-append a b)

pub records-length : (r : Rule) (q k : ℕ) (ss : List State) → EachRow (λ _ s. SoundNow r q s) k ss → length (records_of q ss) ≡ length ss * record_size q
unfolding records_of EachRow
records-length r q k [] h = omega arith
records-length r q k (s ∷ ss) h = omega (arith, length-append (record_of q s) (records_of q ss), record_length r q s.begun s h.0, records-length r q (k + 1) ss h.1)

pub most-append : (a b : List State) → most_of (a ++ b) ≡ max (most_of a) (most_of b)
unfolding most_of
most-append [] b = omega arith
most-append (s ∷ a) b = omega (arith, most-append a b)

pub lines-length : (r : Rule) (k : ℕ) (ss : List State) → length (lines_in r k ss) ≡ live_of ss * width r
unfolding lines_from live_of
lines-length r k [] = omega arith
lines-length r k (s ∷ ss) = go (goes_on s.finish) (lines-length r (k + 1) ss)
  where
    go : (b : Bool) → length (lines_in r (k + 1) ss) ≡ live_of ss * width r → length (cond b (line_in r k s) [] ++ lines_in r (k + 1) ss) ≡ (cond b 1 0 + live_of ss) * width r
    go true e = omega (arith, length-append (line_in r k s) (lines_in r (k + 1) ss), line-length r k s, e)
    go false e = omega (arith, e)

-- ---- rows that have ended
pub quiet-lines : (r : Rule) (k : ℕ) (ss : List State) → live_of ss ≡ 0 → lines_in r k ss ≡ []
unfolding lines_from live_of
quiet-lines r k [] h = refl
quiet-lines r k (s ∷ ss) h = go (goes_on s.finish) refl (quiet-lines r (k + 1) ss)
  where
    go : (b : Bool) → goes_on s.finish ≡ b → (live_of ss ≡ 0 → lines_in r (k + 1) ss ≡ []) → cond (goes_on s.finish) (line_in r k s) [] ++ lines_in r (k + 1) ss ≡ []
    go true e rest = absurd (omega (arith, rw e at h))
    go false e rest = rw e (rest (omega (arith, rw e at h)))

pub quiet-map : (g : ℕ → State → State) → ((i : ℕ) (s : State) → goes_on s.finish ≡ false → g i s ≡ s) → (k : ℕ) (ss : List State) → live_of ss ≡ 0 → map_from g k ss ≡ ss
unfolding live_of map_from
quiet-map g d k [] h = refl
quiet-map g d k (s ∷ ss) h = go (goes_on s.finish) refl (quiet-map g d (k + 1) ss)
  where
    go : (b : Bool) → goes_on s.finish ≡ b → (live_of ss ≡ 0 → map_from g (k + 1) ss ≡ ss) → g k s ∷ map_from g (k + 1) ss ≡ s ∷ ss
    go true e rest = absurd (omega (arith, rw e at h))
    go false e rest = rw (d k s e, rest (omega (arith, rw e at h)))

pub one : (b : Bool) → cond b 1 0 ≤ 1
one true = omega arith
one false = omega arith

pub live-length : (ss : List State) → live_of ss ≤ length ss
unfolding live_of
live-length [] = omega arith
live-length (s ∷ ss) = omega (arith, one (goes_on s.finish), live-length ss)

-- a round ends rows and starts none
pub live-less : (g : ℕ → State → State) → ((i : ℕ) (s : State) → goes_on s.finish ≡ false → g i s ≡ s) → (k : ℕ) (ss : List State) → live_of (map_from g k ss) ≤ live_of ss
unfolding live_of map_from
live-less g d k [] = omega arith
live-less g d k (s ∷ ss) = go (goes_on s.finish) refl (live-less g d (k + 1) ss)
  where
    go : (b : Bool) → goes_on s.finish ≡ b → live_of (map_from g (k + 1) ss) ≤ live_of ss → cond (goes_on (g k s).finish) 1 0 + live_of (map_from g (k + 1) ss) ≤ cond (goes_on s.finish) 1 0 + live_of ss
    go true e h = rw e (omega (arith, one (goes_on (g k s).finish), h))
    go false e h = rw (d k s e, e) (omega (arith, h))

-- the next row that goes on
pub record Next (ss : List State) : Type 0 where
  pub done : List State
  pub row : State
  pub more : List State
  pub split : ss ≡ done ++ row ∷ more
  pub quiet : live_of done ≡ 0
  pub going : goes_on row.finish ≡ true

next_skip : (s : State) (ss : List State) → goes_on s.finish ≡ false → Next ss → Next (s ∷ ss)
unfolding live_of
next_skip s ss e n = record {
  done = s ∷ n.done;
  row = n.row;
  more = n.more;
  split = ap (λ (l : List State). s ∷ l) n.split;
  quiet = rw e (omega (arith, n.quiet));
  going = n.going;
}

pub next : (ss : List State) → 0 < live_of ss → Next ss
unfolding live_of
next [] h = absurd (omega arith)
next (s ∷ ss) h = go (goes_on s.finish) refl (next ss)
  where
    go : (b : Bool) → goes_on s.finish ≡ b → (0 < live_of ss → Next ss) → Next (s ∷ ss)
    go true e rest = record { done = []; row = s; more = ss; split = refl; quiet = refl; going = e }
    go false e rest = next_skip s ss e (rest (omega (arith, rw e at h)))

-- ---- the most rounds begun, when one row has begun more
pub most-more : (a b : List State) (s s' : State) → s.begun ≤ s'.begun → most_of (a ++ s' ∷ b) ≡ max (most_of (a ++ s ∷ b)) s'.begun
unfolding most_of
most-more [] b s s' h = omega arith
most-more (x ∷ a) b s s' h = omega (arith, most-more a b s s' h)
