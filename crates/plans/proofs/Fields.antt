-- Where each number stands in a plan, and what a plan carries. Assumes nothing.
use Prim.Native.Nat.{ℕ, zero, suc, ◌+◌, ◌*◌, ◌≤◌, ◌<◌}
use mathlib.Core.Path.{◌≡◌, refl, sym, ap, ◌∙◌}
use mathlib.Core.List.{List, [], ◌++◌, append_assoc, append-nil}
use mathlib.Core.Logic.{⊎_elim}
use native.Mathlib.Omega.{arith}
use native.Mathlib.Nat.{le_of_suc-le-suc, eq-or-lt_of_le, zero-add}
use lib.ListN.{length, take, drop, get_or, length-append, length-drop, take-append-drop, get_or-append}
use lib.Seq.{take_at, drop_at, drop-drop, get_or-append-add, get_or-take, drop-append-le, length-take-le}
use Rattle.definitions.specs.Rule.{Rule, size}
use Rattle.definitions.specs.Grammar.{blocks_to}
use Rattle.definitions.specs.Columns.{Flow, LC}
use Rattle.definitions.specs.Plan.{le16, mask_of, order_bytes, bodies_from, entry_of, entries_to, plan_by, plan_size, word_at, bodies_at, carried}

-- a number's two bytes are the number
pub word_le16 : (n : ℕ) (xs : List ℕ) → word_at (le16 n ++ xs) 0 ≡ n
word_le16 n xs = omega arith

-- the word past a part is the word of what follows
pub word_past : (xs ys : List ℕ) (n i : ℕ) → length xs ≡ n → word_at (xs ++ ys) (n + i) ≡ word_at ys i
word_past xs ys n i e =
    let a : n + i + 1 ≡ length xs + (i + 1) = omega arith in
    let b : n + i ≡ length xs + i = omega arith in
    rw (a, b, get_or-append-add xs ys i 0, get_or-append-add xs ys (i + 1) 0)

-- ---- a plan's parts: the header, LC, the entries, the body
module _ (head entries body : List ℕ) (lc : ℕ) (four : length head ≡ 4) where
  abbrev parts : List ℕ
  parts = head ++ (le16 lc ++ (entries ++ body))

  parts-lc : word_at parts 4 ≡ lc
  parts-lc = word_past head (le16 lc ++ (entries ++ body)) 4 0 four ∙ word_le16 lc (entries ++ body)

  -- past the header and LC
  past_six : (i : ℕ) → word_at parts (6 + i) ≡ word_at (entries ++ body) i
  past_six i =
      let e : 6 + i ≡ 4 + (2 + i) = omega arith in
      rw e (word_past head (le16 lc ++ (entries ++ body)) 4 (2 + i) four ∙ word_past (le16 lc) (entries ++ body) 2 i refl)

  parts-body : (n : ℕ) → length entries ≡ n → drop (6 + n) parts ≡ body
  parts-body n e =
      rw (← append_assoc (le16 lc) entries body, ← append_assoc head (le16 lc ++ entries) body)
      (drop_at (head ++ (le16 lc ++ entries)) body (6 + n) (simp (length-append) (omega arith)))

-- the word i of the part x that stands at k in xs
word_in : (xs x rest body : List ℕ) (k i : ℕ) → drop k xs ≡ x ++ rest → k ≤ length xs → i + 1 < length x → word_at (xs ++ body) (k + i) ≡ word_at x i
word_in xs x rest body k i e h l =
    let f : xs ++ body ≡ take k xs ++ (x ++ (rest ++ body)) =
    ap (λ (ys : List ℕ). ys ++ body) (sym (take-append-drop k xs) ∙ ap (λ (ys : List ℕ). take k xs ++ ys) e)
    ∙ append_assoc (take k xs) (x ++ rest) body ∙ ap (λ (ys : List ℕ). take k xs ++ ys) (append_assoc x rest body) in
    rw f (word_past (take k xs) (x ++ (rest ++ body)) k i (length-take-le k xs h) ∙ rw (get_or-append x (rest ++ body) 0 i (omega arith), get_or-append x (rest ++ body) 0 (i + 1) l))

module _ (g : Flow) (r : Rule) (s : List ℕ) where
  entry_length : (b : ℕ) → length (entry_of g r s b) ≡ 8
  unfolding entry_of
  entry_length b = refl

  pub entries_length : (k : ℕ) → length (entries_to g r s k) ≡ 8 * k
  unfolding entries_to
  entries_length zero = refl
  entries_length (suc k) = simp (length-append, entries_length k, entry_length) (omega arith)

  -- the entries, from entry b on
  from-entry : (b k : ℕ) → b < k → (xs : List ℕ) × (drop (8 * b) (entries_to g r s k) ≡ entry_of g r s b ++ xs)
  unfolding entries_to
  from-entry b zero h = absurd (omega arith)
  from-entry b (suc k) h = ⊎_elim last (λ l. earlier l (from-entry b k l)) (eq-or-lt_of_le (le_of_suc-le-suc h))
    where
      last : b ≡ k → (xs : List ℕ) × (drop (8 * b) (entries_to g r s (suc k)) ≡ entry_of g r s b ++ xs)
      last e = ([], rw e (drop_at (entries_to g r s k) (entry_of g r s k) (8 * k) (entries_length k) ∙ sym (append-nil (entry_of g r s k))))

      earlier : b < k → (xs : List ℕ) × (drop (8 * b) (entries_to g r s k) ≡ entry_of g r s b ++ xs)
          → (xs : List ℕ) × (drop (8 * b) (entries_to g r s (suc k)) ≡ entry_of g r s b ++ xs)
      earlier l ih = (
        ih.0 ++ entry_of g r s k,
        drop-append-le (8 * b) (entries_to g r s k) (entry_of g r s k) (omega (arith, entries_length k)) ∙ rw ih.1 (append_assoc (entry_of g r s b) ih.0 (entry_of g r s k)),
      )

  pub plan-length : 4 ≤ length s → length (plan_by g r s) ≡ plan_size r (length s)
  unfolding plan_by
  plan-length h = simp (length-append, length-take-le 4 s h, length-drop, entries_length) (omega arith)

  -- the word i of entry b
  pub plan-entry : 4 ≤ length s → (b i : ℕ) → b < size r → i + 1 < 8 → word_at (plan_by g r s) (6 + (8 * b + i)) ≡ word_at (entry_of g r s b) i
  unfolding plan_by
  plan-entry h b i l j =
      let f = from-entry b (size r) l in
      past_six (take 4 s) (entries_to g r s (size r)) (order_bytes r ++ drop 4 s) (mask_of r.variables (LC g)) (length-take-le 4 s h) (8 * b + i)
      ∙ word_in (entries_to g r s (size r)) (entry_of g r s b) f.0 (order_bytes r ++ drop 4 s) (8 * b) i f.1 (omega (arith, entries_length (size r))) (omega (arith, entry_length b))

  pub plan-lc : 4 ≤ length s → word_at (plan_by g r s) 4 ≡ mask_of r.variables (LC g)
  unfolding plan_by
  plan-lc h = parts-lc (take 4 s) (entries_to g r s (size r)) (order_bytes r ++ drop 4 s) (mask_of r.variables (LC g)) (length-take-le 4 s h)

  -- a plan's header is the rule's, its entries are followed by the order, and that by what follows the rule's header
  plan-head : 4 ≤ length s → take 4 (plan_by g r s) ≡ take 4 s
  unfolding plan_by
  plan-head h = take_at (take 4 s) (le16 (mask_of r.variables (LC g)) ++ (entries_to g r s (size r) ++ (order_bytes r ++ drop 4 s))) 4 (length-take-le 4 s h)

  plan-rest : 4 ≤ length s → drop (6 + 8 * size r) (plan_by g r s) ≡ order_bytes r ++ drop 4 s
  unfolding plan_by
  plan-rest h = parts-body (take 4 s) (entries_to g r s (size r)) (order_bytes r ++ drop 4 s) (mask_of r.variables (LC g)) (length-take-le 4 s h) (8 * size r) (entries_length (size r))

  pub plan-order : 4 ≤ length s → take (length (order_bytes r)) (drop (6 + 8 * size r) (plan_by g r s)) ≡ order_bytes r
  plan-order h = ap (take (length (order_bytes r))) (plan-rest h) ∙ take_at (order_bytes r) (drop 4 s) (length (order_bytes r)) refl

  plan-body : 4 ≤ length s → drop (bodies_from r) (plan_by g r s) ≡ drop 4 s
  plan-body h =
      sym (drop-drop (length (order_bytes r)) (6 + 8 * size r) (plan_by g r s))
      ∙ ap (drop (length (order_bytes r))) (plan-rest h) ∙ drop_at (order_bytes r) (drop 4 s) (length (order_bytes r)) refl

  -- a byte of the header
  pub plan-byte : 4 ≤ length s → (i : ℕ) → i < 4 → get_or (plan_by g r s) i 0 ≡ get_or s i 0
  plan-byte h i l = sym (get_or-take 4 (plan_by g r s) i 0 l) ∙ ap (λ (xs : List ℕ). get_or xs i 0) (plan-head h) ∙ get_or-take 4 s i 0 l

  -- block 0 begins right after the header, so its offset is past the entries and the order
  pub plan-bodies : 4 ≤ length s → 1 ≤ size r → bodies_at (plan_by g r s) ≡ bodies_from r
  unfolding entry_of blocks_to
  plan-bodies h l = plan-entry h 0 0 l (omega arith) ∙ word_le16 _ [] ∙ zero-add (bodies_from r)

  -- a rule's plan carries the rule
  pub plan-carries : 4 ≤ length s → 1 ≤ size r → carried (plan_by g r s) ≡ s
  plan-carries h l = rw (plan-bodies h l, plan-head h, plan-body h) (take-append-drop 4 s)
