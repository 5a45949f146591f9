-- The answers of the readers of blocks and of the rule from the answers of what they call. Assumes nothing.
use Prim.Native.Nat.{ℕ, zero, suc, ◌+◌, ◌-◌, ◌<◌, ◌≤◌}
use native.Mathlib.Nat.{add-zero, add-suc}
use native.Mathlib.Numerals.{add-one}
use native.Mathlib.Omega.{arith}
use mathlib.Core.Path.{◌≡◌, refl, sym, ap, ◌∙◌}
use mathlib.Core.Bool.{Bool, true, false, cond, not}
use mathlib.Core.List.{List, [], ◌∷◌, ◌++◌}
use lib.Dec.{ltb, leb, eqb}
use lib.ListN.{length}
use borrow.Author.Tests.{ltb-false, lt-ltb, le-ltb}
use Rattle.definitions.specs.Rule.{Block}
use Rattle.definitions.specs.Grammar.{Got, got, refused, then, read_of, between, block_at, blocks_to, form_in, variables_in, arguments_in, blocks_in, headed, whole_rule, parsed}
use Rattle.definitions.specs.declared.Refusal.{Refusal}
use Rattle.definitions.specs.Refusals.{Reply}
use Rattle.readers.specs.Readings.{header_at}
use Rattle.definitions.proofs.Handed.{handed}
use Rattle.readers.proofs.Laws.{told, goes, stays, ends, Handed, then_one}
use Rattle.std.specs.Prelude.{Ok, Err}
use Rattle.definitions.specs.declared.Reason.TheVariants.{BadHeader, EndsEarly, BytesAfter}

-- ---- blocks
module _ (n v : ℕ) (s : List ℕ) where
  -- one more block, as the reader goes
  next-block : (k : ℕ) → read_of (blocks_to n v s (suc k)) ≡ read_of (then (blocks_to n v s k) (λ _ at. block_at n v s at))
  unfolding blocks_to
  next-block k = then_one (λ bs b. bs ++ (b ∷ [])) (blocks_to n v s k) (block_at n v s)

  -- what reading block k answers, as the next block's answer
  by-block : (k at : ℕ) (r : Reply) → read_of (blocks_to n v s k) ≡ Ok at → read_of (block_at n v s at) ≡ r → read_of (blocks_to n v s (suc k)) ≡ r
  by-block k at r e h = next-block k ∙ sym (goes (blocks_to n v s k) (λ _ at. block_at n v s at) at r e (λ _. sym h))

  pub blocks-next : (k at m : ℕ) → read_of (blocks_to n v s k) ≡ Ok at → read_of (block_at n v s at) ≡ Ok m → read_of (blocks_to n v s (k + 1)) ≡ Ok m
  blocks-next k at m e h = rw (add-one k) (by-block k at (Ok m) e h)

  -- a refusal among the first blocks is that of all
  blocks_stay : (k j : ℕ) (r : Refusal) → read_of (blocks_to n v s k) ≡ Err r → read_of (blocks_to n v s (k + j)) ≡ Err r
  blocks_stay k zero r e = rw (add-zero k) e
  blocks_stay k (suc j) r e = rw (add-suc k j) (next-block (k + j) ∙ sym (stays (blocks_to n v s (k + j)) (λ _ at. block_at n v s at) r (blocks_stay k j r e)))

  pub blocks-refused : (k at : ℕ) (r : Refusal) → k < n → read_of (blocks_to n v s k) ≡ Ok at → read_of (block_at n v s at) ≡ Err r → read_of (blocks_to n v s n) ≡ Err r
  blocks-refused k at r h e f =
      let q : suc k + (n - suc k) ≡ n = omega arith in
      ap (λ m. read_of (blocks_to n v s m)) (sym q) ∙ blocks_stay (suc k) (n - suc k) r (by-block k at (Err r) e f)

-- ---- the rule
-- what follows the header is what follows its reading
headed-then : {A : Type 0} (s : List ℕ) (rest : Got A) → headed s rest ≡ then (header_at s) (λ _ _. rest)
unfolding headed
headed-then {A = A} s rest = go (ltb (length s) 4) (not (eqb (form_in s) 1)) (not (between 1 16 (variables_in s))) (not (leb (arguments_in s) (variables_in s))) (not (between 1 64 (blocks_in s)))
  where
    go :
        (a b c d e : Bool) →
        cond a (refused EndsEarly (length s)) (cond b (refused BadHeader 0) (cond c (refused BadHeader 1) (cond d (refused BadHeader 2) (cond e (refused BadHeader 3) rest)))) ≡
        then {B = A} (cond a (refused EndsEarly (length s)) (cond b (refused BadHeader 0) (cond c (refused BadHeader 1) (cond d (refused BadHeader 2) (cond e (refused BadHeader 3) (got (blocks_in s) 4)))))) (λ _ _. rest)
    go true b c d e = refl
    go false true c d e = refl
    go false false true d e = refl
    go false false false true e = refl
    go false false false false true = refl
    go false false false false false = refl

module _ (s : List ℕ) where
  abbrev pub blocks : Got (List Block)
  blocks = blocks_to (blocks_in s) (variables_in s) s (blocks_in s)

  pub rule-is : parsed s ≡ then (header_at s) (λ _ _. then blocks (whole_rule s))
  unfolding parsed
  rule-is = headed-then s (then blocks (whole_rule s))

  pub rule_headless : (r : Reply) (e : Refusal) {q : Reply} → Handed r e → q ≡ read_of (header_at s) → q ≡ Err e → r ≡ read_of (parsed s)
  rule_headless r e h d w = handed r e h ∙ stays (header_at s) (λ _ _. then blocks (whole_rule s)) e (told d w) ∙ ap read_of (sym rule-is)

  module _ (h : ℕ) {q : Reply} (d : q ≡ read_of (header_at s)) (w : q ≡ Ok h) where
    pub header-there : 4 ≤ length s
    unfolding headed read_of
    header-there = go (ltb (length s) 4) _ refl (told d w)
      where
        go : (b : Bool) (rest : Got ℕ) → ltb (length s) 4 ≡ b → read_of (cond b (refused EndsEarly (length s)) rest) ≡ Ok h → 4 ≤ length s
        go true rest q f = let z : ◌≡◌ {A = ℕ} 0 1 = cc in absurd (omega arith)
        go false rest q f = ltb-false (length s) 4 q

    by_blocks : (r : Reply) → r ≡ read_of (then blocks (whole_rule s)) → r ≡ read_of (parsed s)
    by_blocks r f = goes (header_at s) (λ _ _. then blocks (whole_rule s)) h r (told d w) (λ _. f) ∙ ap read_of (sym rule-is)

    pub rule-refused : (r : Reply) (e : Refusal) {p : Reply} → Handed r e → p ≡ read_of blocks → p ≡ Err e → r ≡ read_of (parsed s)
    rule-refused r e h f g = by_blocks r (ends blocks (whole_rule s) e r h f g)

    pub rule-longer : (m : ℕ) {p : Reply} → p ≡ read_of blocks → p ≡ Ok m → m < length s → Err (record { reason = BytesAfter; place = m }) ≡ read_of (parsed s)
    unfolding read_of
    rule-longer m f g l = by_blocks _ (goes blocks (whole_rule s) m _ (told f g) (λ bs. rw (lt-ltb m (length s) l)))

    pub rule-whole : (m : ℕ) {p : Reply} → p ≡ read_of blocks → p ≡ Ok m → length s ≤ m → Ok m ≡ read_of (parsed s)
    unfolding read_of
    rule-whole m f g l = by_blocks _ (goes blocks (whole_rule s) m _ (told f g) (λ bs. rw (le-ltb m (length s) l)))

-- a header that is read is there
pub ruleset of_header = (header-there)
