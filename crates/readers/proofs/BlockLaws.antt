-- The answers of the readers of endings, statements and blocks from the answers of what they call; and a block as its first statement and the rest. Assumes nothing.
use Prim.Native.Nat.{ℕ, zero, suc, ◌+◌, ◌-◌, ◌<◌, ◌≤◌}
use native.Mathlib.Omega.{arith}
use mathlib.Core.Path.{◌≡◌, refl, sym, ap, ◌∙◌}
use mathlib.Core.Bool.{Bool, true, false}
use mathlib.Core.List.{List, []}
use lib.Dec.{ltb}
use lib.ListN.{length, get_or, get_or-eq_default}
use borrow.Author.Tests.{ltb-true, ltb-false, lt-ltb, le-ltb, ne_eqb}
use Rattle.definitions.specs.Rule.{Stmt, Set, Emit, End, Goto, Jump, If, Block}
use Rattle.definitions.specs.Grammar.{Got, got, refused, then, read_of, byte_at, one, variable_at, target_at, expr_at, cond_at, depth, levels, set_at, emit_at, end_at, end_body, end_tag, EndTag, goto_tag, jump_tag, stop_tag, if_tag, bad_end}
use Rattle.definitions.specs.Grammar.{StmtTag, set_tag, emit_tag, no_stmt, stmt_tag, with_first, block_body, block_from, block_at}
use Rattle.definitions.specs.declared.Refusal.{Refusal}
use Rattle.definitions.specs.Refusals.{Reply}
use Rattle.readers.specs.Readings.{tag_at, due_of, second, stmt_at, stmt_body, is_stmt, begins}
use Rattle.readers.specs.Accepted.{StmtIn}
use Rattle.definitions.proofs.Handed.{handed}
use Rattle.readers.proofs.Laws.{told, made, goes, ends, Handed, then_one, then-two, by_tag, no_tag, levelled, of_tag}
use Rattle.readers.proofs.Sound.{Sound}
use Rattle.readers.proofs.Accepted.{set-sound, emit_sound}
use Rattle.std.specs.Prelude.{Ok, Err}
use Rattle.std.proofs.Common.{inl, inr}
use Rattle.std.proofs.Math.Nat.{eq-or-lt_of_le}
use mathlib.Core.Logic.{◌⊎◌}
use Rattle.definitions.specs.declared.Reason.TheVariants.{BadTag, EndsEarly}

-- ---- endings
module _ (left : ℕ) (ts : ℕ) (v : ℕ) (s : List ℕ) (at : ℕ) where
  abbrev E : ℕ → Got End
  E m = end_at (left - 1) ts v s m

  pub end-level : end_at left ts v s at ≡ then (tag_at left s at) (λ t _. end_body (end_tag t) ts v s E at)
  unfolding end_at
  end-level = levelled left s at (λ d. end_at d ts v s at) (λ d t. end_body (end_tag t) ts v s (λ m. end_at d ts v s m) at) refl (λ d. refl)

  pub end_none : (r : Reply) (e : Refusal) {q : Reply} → Handed r e → q ≡ due_of (tag_at left s at) → q ≡ Err e → r ≡ read_of (end_at left ts v s at)
  end_none r e h d w = handed r e h ∙ rw end-level (no_tag (tag_at left s at) _ e (told d w))

  module _ (r : Reply) (tag : ℕ) {q : Reply} (d : q ≡ due_of (tag_at left s at)) (w : q ≡ Ok tag) where
    end_by : (t : EndTag) → end_tag tag ≡ t → r ≡ read_of (end_body t ts v s E at) → r ≡ read_of (end_at left ts v s at)
    end_by t i e = rw (end-level, by_tag (tag_at left s at) (λ t. end_body (end_tag t) ts v s E at) tag (told d w), i) e

    pub end-goes : 0x30 ≤ tag → tag ≤ 0x31 → r ≡ read_of (target_at ts s (at + 1)) → r ≡ read_of (end_at left ts v s at)
    end-goes l u e = go (eq-or-lt_of_le l)
      where
        go : (0x30 ≡ tag) ⊎ (0x30 < tag) → r ≡ read_of (end_at left ts v s at)
        go (inl h) = let i : tag ≡ 0x30 = sym h in end_by goto_tag (ap end_tag i) (e ∙ sym (made Goto (target_at ts s (at + 1))))
        go (inr h) = let i : tag ≡ 0x31 = omega arith in end_by jump_tag (ap end_tag i) (e ∙ sym (made Jump (target_at ts s (at + 1))))

    pub end-stop : tag ≡ 0x32 → r ≡ Ok (at + 1) → r ≡ read_of (end_at left ts v s at)
    unfolding read_of
    end-stop i e = end_by stop_tag (ap end_tag i) e

    pub end-if : tag ≡ 0x33 → r ≡ read_of (then (cond_at depth v s (at + 1)) (λ _ m. second E m)) → r ≡ read_of (end_at left ts v s at)
    end-if i e = end_by if_tag (ap end_tag i) (e ∙ sym (then-two If (cond_at depth v s (at + 1)) E))

    pub end-bad : (tag ≡ 0x30 → ⊥) → (tag ≡ 0x31 → ⊥) → (tag ≡ 0x32 → ⊥) → (tag ≡ 0x33 → ⊥) → r ≡ Err (record { reason = BadTag; place = at }) → r ≡ read_of (end_at left ts v s at)
    unfolding read_of
    end-bad f g h i e = end_by bad_end (simp (ne_eqb tag 0x30 f, ne_eqb tag 0x31 g, ne_eqb tag 0x32 h, ne_eqb tag 0x33 i)) e

-- ---- statements
module _ (v : ℕ) (s : List ℕ) (at : ℕ) where
  stmt_level : stmt_at v s at ≡ then (tag_at 1 s at) (λ t _. stmt_body (stmt_tag t) v s at)
  unfolding stmt_at
  stmt_level = go (byte_at s at)
    where
      go : (p : Got ℕ) → then p (λ t _. stmt_body (stmt_tag t) v s at) ≡ then (then p (λ t n. got t n)) (λ t _. stmt_body (stmt_tag t) v s at)
      go (got t n) = refl
      go (refused k p) = refl

  pub stmt_none : (r : Reply) (e : Refusal) {q : Reply} → Handed r e → q ≡ due_of (tag_at 1 s at) → q ≡ Err e → r ≡ read_of (stmt_at v s at)
  stmt_none r e h d w = handed r e h ∙ rw stmt_level (no_tag (tag_at 1 s at) _ e (told d w))

  module _ (r : Reply) (tag : ℕ) {q : Reply} (d : q ≡ due_of (tag_at 1 s at)) (w : q ≡ Ok tag) where
    stmt-by : (t : StmtTag) → stmt_tag tag ≡ t → r ≡ read_of (stmt_body t v s at) → r ≡ read_of (stmt_at v s at)
    stmt-by t i e = rw (stmt_level, by_tag (tag_at 1 s at) (λ t. stmt_body (stmt_tag t) v s at) tag (told d w), i) e

    pub stmt-set : tag ≡ 0x20 → r ≡ read_of (then (variable_at v s (at + 1)) (λ _ n. expr_at depth v s n)) → r ≡ read_of (stmt_at v s at)
    stmt-set i e = stmt-by set_tag (ap stmt_tag i) (e ∙ sym (then_one Set (variable_at v s (at + 1)) (expr_at depth v s)))

    pub stmt-emit : tag ≡ 0x21 → r ≡ read_of (expr_at depth v s (at + 1)) → r ≡ read_of (stmt_at v s at)
    stmt-emit i e = stmt-by emit_tag (ap stmt_tag i) (e ∙ sym (made Emit (expr_at depth v s (at + 1))))

    pub stmt-bad : (tag ≡ 0x20 → ⊥) → (tag ≡ 0x21 → ⊥) → r ≡ Err (record { reason = BadTag; place = at }) → r ≡ read_of (stmt_at v s at)
    unfolding read_of
    stmt-bad f g e = stmt-by no_stmt (simp (ne_eqb tag 0x20 f, ne_eqb tag 0x21 g)) e

-- ---- blocks
-- where a statement begins, a byte stands
pub begins-there : (s : List ℕ) (at : ℕ) → begins s at ≡ true → at < length s
unfolding begins
begins-there s at e = go (ltb at (length s)) refl
  where
    go : (b : Bool) → ltb at (length s) ≡ b → at < length s
    go true q = ltb-true at (length s) q
    go false q = let f : is_stmt (stmt_tag 0) ≡ true = rw (get_or-eq_default s 0 (ltb-false at (length s) q)) at e in let z : ◌≡◌ {A = ℕ} 0 1 = cc in absurd (omega arith)

module _ (ts : ℕ) (v : ℕ) (s : List ℕ) where
  -- past the end of the bytes there is no block, with any fuel
  block_none : (f at : ℕ) → length s ≤ at → block_from f ts v s at ≡ refused EndsEarly (length s)
  unfolding block_from end_at
  block_none zero at h = refl
  block_none (suc f) at h = simp (get_or-eq_default s 0 h, le-ltb at (length s) h)

  -- what goes on after a statement, all further to the right, is all that counts of what follows
  rest-same :
      (at : ℕ) (p : Got Stmt) (B C : ℕ → Got Block) → Sound (StmtIn v) at (length s) p → ((m : ℕ) → at < m → B m ≡ C m) →
      then p (λ x m. one (with_first x) B m) ≡ then p (λ x m. one (with_first x) C m)
  unfolding Sound
  rest-same at (got x m) B C g h = ap (λ q. then q (λ y k. got (with_first x y) k)) (h m g.0)
  rest-same at (refused k q) B C g h = refl

  body_same : (at : ℕ) (B C : ℕ → Got Block) → ((m : ℕ) → at + 1 < m → B m ≡ C m) → (t : StmtTag) → block_body t ts v s B at ≡ block_body t ts v s C at
  body_same at B C h set_tag = rest-same (at + 1) (set_at v s (at + 1)) B C (set-sound v s (at + 1)) h
  body_same at B C h emit_tag = rest-same (at + 1) (emit_at v s (at + 1)) B C (emit_sound v s (at + 1)) h
  body_same at B C h no_stmt = refl

  -- fuel for every byte left is enough
  block_fuel : (f at : ℕ) → length s ≤ at + f → block_from f ts v s at ≡ block_from (suc f) ts v s at
  unfolding block_from
  block_fuel zero at h = let there : length s ≤ at = omega arith in block_none 0 at there ∙ sym (block_none 1 at there)
  block_fuel (suc f) at h = body_same at _ _ (λ m l. block_fuel f m (omega arith)) (stmt_tag (get_or s at 0))

  module _ (at : ℕ) where
    pub block-is : block_at ts v s at ≡ block_body (stmt_tag (get_or s at 0)) ts v s (λ m. block_at ts v s m) at
    unfolding block_from
    block-is = block_fuel (length s) at (omega arith)

    -- a statement and then the rest, or the ending alone
    pub block-stmt : begins s at ≡ true → block_at ts v s at ≡ then (stmt_at v s at) (λ x m. one (with_first x) (block_at ts v s) m)
    unfolding begins stmt_at
    block-stmt e = rw (block-is, lt-ltb at (length s) (begins-there s at e)) (go (stmt_tag (get_or s at 0)) e)
      where
        go : (t : StmtTag) → is_stmt t ≡ true → block_body t ts v s (λ m. block_at ts v s m) at ≡ then (stmt_body t v s at) (λ x m. one (with_first x) (block_at ts v s) m)
        go set_tag e = refl
        go emit_tag e = refl
        go no_stmt e = let z : ◌≡◌ {A = ℕ} 0 1 = cc in absurd (omega arith)

    pub block-ending : begins s at ≡ false → block_at ts v s at ≡ one (λ e. record { body = []; ending = e }) (end_at levels ts v s) at
    unfolding begins
    block-ending e = rw block-is (go (stmt_tag (get_or s at 0)) e)
      where
        go : (t : StmtTag) → is_stmt t ≡ false → block_body t ts v s (λ m. block_at ts v s m) at ≡ one (λ e. record { body = []; ending = e }) (end_at levels ts v s) at
        go set_tag e = let z : ◌≡◌ {A = ℕ} 0 1 = cc in absurd (omega arith)
        go emit_tag e = let z : ◌≡◌ {A = ℕ} 0 1 = cc in absurd (omega arith)
        go no_stmt e = refl

    -- the same of the readers' answers
    module _ {b : Bool} (t : b ≡ begins s at) where
      pub block_goes : (m : ℕ) {q : Reply} → b ≡ true → q ≡ read_of (stmt_at v s at) → q ≡ Ok m → read_of (block_at ts v s at) ≡ read_of (block_at ts v s m)
      block_goes m y d w = ap read_of (block-stmt (told t y)) ∙ then_one with_first (stmt_at v s at) (block_at ts v s) ∙ sym (goes (stmt_at v s at) _ m _ (told d w) (λ _. refl))

      pub block_refused : (r : Reply) (e : Refusal) {q : Reply} → b ≡ true → Handed r e → q ≡ read_of (stmt_at v s at) → q ≡ Err e → r ≡ read_of (block_at ts v s at)
      block_refused r e y h d w = ends (stmt_at v s at) _ e r h d w ∙ sym (ap read_of (block-stmt (told t y)))

      pub block-done : b ≡ false → read_of (end_at levels ts v s at) ≡ read_of (block_at ts v s at)
      block-done y = sym (ap read_of (block-ending (told t y)) ∙ made _ (end_at levels ts v s at))

-- each way to go on by a tag
pub ruleset of_end = (of_tag, end-stop)

pub ruleset of_stmt = (of_tag, stmt-emit)
