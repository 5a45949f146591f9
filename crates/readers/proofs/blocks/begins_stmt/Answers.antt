-- `readers::blocks::begins_stmt` meets its contract: the tests are on the byte, and past the end there is none.
use native.Mathlib.Omega.{arith}
use borrow.Author.Tests.{ne_eqb}
use Rattle.std.proofs.Common.{rules, ◌≡◌, ℕ, false, sym, ap, ◌∙◌, List, Option, Bor}
use Rattle.std.specs.Option.{option_copied, unwrap_or}
use Rattle.std.specs.Slice.{IsItemAt}
use Rattle.definitions.specs.Grammar.{stmt_tag}
use Rattle.readers.specs.Readings.{is_stmt, begins}
use Rattle.readers.proofs.blocks.begins_stmt.Goals as goal

-- a byte that is not there is as good as 0
at-item : (s : List ℕ) (at : ℕ) (o : Option (Bor ℕ)) → IsItemAt s at o → begins s at ≡ is_stmt (stmt_tag (unwrap_or (option_copied o) 0))
unfolding begins
at-item s at o h = ap (λ (t : ℕ). is_stmt (stmt_tag t)) (sym (h.4 (omega arith) 0))

neither : (t : ℕ) → ¬ (t ≡ 0x20) → ¬ (t ≡ 0x21) → is_stmt (stmt_tag t) ≡ false
neither t f g = simp (ne_eqb t 0x20 f, ne_eqb t 0x21 g)

pub returns-in-Some-eq32 : goal.returns-in-Some-eq32
returns-in-Some-eq32 c = sym (at-item _ _ _ c.get.ensures.lookup ∙ simp (c.in-Some-eq32.is, c.in-Some-eq32.field-0-test))

pub returns-in-Some-eq32-2 : goal.returns-in-Some-eq32-2
returns-in-Some-eq32-2 c = sym (at-item _ _ _ c.get.ensures.lookup ∙ simp (c.in-Some-eq32.is, c.in-Some-eq32.field-0-test))

pub returns-in_default : goal.returns-in_default
returns-in_default c =
    let f : c.in_default.field-0.now ≡ 0x20 → ⊥ = search rules in
    let g : c.in_default.field-0.now ≡ 0x21 → ⊥ = search rules in
    sym (at-item _ _ _ c.get.ensures.lookup ∙ rw c.in_default.is (neither _ f g))

pub returns-in_default-2 : goal.returns-in_default-2
returns-in_default-2 c = sym (at-item _ _ _ c.get.ensures.lookup ∙ simp c.in_default.is)
