-- Readings that the readers share, beside those of the grammar. Assumes nothing: these are definitions.
use Rattle.std.specs.Prelude.{ℕ, ◌+◌, Bool, true, false, cond, List, eqb, ltb, length, get_or, Result}
use Rattle.definitions.specs.Rule.{Stmt}
use Rattle.definitions.specs.Grammar.{Got, got, refused, then, byte_at, StmtTag, set_tag, emit_tag, no_stmt, stmt_tag, set_at, emit_at, headed, blocks_in}
use Rattle.definitions.specs.Refusals.{Reply, numbered}
use Rattle.definitions.specs.declared.ByNumber.{ByNumber}
use Rattle.std.specs.Prelude.{Ok, Err}
use Rattle.definitions.specs.declared.Reason.TheVariants.{BadTag, TooDeep}

-- the tag at a place where so many levels may still stand: 9 goes before 8
abbrev pub tag_at : ℕ → List ℕ → ℕ → Got ℕ
tag_at left s at = then (byte_at s at) (λ t n. cond (eqb left 0) (refused TooDeep at) (got t n))

-- the answer of the code for each case
unfoldable pub due_of : Got ℕ → Reply
due_of (got t n) = Ok t
due_of (refused k p) = Err (record { reason = k; place = p })

-- a byte that names one of so many: the place after it, or the refusal by a number; 9 where there is none
abbrev pub told_below : ℕ → ℕ → List ℕ → ℕ → Result ℕ ByNumber
told_below high number s at = cond (ltb at (length s)) (cond (ltb (get_or s at 0) high) (Ok (at + 1)) (numbered number at)) (numbered 9 (length s))

-- two of a kind, of which the first is passed over
abbrev pub second : {A : Type 0} → (ℕ → Got A) → ℕ → Got A
second read at = then (read at) (λ _ n. read n)

-- the statement at a place, and whether one begins there: what else stands there has to be an ending
abbrev pub stmt_body : StmtTag → ℕ → List ℕ → ℕ → Got Stmt
stmt_body set_tag v s at = set_at v s (at + 1)
stmt_body emit_tag v s at = emit_at v s (at + 1)
stmt_body no_stmt v s at = refused BadTag at

unfoldable pub stmt_at : ℕ → List ℕ → ℕ → Got Stmt
stmt_at v s at = then (byte_at s at) (λ t _. stmt_body (stmt_tag t) v s at)

abbrev pub is_stmt : StmtTag → Bool
is_stmt set_tag = true
is_stmt emit_tag = true
is_stmt no_stmt = false

unfoldable pub begins : List ℕ → ℕ → Bool
begins s at = is_stmt (stmt_tag (get_or s at 0))

-- the header alone, with the place after it
abbrev pub header_at : List ℕ → Got ℕ
header_at s = headed s (got (blocks_in s) 4)
