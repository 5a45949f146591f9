-- 01, A batch, the finder: it hands back a part of one of the caller's two buffers, so a part is where it lies and what it holds.
use Rattle.std.specs.Prelude.{ℕ, zero, suc, ◌+◌, ◌*◌, Bool, false, cond, ◌&&◌, List, leb, ltb, eqb, pos, negsuc, length, take, drop, get_or}
use Rattle.std.specs.Borrow.{Bor}
use Rattle.definitions.specs.Values.{Word}
use Rattle.definitions.specs.Batch.{record_size, line_size}

-- a slice's place in memory, a block and an offset in bytes, and its words
abbrev pub Part : Type 0
Part = (ℕ × ℕ) × List Word

-- the n words of s from word a on; a word is 4 bytes
abbrev pub part_of : Bor (List Word) → ℕ → ℕ → Part
part_of s a n = ((s.ref_ptr.0, a * 4 + s.ref_ptr.1), take n (drop a s.now))

-- whether a word is the number n
unfoldable pub is_number : Word → ℕ → Bool
is_number (pos a) n = eqb a n
is_number (negsuc a) n = false

-- whether line i of a table of lines of this size is whole and has this row's number
abbrev pub is_line : List Word → ℕ → ℕ → ℕ → Bool
is_line work size row i = leb (i * size + size) (length work) && is_number (get_or work (i * size) (pos 0)) row

-- the first such line among the n lines from line i on, or i + n
unfoldable pub line_index : List Word → ℕ → ℕ → ℕ → ℕ → ℕ
line_index work size row i zero = i
line_index work size row i (suc n) = cond (is_line work size row i) i (line_index work size row (i + 1) n)

-- that line among the first `rows` lines, or an empty part
unfoldable pub line_part : Bor (List Word) → ℕ → ℕ → ℕ → Part
line_part work rows size row =
    cond (ltb (line_index work.now size row 0 rows) rows)
    (part_of work (line_index work.now size row 0 rows * size) size)
    (part_of work 0 0)

-- the limits of a batch and its two buffers: rows, quota and columns
abbrev pub most_rows : ℕ
most_rows = 256

abbrev pub most_quota : ℕ
most_quota = 16

abbrev pub most_columns : ℕ
most_columns = 16

-- a row's record, or its line while its status is 0
unfoldable pub found_in : Bor (List Word) → Bor (List Word) → ℕ → ℕ → ℕ → ℕ → Part
found_in result work rows quota columns row =
    cond (ltb row rows && (leb rows most_rows && (leb quota most_quota && (leb columns most_columns && leb (rows * record_size quota) (length result.now)))))
    (cond (is_number (get_or result.now (row * record_size quota) (pos 0)) 0)
    (line_part work rows (line_size columns) row)
    (part_of result (row * record_size quota) (record_size quota)))
    (part_of result 0 0)
