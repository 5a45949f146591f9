-- What a writer holds after a write.
use Rattle.std.specs.Prelude.{ℕ, ◌+◌, List, ◌++◌, ◌≡◌, length, take}
use Rattle.printing.specs.declared.Writer.{Writer}

-- new is w with s after what was written, in the same buffer
pub record Appends (w : Writer) (s : List ℕ) (new : Writer) : Type 0 where
  pub same : new.out.ghost_name ≡ w.out.ghost_name
  pub room : length new.out.now ≡ length w.out.now
  pub len' : new.len ≡ w.len + length s
  pub text : take new.len new.out.now ≡ take w.len w.out.now ++ s
