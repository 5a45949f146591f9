-- The lines and records of a rule's rows, with its plan as the code knows it.
use Rattle.std.specs.Prelude.{ℕ, ◌≤◌, ◌≡◌, List, pos, replicate}
use Rattle.buffers.specs.Words.{over}
use Rattle.definitions.specs.Values.{Word}
use Rattle.definitions.specs.Rule.{Rule, size}
use Rattle.definitions.specs.Grammar.{most_variables, most_blocks}
use Rattle.definitions.specs.Columns.{flow_of, LC}
use Rattle.definitions.specs.Plan.{mask_of}
use Rattle.definitions.specs.Direct.{State}
use Rattle.definitions.specs.Batch.{line_size, line_of, lines_from}
use Rattle.definitions.specs.Finder.{most_quota}
use Rattle.definitions.specs.Calls.{columns}
use Rattle.columns.specs.Proper.{Proper}
use Rattle.layouts.specs.declared.Layout.{Layout}

-- a line's size, a row's line and the lines of all rows, which are numbered from k on
abbrev pub width : Rule → ℕ
width r = line_size (columns r)

abbrev pub line_in : Rule → ℕ → State → List Word
line_in r row s = line_of r.variables (LC (flow_of r)) row s

abbrev pub lines_in : Rule → ℕ → List State → List Word
lines_in r k ss = lines_from r.variables (LC (flow_of r)) k ss

-- values at the start of an array of zeros that holds the variables of any rule
abbrev pub in_array : List Word → List Word
in_array xs = over (replicate most_variables (pos 0)) 0 xs

-- what the code knows of a rule and a quota that are allowed
pub record Known (r : Rule) (l : Layout) : Type 0 where
  pub proper : Proper r
  pub blocks : size r ≤ most_blocks
  pub variables : l.variables ≡ r.variables
  pub arguments : l.arguments ≡ r.arguments
  pub mask : l.lc ≡ mask_of r.variables (LC (flow_of r))
  pub size' : l.size ≡ width r
  pub quota : l.quota ≤ most_quota
