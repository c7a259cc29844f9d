-- The words of the command line. This engine's own.
use Rattle.seg_words.specs.Types.{MOST_BLOCKS, MOST_EXTENT_BLOCKS, MOST_UNDO_BLOCKS, Shape, is_name, is_shape}
use Rattle.std.specs.Prelude.{◌≡◌, ℕ, ◌-◌, ◌^◌, true, if◌then◌else◌, List, [], ◌∷◌, Option, Some, None, codes, bytes_eq}
use Rattle.assm.specs.declared.words.Command.{Command}
use Rattle.assm.specs.declared.words.Command.TheVariants.{Format, Run, Usage, Repair, Check, Generate}
use Rattle.assm.specs.declared.words.TheConstants.{MOST_ROWS}
use Rattle.script_text.specs.Pieces.{number_of, ordinal_of, ◌>>=◌}
use Rattle.script_text.specs.Script.{Script}
use Rattle.script_text.specs.declared.statement.Statement.{Statement}
use Rattle.script_text.specs.declared.statement.Statement.TheVariants as asks

-- the shape that three numbers state, where it is within the limits
abbrev pub shape_in : List ℕ → List ℕ → List ℕ → Option Shape
shape_in b e u = do
  blocks ← number_of MOST_BLOCKS b
  extent ← number_of MOST_EXTENT_BLOCKS e
  undo ← number_of MOST_UNDO_BLOCKS u
  if is_shape (record { blocks = blocks; extent = extent; undo = undo }) then Some (record { blocks = blocks; extent = extent; undo = undo }) else None

abbrev pub format_in : Option Shape → Option Command
format_in None = None
format_in (Some shape) = Some (Format shape)

abbrev pub single : List ℕ → Option Command
single word = if bytes_eq word (codes "run") then Some Run else (if bytes_eq word (codes "check") then Some Check else None)

abbrev pub of_table : List ℕ → List ℕ → Option Command
of_table word t = if is_name t then (if bytes_eq word (codes "usage") then Some Usage else (if bytes_eq word (codes "repair") then Some Repair else None)) else None

-- the script that a number below 2^32 and a count of rows ask for
abbrev pub generate_in : List ℕ → List ℕ → Option Command
generate_in n r = do
  number ← number_of (2 ^ 32 - 1) n
  rows ← ordinal_of MOST_ROWS r
  Some (Generate number rows)

abbrev pub of_three : List ℕ → List ℕ → List ℕ → Option Command
of_three word n r = if bytes_eq word (codes "gen") then generate_in n r else None

abbrev pub of_shape : List ℕ → List ℕ → List ℕ → List ℕ → Option Command
of_shape word b e u = if bytes_eq word (codes "format") then format_in (shape_in b e u) else None

-- what the words ask for
abbrev pub command_in : List (List ℕ) → Option Command
command_in (word ∷ []) = single word
command_in (word ∷ t ∷ []) = of_table word t
command_in (word ∷ n ∷ r ∷ []) = of_three word n r
command_in (word ∷ b ∷ e ∷ u ∷ []) = of_shape word b e u
command_in words = None

-- a shape that is asked for is within the limits
abbrev pub IsWithin : Command → Type 0
IsWithin (Format shape) = is_shape shape ≡ true
IsWithin c = Unit {0}

-- ---- the commands that run one statement

abbrev pub table_in : List (List ℕ) → List ℕ
table_in (word ∷ t ∷ []) = t
table_in words = []

abbrev pub statement_of : Option Command → List ℕ → Option Statement
statement_of (Some Usage) t = Some (asks.Usage t)
statement_of (Some Repair) t = Some (asks.Repair t)
statement_of c t = None

-- the statement that the words ask for
abbrev pub statement_in : List (List ℕ) → Option Statement
statement_in words = statement_of (command_in words) (table_in words)

-- the script that is run for it
abbrev pub script_with : Statement → Script
script_with st = record { sessions = (st ∷ []) ∷ []; schedule = [] }
