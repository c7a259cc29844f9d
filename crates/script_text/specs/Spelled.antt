-- The lines that scripts are printed as, and what has such lines.
use Rattle.std.specs.Prelude.{◌≡◌, ℕ, ◌+◌, ◌<◌, ◌≤◌, Bool, true, false, ◌==◌, if◌then◌else◌, List, [], ◌∷◌, ◌++◌, length, Option, Some, None, codes, decimal, bytes_eq}
use Rattle.seg_words.specs.Types.{list_all, list_any, AllByRecursion, is_name, LONGEST_ROW, MOST_PCTFREE, MOST_SESSIONS}
use Rattle.script_text.specs.OwnTypes.{MOST_ROW_NUMBER, MOST_NUMBER, MOST_TURNS, Statement, Target, Label, Number, Turns, Form, Table, Movement, Insert, Update, Delete, Commit, Rollback, Scan, Shrink, Usage, Fix, Repair, Checkpoint, Forms}
use Rattle.script_text.specs.Forms.{word_of, is_open, is_ready}
use Rattle.script_text.specs.Pieces.{is_text_byte}
use Rattle.script_text.specs.Script.{Script}
use Rattle.script_text.specs.declared.statement.Statement.TheVariants as asks

-- ---- what has a spelling
abbrev pub IsText : List ℕ → Type 0
IsText text = (0 < length text) × (length text ≤ LONGEST_ROW) × (list_all is_text_byte text ≡ true)

abbrev pub IsTarget : Target → Type 0
IsTarget (Label label) = is_name label ≡ true
IsTarget (Number row) = (0 < row) × (row ≤ MOST_ROW_NUMBER)

abbrev pub IsValue : Option ℕ → Type 0
IsValue None = Unit {0}
IsValue (Some value) = value ≤ MOST_NUMBER

-- the form of a statement's line
abbrev pub form_of : Statement → Form
form_of (asks.Table name pctfree) = Table
form_of (asks.Movement table on) = Movement
form_of (asks.Insert table label text) = Insert
form_of (asks.Update table target text) = Update
form_of (asks.Delete table target) = Delete
form_of asks.Commit = Commit
form_of asks.Rollback = Rollback
form_of (asks.Scan table) = Scan
form_of (asks.Shrink table compact) = Shrink
form_of (asks.Usage table) = Usage
form_of (asks.Fix table block value) = Fix
form_of (asks.Repair table) = Repair
form_of asks.Checkpoint = Checkpoint

-- its words are those that the grammar takes
abbrev pub IsSpelled : Statement → Type 0
IsSpelled (asks.Table name pctfree) = (is_name name ≡ true) × (pctfree ≤ MOST_PCTFREE)
IsSpelled (asks.Movement table on) = is_name table ≡ true
IsSpelled (asks.Insert table label text) = (is_name table ≡ true) × (is_name label ≡ true) × IsText text
IsSpelled (asks.Update table target text) = (is_name table ≡ true) × IsTarget target × IsText text
IsSpelled (asks.Delete table target) = (is_name table ≡ true) × IsTarget target
IsSpelled asks.Commit = Unit {0}
IsSpelled asks.Rollback = Unit {0}
IsSpelled (asks.Scan table) = is_name table ≡ true
IsSpelled (asks.Shrink table compact) = is_name table ≡ true
IsSpelled (asks.Usage table) = is_name table ≡ true
IsSpelled (asks.Fix table block value) = (is_name table ≡ true) × (block ≤ MOST_NUMBER) × IsValue value
IsSpelled (asks.Repair table) = is_name table ≡ true
IsSpelled asks.Checkpoint = Unit {0}

-- a statement of a form that is built
pub record IsStatement (forms : Forms) (statement : Statement) : Type 0 where
  pub built : is_open forms (form_of statement) ≡ true
  pub ready : is_ready forms statement ≡ true
  pub spelled : IsSpelled statement

-- turns of a session or, where that is built, of 0
pub record IsTurns (forms : Forms) (sessions : ℕ) (turns : Turns) : Type 0 where
  pub built : forms.schedule ≡ true
  pub who : turns.who ≤ sessions
  pub some : 0 < turns.times
  pub few : turns.times ≤ MOST_TURNS
  pub flush : turns.who ≡ 0 → forms.flushes ≡ true

-- the labels that statements bind, in order
abbrev pub labels_of : List Statement → List (List ℕ)
labels_of [] = []
labels_of (asks.Insert table label text ∷ rest) = label ∷ labels_of rest
labels_of (statement ∷ rest) = labels_of rest

abbrev pub labels_in : List (List Statement) → List (List ℕ)
labels_in [] = []
labels_in (session ∷ rest) = labels_of session ++ labels_in rest

-- each label is none of those before it
abbrev pub AreNew : List (List ℕ) → List (List ℕ) → Type 0
AreNew before [] = Unit {0}
AreNew before (label ∷ labels) = (list_any (bytes_eq label) before ≡ false) × AreNew (before ++ label ∷ []) labels

abbrev pub most_sessions : Forms → ℕ
most_sessions forms = if forms.sessions then MOST_SESSIONS else 1

-- what some bytes spell, where these forms are built
pub record IsScript (forms : Forms) (script : Script) : Type 0 where
  pub few : length script.sessions ≤ most_sessions forms
  pub statements : AllByRecursion (AllByRecursion (IsStatement forms)) script.sessions
  pub labels : AreNew [] (labels_in script.sessions)
  pub turns : AllByRecursion (IsTurns forms (length script.sessions)) script.schedule
  pub placed : script.sessions ≡ [] → script.schedule ≡ []

-- ---- lines
abbrev pub switch_text : Bool → List ℕ
switch_text true = codes "on"
switch_text false = codes "off"

abbrev pub target_text : Target → List ℕ
target_text (Label label) = codes "@" ++ label
target_text (Number row) = codes "#" ++ decimal row

abbrev pub compact_text : Bool → List ℕ
compact_text true = codes " compact"
compact_text false = []

abbrev pub value_text : Option ℕ → List ℕ
value_text None = []
value_text (Some value) = codes " " ++ decimal value

-- what stands behind the first word, and the space that follows it
abbrev pub behind : Statement → Option (List ℕ)
behind (asks.Table name pctfree) = Some (name ++ (codes " " ++ decimal pctfree))
behind (asks.Movement table on) = Some (table ++ (codes " " ++ switch_text on))
behind (asks.Insert table label text) = Some (table ++ (codes " @" ++ (label ++ (codes " " ++ text))))
behind (asks.Update table target text) = Some (table ++ (codes " " ++ (target_text target ++ (codes " " ++ text))))
behind (asks.Delete table target) = Some (table ++ (codes " " ++ target_text target))
behind asks.Commit = None
behind asks.Rollback = None
behind (asks.Scan table) = Some table
behind (asks.Shrink table compact) = Some (table ++ compact_text compact)
behind (asks.Usage table) = Some table
behind (asks.Fix table block value) = Some (table ++ (codes " " ++ (decimal block ++ value_text value)))
behind (asks.Repair table) = Some table
behind asks.Checkpoint = None

abbrev pub tail_of : Option (List ℕ) → List ℕ
tail_of None = []
tail_of (Some rest) = codes " " ++ rest

abbrev pub with_rest : List ℕ → Option (List ℕ) → List ℕ
with_rest word rest = word ++ tail_of rest

-- the line of a statement, with its LF
unfoldable pub statement_line : Statement → List ℕ
statement_line statement = with_rest (word_of (form_of statement)) (behind statement) ++ codes "\n"

abbrev pub statement_lines : List Statement → List ℕ
statement_lines [] = []
statement_lines (statement ∷ rest) = statement_line statement ++ statement_lines rest

unfoldable pub session_line : ℕ → List ℕ
session_line n = codes "session " ++ decimal n ++ codes "\n"

-- the sessions from number n on
abbrev pub session_lines : ℕ → List (List Statement) → List ℕ
session_lines n [] = []
session_lines n (session ∷ rest) = session_line n ++ (statement_lines session ++ session_lines (n + 1) rest)

-- `N` for one event
unfoldable pub item_text : Turns → List ℕ
item_text turns = if turns.times == 1 then decimal turns.who else decimal turns.who ++ (codes "x" ++ decimal turns.times)

abbrev pub items_text : List Turns → List ℕ
items_text [] = []
items_text (turns ∷ rest) = codes " " ++ (item_text turns ++ items_text rest)

-- one line, where anything is scheduled
abbrev pub schedule_line : List Turns → List ℕ
schedule_line [] = []
schedule_line (turns ∷ rest) = codes "schedule" ++ items_text (turns ∷ rest) ++ codes "\n"

-- a script as it is printed
unfoldable pub printed : Script → List ℕ
printed script = session_lines 1 script.sessions ++ schedule_line script.schedule
