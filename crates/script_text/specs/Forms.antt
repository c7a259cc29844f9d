-- The forms of lines.
use Rattle.std.specs.Prelude.{ℕ, Bool, true, ◌||◌, if◌then◌else◌, List, [], ◌∷◌, Option, Some, None, codes, bytes_eq}
use Rattle.script_text.specs.OwnTypes.{Form, Session, Table, Movement, Insert, Update, Delete, Commit, Rollback, Scan, Shrink, Usage, Fix, Repair, Checkpoint, Schedule, Forms, Statement}
use Rattle.script_text.specs.declared.statement.Statement.TheVariants as asks

-- the first word of a form's lines
abbrev pub word_of : Form → List ℕ
word_of Session = codes "session"
word_of Table = codes "table"
word_of Movement = codes "movement"
word_of Insert = codes "insert"
word_of Update = codes "update"
word_of Delete = codes "delete"
word_of Commit = codes "commit"
word_of Rollback = codes "rollback"
word_of Scan = codes "scan"
word_of Shrink = codes "shrink"
word_of Usage = codes "usage"
word_of Fix = codes "fix"
word_of Repair = codes "repair"
word_of Checkpoint = codes "checkpoint"
word_of Schedule = codes "schedule"

abbrev pub named_in : List Form → List ℕ → Option Form
named_in [] word = None
named_in (form ∷ forms) word = if bytes_eq word (word_of form) then Some form else named_in forms word

abbrev pub later_form_of : List ℕ → Option Form
later_form_of word = named_in (Scan ∷ Shrink ∷ Usage ∷ Fix ∷ Repair ∷ Checkpoint ∷ Schedule ∷ []) word

-- the form whose first word it is
unfoldable pub form_of : List ℕ → Option Form
form_of word = named_in (Session ∷ Table ∷ Movement ∷ Insert ∷ Update ∷ Delete ∷ Commit ∷ Rollback ∷ Scan ∷ Shrink ∷ Usage ∷ Fix ∷ Repair ∷ Checkpoint ∷ Schedule ∷ []) word

-- whether the form's lines are statements: some forms come later
abbrev pub is_open : Forms → Form → Bool
is_open forms Shrink = forms.compact
is_open forms Usage = forms.usage
is_open forms Fix = forms.fix
is_open forms Repair = forms.repair
is_open forms Checkpoint = forms.checkpoint
is_open forms form = true

-- whether the statement is one yet: shrinks that don't only compact come later than those that do
abbrev pub is_ready : Forms → Statement → Bool
is_ready forms (asks.Shrink table compact) = compact || forms.shrink
is_ready forms statement = true
