-- The rows that labels stand for. This engine's own.
use Rattle.std.specs.Prelude.{◌≡◌, ℕ, cond, List, [], ◌∷◌, Option, Some, None}
use Rattle.redo_model.specs.Model.{is_byte_list}
use Rattle.script_text.specs.declared.statement.Statement.{Statement}
use Rattle.script_text.specs.declared.statement.Statement.TheVariants as asked
use Rattle.script_text.specs.declared.statement.Target.{Target}
use Rattle.script_text.specs.declared.statement.Target.TheVariants.{Label, Number}
use Rattle.history_text.specs.declared.outcome.Outcome.{Outcome}
use Rattle.history_text.specs.declared.outcome.Outcome.TheVariants as outcome
use Rattle.session_core.specs.declared.turned.Turned.{Turned}
use Rattle.session_core.specs.declared.turned.Turned.TheVariants as turned

-- the row that label l stands for, of labels with their rows
abbrev pub row_of : List (List ℕ × ℕ) → List ℕ → Option ℕ
row_of [] l = None
row_of (e ∷ es) l = cond (is_byte_list e.0 l) (Some e.1) (row_of es l)

-- this label stands for this row now, and each other one for the row that it stood for
abbrev pub IsBound : List (List ℕ × ℕ) → List ℕ → ℕ → List (List ℕ × ℕ) → Type 0
IsBound labels label row next = (l : List ℕ) → row_of next l ≡ cond (is_byte_list label l) (Some row) (row_of labels l)

-- the row that an update or a delete is about
abbrev pub row_by : List (List ℕ × ℕ) → Target → Option ℕ
row_by labels (Label l) = row_of labels l
row_by labels (Number n) = Some n

-- ---- after an event

-- the row that it inserted
abbrev pub inserted_row : Outcome → Option ℕ
inserted_row (outcome.Inserted row) = Some row
inserted_row o = None

abbrev pub inserted_in : Turned → Option ℕ
inserted_in (turned.On d) = None
inserted_in (turned.Over o k) = inserted_row o

-- the label of an insert stands for its row
abbrev pub IsBoundBy : Statement → ℕ → List (List ℕ × ℕ) → List (List ℕ × ℕ) → Type 0
IsBoundBy (asked.Insert name label text) row labels next = IsBound labels label row next
IsBoundBy st row labels next = next ≡ labels

abbrev pub IsBoundIn : Option Statement → ℕ → List (List ℕ × ℕ) → List (List ℕ × ℕ) → Type 0
IsBoundIn None row labels next = next ≡ labels
IsBoundIn (Some st) row labels next = IsBoundBy st row labels next

abbrev pub AreBoundOf : Option Statement → Option ℕ → List (List ℕ × ℕ) → List (List ℕ × ℕ) → Type 0
AreBoundOf st None labels next = next ≡ labels
AreBoundOf st (Some row) labels next = IsBoundIn st row labels next

-- where the statement inserted a row, its label stands for it; else each label stands for what it stood for
abbrev pub AreBoundTurned : Option Statement → Turned → List (List ℕ × ℕ) → List (List ℕ × ℕ) → Type 0
AreBoundTurned st v labels next = AreBoundOf st (inserted_in v) labels next
