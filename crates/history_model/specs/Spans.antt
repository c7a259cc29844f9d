-- What the meaning of an outcome may speak of: the span of its statement. This engine's own.
use Rattle.std.specs.Prelude.{ℕ, List, Option, Some, None}
use Rattle.redo_model.specs.Records.{Record}
use Rattle.redo_model.specs.Model.{prefix}
use Rattle.script_text.specs.declared.statement.Statement.{Statement}
use Rattle.script_text.specs.declared.statement.Statement.TheVariants as asked
use Rattle.script_text.specs.declared.statement.Target.{Target}
use Rattle.script_text.specs.declared.statement.Target.TheVariants.{Label, Number}
use Rattle.session_laws.specs.Sessions.{own_of}
use Rattle.history_model.specs.declared.history.HistoryItem.{HistoryItem}
use Rattle.history_model.specs.History.{Task, bound}

-- a statement's session, the scripts and the history before its start, the records as its first event began, and the records
-- as its last event ended
pub record Span : Type 0 where
  pub session : ℕ
  pub scripts : List (List Statement)
  pub past : List HistoryItem
  pub begun : List Record
  pub ended : List Record

-- that of a statement of session w, with its end after the first n records
abbrev pub span_of : List (List Statement) → List Record → ℕ → Task → ℕ → Span
span_of scripts R w task n = record { session = w; scripts = scripts; past = task.past; begun = prefix R task.begins; ended = prefix R n }

-- that of a statement of session w under way: it ends with the records as they are
abbrev pub now_of : List (List Statement) → List Record → ℕ → Task → Span
now_of scripts R w task = record { session = w; scripts = scripts; past = task.past; begun = prefix R task.begins; ended = R }

-- with another end
abbrev pub later : Span → List Record → Span
later x R = record { session = x.session; scripts = x.scripts; past = x.past; begun = x.begun; ended = R }

-- the session's active transaction at its end
abbrev pub own_then : Span → Option ℕ
own_then x = own_of x.ended x.session

-- the row that an update or a delete is about, by the labels as it started
abbrev pub target_row : List (List Statement) → List HistoryItem → Target → Option ℕ
target_row scripts past (Label l) = bound scripts past l
target_row scripts past (Number n) = Some n

-- the table that a statement names, which has to be there
abbrev pub table_asked : Statement → Option (List ℕ)
table_asked (asked.Movement name on) = Some name
table_asked (asked.Insert name label text) = Some name
table_asked (asked.Update name target text) = Some name
table_asked (asked.Delete name target) = Some name
table_asked (asked.Scan name) = Some name
table_asked (asked.Shrink name compact) = Some name
table_asked (asked.Usage name) = Some name
table_asked (asked.Fix name block value) = Some name
table_asked (asked.Repair name) = Some name
table_asked _ = None

-- the row that a statement is about
abbrev pub target_asked : Statement → Option Target
target_asked (asked.Update name target text) = Some target
target_asked (asked.Delete name target) = Some target
target_asked _ = None
