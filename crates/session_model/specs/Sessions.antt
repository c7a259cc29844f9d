-- A session between its events. This engine's own.
use Rattle.std.specs.Prelude.{◌≡◌, ◌⊎◌, ℕ, ◌≤◌, false, List, length, Option, Some, None}
use Rattle.seg_words.specs.Types.{Shape}
use Rattle.redo_model.specs.Records.{Record}
use Rattle.session_laws.specs.Sessions.{own_of, own_backed}
use Rattle.script_text.specs.declared.statement.Statement.{Statement}
use Rattle.history_model.specs.declared.history.HistoryItem.{HistoryItem}
use Rattle.history_model.specs.History.{Task, script_of, statement_of, entry_count, under_way}
use Rattle.history_model.specs.Spans.{Span}
use Rattle.history_model.specs.Passing.{FirstPass}
use Rattle.history_laws.specs.Working.{now_of}
use Rattle.session_model.specs.Doings.{Doing, Waiting, DoingFits, takes_back, doing_since}

-- how many entries it has, with how many records the statement under way began, and what it is doing
pub record Session : Type 0 where
  pub told : ℕ
  pub begins : ℕ
  pub doing : Doing

-- the statement came past its first tests; a session's end has none
abbrev pub HasPassed : Shape → Span → Option Statement → Type 0
HasPassed sh x None = Unit {0}
HasPassed sh x (Some st) = FirstPass sh x st

-- its next statement, or its end, is under way, and so far
pub record IsUnder (sh : Shape) (scripts : List (List Statement)) (R : List Record) (T : List HistoryItem) (w : ℕ) (s : Session) : Type 0 where
  pub task : Task
  pub now : under_way T w ≡ Some task
  pub place : task.place ≡ s.told
  pub begins : task.begins ≡ s.begins
  pub within : task.begins ≤ length R
  pub passed : HasPassed sh (now_of scripts R w task) (statement_of scripts w s.told)
  pub fits : DoingFits sh (now_of scripts R w task) (statement_of scripts w s.told) s.doing

-- what the history says of it: nothing is under way while it waits
abbrev pub WayFits : Shape → List (List Statement) → List Record → List HistoryItem → ℕ → Session → Doing → Type 0
WayFits sh scripts R T w s Waiting = under_way T w ≡ None
WayFits sh scripts R T w s _ = IsUnder sh scripts R T w s

-- all of it has been told, its end too
pub record IsClosed (R : List Record) (w : ℕ) (s : Session) : Type 0 where
  pub waits : s.doing ≡ Waiting
  pub none : own_of R w ≡ None

-- Session w over the records R and the history T. Nothing of its transaction is taken back but while it takes it back.
pub record Fits (sh : Shape) (scripts : List (List Statement)) (R : List Record) (T : List HistoryItem) (w : ℕ) (s : Session) : Type 0 where
  pub told : s.told ≡ entry_count T w
  pub way : WayFits sh scripts R T w s s.doing
  pub whole : takes_back s.doing ≡ false → own_backed R w ≡ false
  pub place : (s.told ≤ length (script_of scripts w)) ⊎ IsClosed R w s

-- after an event of another session
abbrev pub session_since : Shape → ℕ → List Record → Session → Session
session_since sh n R s = record { told = s.told; begins = s.begins; doing = doing_since sh n R s.doing }

-- nothing is left of it: each statement has its entry, none is under way, and it has no transaction
pub record HasEnded (scripts : List (List Statement)) (R : List Record) (T : List HistoryItem) (w : ℕ) : Type 0 where
  pub all_told : length (script_of scripts w) ≤ entry_count T w
  pub idle : under_way T w ≡ None
  pub closed : own_of R w ≡ None
