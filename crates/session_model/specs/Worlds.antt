-- All sessions of a run over its records and its history: between two events, and in the midst of one. This engine's own.
use Rattle.std.specs.Prelude.{◌≡◌, ◌≢◌, ◌⊎◌, ℕ, ◌≤◌, false, List, length, Option, Some, None}
use Rattle.seg_words.specs.Types.{Shape}
use Rattle.redo_model.specs.Records.{Record}
use Rattle.session_laws.specs.Sessions.{own_of, own_backed}
use Rattle.script_text.specs.declared.statement.Statement.{Statement}
use Rattle.history_text.specs.declared.outcome.Outcome.{Outcome}
use Rattle.history_model.specs.declared.history.Kept.{Kept}
use Rattle.history_model.specs.declared.history.HistoryItem.{HistoryItem}
use Rattle.history_model.specs.History.{IsSession, Task, script_of, statement_of, entry_count, under_way, bound}
use Rattle.history_model.specs.Spans.{Span}
use Rattle.history_model.specs.Means.{Means, PassesOver}
use Rattle.history_model.specs.Legal.{IsLegal}
use Rattle.history_laws.specs.Working.{now_of}
use Rattle.session_model.specs.Doings.{Doing, Waiting, DoingFits, takes_back, ShrinksOn}
use Rattle.session_model.specs.Sessions.{Session, HasPassed, Fits, session_since}
use Rattle.session_model.specs.Done.{IsDoneBy}

-- ---- between two events

-- no two sessions shrink one table
abbrev pub ShrinksAlone : List (List Statement) → (ℕ → Session) → Type 0
ShrinksAlone scripts sessions = (v w o : ℕ) → IsSession scripts v → IsSession scripts w → ShrinksOn (sessions v).doing o → ShrinksOn (sessions w).doing o → v ≡ w

-- From the records R0 that the call found, the sessions of the scripts made the records R and the history T: all of it is legal,
-- each session is as the history says, each active transaction is of a session, and the labels are those of accepted inserts.
pub record IsWorld (sh : Shape) (scripts : List (List Statement)) (R0 R : List Record) (T : List HistoryItem) (sessions : ℕ → Session) (labels : List ℕ → Option ℕ) : Type 0 where
  pub legal : IsLegal sh scripts R0 R T
  pub fit : (w : ℕ) → IsSession scripts w → Fits sh scripts R T w (sessions w)
  pub alone : ShrinksAlone scripts sessions
  pub known : (w t : ℕ) → own_of R w ≡ Some t → IsSession scripts w
  pub labelled : (l : List ℕ) → labels l ≡ bound scripts T l

-- ---- in the midst of an event of session w

-- a statement that starts finds the records as they are; one that is under way is so far
abbrev pub IsReady : Shape → Span → Option Statement → Doing → Type 0
IsReady sh x st Waiting = x.begun ≡ x.ended
IsReady sh x st d = HasPassed sh x st × DoingFits sh x st d

-- a statement that starts has the history before its start as it is
pub record IsFirst (scripts : List (List Statement)) (T : List HistoryItem) (w : ℕ) (task : Task) (labels : List ℕ → Option ℕ) : Type 0 where
  pub others : (v : ℕ) → v ≢ w → under_way task.past v ≡ under_way T v
  pub labelled : (l : List ℕ) → labels l ≡ bound scripts task.past l

-- The start is told, no record was added yet; s is what the session was doing as the event began.
pub record Midway (sh : Shape) (scripts : List (List Statement)) (R0 R : List Record) (T : List HistoryItem) (sessions : ℕ → Session) (labels : List ℕ → Option ℕ) (w : ℕ) (task : Task) (s : Session) : Type 0 where
  pub legal : IsLegal sh scripts R0 R T
  pub session : IsSession scripts w
  pub now : under_way T w ≡ Some task
  pub told : s.told ≡ entry_count T w
  pub place : task.place ≡ s.told
  pub begins : task.begins ≡ s.begins
  pub within : task.begins ≤ length R
  pub few : s.told ≤ length (script_of scripts w)
  pub whole : takes_back s.doing ≡ false → own_backed R w ≡ false
  pub ready : IsReady sh (now_of scripts R w task) (statement_of scripts w s.told) s.doing
  pub first : s.doing ≡ Waiting → IsFirst scripts T w task labels
  pub closing : statement_of scripts w s.told ≡ None → own_of R w ≡ None → ⊥
  pub others : (v : ℕ) → IsSession scripts v → v ≢ w → Fits sh scripts R T v (sessions v)
  pub alone : (v o : ℕ) → IsSession scripts v → v ≢ w → ShrinksOn (sessions v).doing o → ShrinksOn s.doing o → ⊥
  pub apart : (u v o : ℕ) → IsSession scripts u → IsSession scripts v → u ≢ w → v ≢ w → ShrinksOn (sessions u).doing o → ShrinksOn (sessions v).doing o → u ≡ v
  pub known : (v t : ℕ) → own_of R v ≡ Some t → IsSession scripts v
  pub labelled : (l : List ℕ) → labels l ≡ bound scripts T l

-- ---- what an event does

-- the records that it adds, if any, come after the first tests
pub record Acts (sh : Shape) (x : Span) (st : Option Statement) (R : List Record) : Type 0 where
  pub done : IsDoneBy sh x.scripts x.past x.session st x.ended R
  pub passed : (R ≡ x.ended) ⊎ HasPassed sh x st

-- the statement goes on, and is at this
pub record GoesOn (sh : Shape) (x : Span) (st : Option Statement) (d : Doing) : Type 0 where
  pub passed : HasPassed sh x st
  pub fits : DoingFits sh x st d
  pub whole : takes_back d ≡ false → own_backed x.ended x.session ≡ false

-- it is over with this outcome; at the session's end no transaction is left
pub record IsOverWith (sh : Shape) (x : Span) (st : Option Statement) (outcome : Outcome) (k : Kept) : Type 0 where
  pub means : Means sh x st outcome k
  pub passes : PassesOver sh x st outcome k
  pub whole : own_backed x.ended x.session ≡ false
  pub closed : st ≡ None → own_of x.ended x.session ≡ None

-- afterwards session w is at s, and the scans of the others are marked by what was released after the first n records
pub record IsNext (sh : Shape) (scripts : List (List Statement)) (w n : ℕ) (R : List Record) (sessions next : ℕ → Session) (s : Session) : Type 0 where
  pub own : next w ≡ s
  pub others : (v : ℕ) → IsSession scripts v → v ≢ w → next v ≡ session_since sh n R (sessions v)
