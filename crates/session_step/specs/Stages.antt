-- A session of a run before an event of it, and after.
use Rattle.std.specs.Prelude.{◌≡◌, ◌≢◌, ℕ, ◌≤◌, List, option_map, Option, Some, None, IsSome}
use Rattle.disk_model.specs.Crash.{Meaning}
use Rattle.redo_model.specs.Records.{Record}
use Rattle.session_laws.specs.Sessions.{own_of}
use Rattle.script_text.specs.declared.statement.Statement.{Statement}
use Rattle.history_model.specs.declared.history.HistoryItem.{HistoryItem}
use Rattle.history_model.specs.History.{IsSession, Task}
use Rattle.session_model.specs.Doings.{ShrinksOn}
use Rattle.session_model.specs.Sessions.{Session}
use Rattle.session_model.specs.Worlds.{IsWorld, Midway}
use Rattle.store_core.specs.Store.{Held, IsTrue}
use Rattle.scan_table.specs.declared.scan.OpenScan.{OpenScan}
use Rattle.scan_table.specs.Places.{place}
use Rattle.session_core.specs.declared.session.Doing.{Doing as ToldDoing}
use Rattle.session_core.specs.declared.session.Doing.TheVariants as told
use Rattle.session_core.specs.declared.session.OpenShrink.{OpenShrink}
use Rattle.session_core.specs.declared.dues.Dues.{Dues}
use Rattle.session_core.specs.Scanned.{IsShaped, doing_at}
use Rattle.session_core.specs.Located.{KeepsDoing}
use Rattle.session_core.specs.Marks.{marked_over}
use Rattle.session_core.specs.Shrinkers.{shrinker_of}
use Rattle.session_step.specs.declared.session.Session.{Session as Told}
use Rattle.session_step.specs.Bindings.{row_of}

-- ---- what an event of a session has

-- the store, the history, the open scans, the shrinks of other sessions, the labels with their rows, what the session is to settle,
-- and the session
pub record Stage (D : Type 0) : Type 0 where
  pub store : Held D
  pub history : List HistoryItem
  pub scans : List (Option OpenScan)
  pub shrinks : List OpenShrink
  pub labels : List (List ℕ × ℕ)
  pub dues : Dues
  pub session : Told

abbrev pub stage : {D : Type 0} → Held D → List HistoryItem → List (Option OpenScan) → List OpenShrink → List (List ℕ × ℕ) → Dues → Told → Stage D
stage store history scans shrinks labels dues session = record { store = store; history = history; scans = scans; shrinks = shrinks; labels = labels; dues = dues; session = session }

-- ---- a session

-- the session of a run, with the scan in its place
abbrev pub session_at : Option OpenScan → Told → Session
session_at p s = record { told = s.told; begins = s.begins; doing = doing_at p s.doing }

-- a scan is open exactly where the session is at one
abbrev pub IsHeld : Option OpenScan → ToldDoing → Type 0
IsHeld p told.Scanning = IsSome p
IsHeld p d = p ≡ None

-- ---- what the others shrink

-- the session that shrinks table o, of all but session who; none of them does where it is none
abbrev pub IsShrinker : List (List Statement) → (ℕ → Session) → ℕ → ℕ → Option ℕ → Type 0
IsShrinker scripts sessions who o None = (v : ℕ) → IsSession scripts v → v ≢ who → ShrinksOn (sessions v).doing o → ⊥
IsShrinker scripts sessions who o (Some v) = IsSession scripts v × (v ≢ who) × ShrinksOn (sessions v).doing o

-- these are the shrinks of the other sessions: of each table they tell which session shrinks it, or that none does
abbrev pub AreOpen : List (List Statement) → (ℕ → Session) → ℕ → List OpenShrink → Type 0
AreOpen scripts sessions who ks = (o : ℕ) → IsShrinker scripts sessions who o (shrinker_of ks o)

-- ---- before an event

-- The store is true of the records R. The sessions of the scripts are as the history says. Session who is this one, its transaction
-- is its own, its scan is open where it is at one, its row was located where it has its place, and what the others shrink is told.
pub record StandsAt {D : Type 0} (meaning : Meaning D) (scripts : List (List Statement)) (R0 R : List Record) (sessions : ℕ → Session) (who : ℕ) (a : Stage D) : Type 0 where
  pub stands : IsTrue meaning R a.store
  pub session : IsSession scripts who
  pub world : IsWorld a.store.shape scripts R0 R a.history sessions (row_of a.labels)
  pub shrinks : AreOpen scripts sessions who a.shrinks
  pub is : sessions who ≡ session_at (place who a.scans) a.session
  pub own : own_of R who ≡ a.session.own
  pub shaped : IsShaped a.store.shape (place who a.scans)
  pub held : IsHeld (place who a.scans) a.session.doing
  pub located : KeepsDoing a.store.shape R a.session.own a.session.doing

-- The same in the midst of the event: the start of its statement is told, and no record was added.
pub record IsMidway {D : Type 0} (meaning : Meaning D) (scripts : List (List Statement)) (R0 R : List Record) (sessions : ℕ → Session) (who : ℕ) (task : Task) (a : Stage D) : Type 0 where
  pub stands : IsTrue meaning R a.store
  pub midway : Midway a.store.shape scripts R0 R a.history sessions (row_of a.labels) who task (session_at (place who a.scans) a.session)
  pub shrinks : AreOpen scripts sessions who a.shrinks
  pub own : own_of R who ≡ a.session.own
  pub shaped : IsShaped a.store.shape (place who a.scans)
  pub held : IsHeld (place who a.scans) a.session.doing
  pub located : KeepsDoing a.store.shape R a.session.own a.session.doing

-- ---- after one

-- each other session's open scan is as it was, but for the mark of what the records R after the first n released
abbrev pub AreOthersMarked : ℕ → ℕ → List Record → List (Option OpenScan) → List (Option OpenScan) → Type 0
AreOthersMarked who n R before after = (v : ℕ) → 1 ≤ v → v ≢ who → place v after ≡ option_map (marked_over n R) (place v before)
