-- A run between its events, and one event of it, as a world of sessions promises them. This engine's own.
use Rattle.std.specs.Prelude.{◌≡◌, ◌≢◌, ℕ, suc, ◌≤◌, Bool, true, false, cond, List, [], ◌∷◌, length, MatchOption, Option, Some, None}
use Rattle.seg_words.specs.Types.{Shape}
use Rattle.redo_record.specs.declared.record.Record.TheVariants as made
use Rattle.redo_model.specs.Records.{Record}
use Rattle.redo_model.specs.Model.{table_named, IsLawful}
use Rattle.redo_laws.specs.Scan.{scan_list}
use Rattle.session_laws.specs.Sessions.{own_of, own_backed}
use Rattle.script_text.specs.declared.statement.Statement.{Statement}
use Rattle.history_text.specs.declared.outcome.Outcome.{Outcome}
use Rattle.history_text.specs.declared.outcome.Outcome.TheVariants as told
use Rattle.history_model.specs.declared.history.Kept.{Kept}
use Rattle.history_model.specs.declared.history.Kept.TheVariants as kept
use Rattle.history_model.specs.declared.history.HistoryItem.{HistoryItem}
use Rattle.history_model.specs.declared.history.HistoryItem.TheVariants as item
use Rattle.history_model.specs.History.{Task, IsSession, statement_of, under_way, AreInTime, IsOver}
use Rattle.history_model.specs.Spans.{Span, now_of}
use Rattle.history_model.specs.Passing.{FirstPass}
use Rattle.history_model.specs.Legal.{StatesClass, IsCleaning, IsLegal}
use Rattle.history_model.specs.Running.{IsOnItsWay, IsRunning, IsAtEnd}
use Rattle.history_laws.specs.Working.{Work, WorkStands}
use Rattle.history_laws.specs.Events.{Goes}
use Rattle.history_laws.specs.Telling.{start_now, entry_now, MayStart, MayEnd}

-- ---- between events

-- a statement that came past its first tests and is at some work is on its way
abbrev pub WorksGoOn : Type 0
WorksGoOn = (sh : Shape) (x : Span) (st : Option Statement) (k : Work) → MatchOption st (Unit {0}) (λ s. FirstPass sh x s) → WorkStands sh x st k → IsOnItsWay sh x st

-- of one session: what it has under way is on its way; with nothing under way it has taken back nothing of its transaction
pub record SessionRuns (sh : Shape) (scripts : List (List Statement)) (R : List Record) (T : List HistoryItem) (w : ℕ) : Type 0 where
  pub under : (task : Task) → under_way T w ≡ Some task → IsOnItsWay sh (now_of scripts R w task) (statement_of scripts w task.place)
  pub whole : under_way T w ≡ None → own_backed R w ≡ false

-- so the run is, where each session of the scripts is so, and each active transaction is of one of them
abbrev pub SessionsRun : Type 0
SessionsRun =
    (sh : Shape) (scripts : List (List Statement)) (R0 R : List Record) (T : List HistoryItem) (moment : ℕ) → IsLegal sh scripts R0 R T → AreInTime moment T → ((w : ℕ) → IsSession scripts w → SessionRuns sh scripts R T w)
    → ((w t : ℕ) → own_of R w ≡ Some t → IsSession scripts w) → IsRunning sh scripts R0 R T moment

-- a run is at its end where all is told, nothing is under way, and no session has a transaction
abbrev pub RunsEnd : Type 0
RunsEnd =
    (sh : Shape) (scripts : List (List Statement)) (R0 R : List Record) (T : List HistoryItem) (moment : ℕ) → IsRunning sh scripts R0 R T moment → IsOver scripts T → ((w : ℕ) → IsSession scripts w → own_of R w ≡ None)
    → IsAtEnd sh scripts R0 R T moment

-- ---- one event

-- perhaps a statement starts: it begins after just the records that are there
abbrev pub with_start : Bool → List Record → ℕ → List HistoryItem → List HistoryItem
with_start true Q w T = item.Started (start_now Q w) ∷ T
with_start false Q w T = T

-- How many blocks a scan has read, were the statement one, by the number before its event: none at its first event, and one more
-- at each later one.
abbrev pub read_before : Bool → ℕ → ℕ
read_before starts read = cond starts 0 read

abbrev pub read_after : Bool → ℕ → ℕ
read_after starts read = cond starts 0 (suc read)

-- a scan tells its rows where it has read its whole list; a refused one keeps how many blocks it had read
abbrev pub ReadsTell : Shape → Span → ℕ → ℕ → Outcome → Kept → Type 0
ReadsTell sh x before after (told.Scan name at rows) k = (o : ℕ) → table_named x.begun name ≡ Some o → after ≡ length (scan_list sh x.begun o)
ReadsTell sh x before after outcome (kept.Read blocks) = blocks ≡ before
ReadsTell sh x before after outcome k = Unit {0}

-- the statement under way may end: it ends after just the records that are there, at this moment of the disk's clock
pub data Ends (sh : Shape) (scripts : List (List Statement)) (R : List Record) (w : ℕ) (before after now : ℕ) (T : List HistoryItem) : List HistoryItem → Type 0 where
  ends_none : Ends sh scripts R w before after now T T
  ends_one : (task : Task) (outcome : Outcome) (k : Kept) → MayEnd sh scripts R T w task outcome k → ReadsTell sh (now_of scripts R w task) before after outcome k → Ends sh scripts R w before after now T (item.Told (entry_now scripts R w task now outcome) k ∷ T)

-- An event of a statement of session w, whose scan had read so many blocks, leads from the records Q and the history T to R and U:
-- perhaps a start, then records that the session may add, then perhaps an entry. One that fails adds records alone, or none.
pub record IsEvent (sh : Shape) (scripts : List (List Statement)) (w read now : ℕ) (Q : List Record) (T : List HistoryItem) (R : List Record) (U : List HistoryItem) : Type 0 where
  pub starts : Bool
  pub may : starts ≡ true → MayStart scripts Q T w
  pub goes : Goes sh scripts (with_start starts Q w T) w Q R
  pub ends : Ends sh scripts R w (read_before starts read) (read_after starts read) now (with_start starts Q w T) U

-- a record that settles a block, of no statement
abbrev pub SettlesBlock : List Record → Record → Type 0
SettlesBlock R (made.Class k) = StatesClass R k
SettlesBlock R (made.Clean c) = IsCleaning R c
SettlesBlock R r = ⊥

-- R is Q with such records: what a settling adds, and a batch of pages adds none
pub data AreSettlings (Q : List Record) : List Record → Type 0 where
  settling_none : AreSettlings Q Q
  settling_one : {R : List Record} (r : Record) → AreSettlings Q R → SettlesBlock R r → AreSettlings Q (r ∷ R)

-- it keeps the history legal, and its moments in order
pub record EventKeeps (sh : Shape) (scripts : List (List Statement)) (R0 R : List Record) (U : List HistoryItem) (now : ℕ) : Type 0 where
  pub legal : IsLegal sh scripts R0 R U
  pub in_time : AreInTime now U

abbrev pub EventsKeep : Type 0
EventsKeep =
    (sh : Shape) (scripts : List (List Statement)) (w read before now : ℕ) (R0 Q R : List Record) (T U : List HistoryItem) → IsLawful sh R → before ≤ now → IsEvent sh scripts w read now Q T R U → IsLegal sh scripts R0 Q T → AreInTime before T
    → EventKeeps sh scripts R0 R U now

abbrev pub SettlingsKeep : Type 0
SettlingsKeep =
    (sh : Shape) (scripts : List (List Statement)) (before now : ℕ) (R0 Q R : List Record) (T : List HistoryItem) → IsLawful sh R → before ≤ now → AreSettlings Q R → IsLegal sh scripts R0 Q T → AreInTime before T → EventKeeps sh scripts R0 R T now

-- ---- a run

-- how many blocks the scans of the sessions had read, after such an event of session w
pub record ReadsGoOn (w : ℕ) (starts : Bool) (reads next : ℕ → ℕ) : Type 0 where
  pub own : next w ≡ read_after starts (reads w)
  pub others : (v : ℕ) → v ≢ w → next v ≡ reads v

-- What a call's events made, one after the other, of the records that it found, from this moment of the disk's clock on: so each
-- start and each entry has the numbers and the moment that it had, whether the last event came to its end or not.
pub data IsRun (sh : Shape) (scripts : List (List Statement)) (R0 : List Record) (first : ℕ) : List Record → List HistoryItem → ℕ → (ℕ → ℕ) → Type 0 where
  run_none : IsRun sh scripts R0 first R0 [] first (λ w. 0)
  run_settling : (before now : ℕ) (Q R : List Record) (T : List HistoryItem) (reads : ℕ → ℕ) → IsRun sh scripts R0 first Q T before reads → before ≤ now → IsLawful sh R → AreSettlings Q R → IsRun sh scripts R0 first R T now reads
  run_event : (w before now : ℕ) (Q R : List Record) (T U : List HistoryItem) (reads next : ℕ → ℕ) → IsRun sh scripts R0 first Q T before reads → before ≤ now → IsLawful sh R → (e : IsEvent sh scripts w (reads w) now Q T R U) → ReadsGoOn w e.starts reads next
      → IsRun sh scripts R0 first R U now next

-- so its history is legal
abbrev pub RunsAreLegal : Type 0
RunsAreLegal =
    (sh : Shape) (scripts : List (List Statement)) (R0 R : List Record) (T : List HistoryItem) (first now : ℕ) (reads : ℕ → ℕ) → IsLawful sh R0 → IsRun sh scripts R0 first R T now reads → EventKeeps sh scripts R0 R T now

-- ---- what a world of sessions promises after each event

-- the history is that of its events, and between two of them it is running
pub record IsWorldHistory (sh : Shape) (scripts : List (List Statement)) (R0 : List Record) (first : ℕ) (R : List Record) (T : List HistoryItem) (now : ℕ) (reads : ℕ → ℕ) : Type 0 where
  pub run : IsRun sh scripts R0 first R T now reads
  pub running : IsRunning sh scripts R0 R T now

-- it begins with nothing told, where no transaction is active
abbrev pub HistoriesBegin : Type 0
HistoriesBegin = (sh : Shape) (scripts : List (List Statement)) (R0 : List Record) (first : ℕ) → IsLawful sh R0 → ((w : ℕ) → own_of R0 w ≡ None) → IsWorldHistory sh scripts R0 first R0 [] first (λ w. 0)

-- the sessions are between events
pub record SessionsAreOn (sh : Shape) (scripts : List (List Statement)) (R : List Record) (T : List HistoryItem) : Type 0 where
  pub each : (w : ℕ) → IsSession scripts w → SessionRuns sh scripts R T w
  pub known : (w t : ℕ) → own_of R w ≡ Some t → IsSession scripts w

-- an event that leaves each session between events keeps it
abbrev pub HistoriesGoOn : Type 0
HistoriesGoOn =
    (sh : Shape) (scripts : List (List Statement)) (w first before now : ℕ) (R0 Q R : List Record) (T U : List HistoryItem) (reads next : ℕ → ℕ) → IsLawful sh R → before ≤ now → (e : IsEvent sh scripts w (reads w) now Q T R U) → ReadsGoOn w e.starts reads next
    → IsWorldHistory sh scripts R0 first Q T before reads → SessionsAreOn sh scripts R U → IsWorldHistory sh scripts R0 first R U now next

-- so does a settling, and a batch
abbrev pub HistoriesSettle : Type 0
HistoriesSettle =
    (sh : Shape) (scripts : List (List Statement)) (first before now : ℕ) (R0 Q R : List Record) (T : List HistoryItem) (reads : ℕ → ℕ) → IsLawful sh R → before ≤ now → AreSettlings Q R → IsWorldHistory sh scripts R0 first Q T before reads
    → SessionsAreOn sh scripts R T → IsWorldHistory sh scripts R0 first R T now reads
