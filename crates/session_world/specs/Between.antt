-- A run between two events.
use Rattle.std.specs.Prelude.{◌≡◌, ℕ, ◌≤◌, List, [], ◌∷◌, length, Option, None, Result, Ok, Err}
use Rattle.std.specs.Io.KnownBytes.{Appends}
use Rattle.disk_model.specs.Crash.{Meaning}
use Rattle.redo_model.specs.Records.{Record}
use Rattle.session_laws.specs.Sessions.{own_of}
use Rattle.script_text.specs.declared.statement.Statement.{Statement}
use Rattle.history_model.specs.History.{IsSession, AreInTime}
use Rattle.session_model.specs.Sessions.{HasEnded}
use Rattle.session_model.specs.Worlds.{IsWorld}
use Rattle.store_core.specs.Store.{Held, IsTrue}
use Rattle.store_core.specs.Survives.{Survives}
use Rattle.scan_table.specs.Places.{place}
use Rattle.session_core.specs.Scanned.{IsShaped}
use Rattle.session_core.specs.Located.{KeepsDoing}
use Rattle.session_step.specs.declared.session.Turn.{Turn}
use Rattle.session_step.specs.declared.session.Turn.TheVariants as turns
use Rattle.session_step.specs.Bindings.{row_of}
use Rattle.session_step.specs.Stages.{IsHeld}
use Rattle.session_world.specs.declared.fault.RunFault.{RunFault}
use Rattle.session_world.specs.declared.events.Run.{Run}
use Rattle.session_world.specs.Seats.{unstarted, told_at, seen_in}
use Rattle.session_world.specs.Order.{AreTurns}
use Rattle.session_world.specs.Whole.{text_of, needed_by, HasRunTurns}

-- no session of so many has started
pub record IsFresh (count : ℕ) (run : Run) : Type 0 where
  pub seats : length run.seats.items ≡ count
  pub idle : (w : ℕ) → told_at run.seats.items w ≡ unstarted
  pub closed : (w : ℕ) → place w run.scans ≡ None
  pub unlabelled : run.labels ≡ []
  pub untold : run.history ≡ []

-- The sessions of the scripts are as the records R and the history say, and so are the labels; each of them knows its active
-- transaction. A scan is open exactly where its session is at one, and of the store's shape; rows that were located stand where they
-- were.
pub record IsRunAt {D : Type 0} (meaning : Meaning D) (scripts : List (List Statement)) (R0 R : List Record) (s : Held D) (run : Run) : Type 0 where
  pub stands : IsTrue meaning R s
  pub seats : length run.seats.items ≡ length scripts
  pub world : IsWorld s.shape scripts R0 R run.history (seen_in run.seats.items run.scans) (row_of run.labels)
  pub own : (w : ℕ) → IsSession scripts w → own_of R w ≡ (told_at run.seats.items w).own
  pub shaped : (w : ℕ) → IsSession scripts w → IsShaped s.shape (place w run.scans)
  pub held : (w : ℕ) → IsSession scripts w → IsHeld (place w run.scans) (told_at run.seats.items w).doing
  pub located : (w : ℕ) → IsSession scripts w → KeepsDoing s.shape R (own_of R w) (told_at run.seats.items w).doing
  pub in_time : AreInTime (meaning.clock s.disk) run.history

-- So it is after the turns of these sessions in a run that began with the records R0 of the store `first`: they made what stands,
-- the sink took the lines of all entries, and what was told goes on surviving a crash.
pub record IsSoFar {D : Type 0} (meaning : Meaning D) (scripts : List (List Statement)) (R0 R : List Record) (called : List ℕ) (first now : Held D) (before after : Option (List ℕ)) (run : Run) : Type 0 where
  pub at : IsRunAt meaning scripts R0 R now run
  pub shape : now.shape ≡ first.shape
  pub turns : AreTurns first.shape scripts R0 called R run.history
  pub took : Appends before after (text_of run.history)
  pub survives : (since found : ℕ) → Survives meaning since (λ m. found) R0 first → Survives meaning since (needed_by found run.history) R now
  pub time : meaning.clock first.disk ≤ meaning.clock now.disk

-- with some records
pub record IsOn {D : Type 0} (meaning : Meaning D) (scripts : List (List Statement)) (R0 : List Record) (called : List ℕ) (first now : Held D) (before after : Option (List ℕ)) (run : Run) : Type 0 where
  pub records : List Record
  pub so_far : IsSoFar meaning scripts R0 records called first now before after run

-- the run goes on after all these turns, or it has stopped by then
abbrev pub GoesOn : {D A : Type 0} → Meaning D → List (List Statement) → List Record → List ℕ → Held D → Held D → Option (List ℕ) → Option (List ℕ) → Run → Result A RunFault → Type 0
GoesOn meaning scripts R0 all first now before after run (Ok a) = IsOn meaning scripts R0 all first now before after run
GoesOn meaning scripts R0 all first now before after run (Err f) = HasRunTurns meaning scripts R0 all first now before after (Err f)

-- each session of the scripts has ended
pub record IsIdle {D : Type 0} (meaning : Meaning D) (scripts : List (List Statement)) (R0 : List Record) (called : List ℕ) (first now : Held D) (before after : Option (List ℕ)) (run : Run) : Type 0 where
  pub records : List Record
  pub so_far : IsSoFar meaning scripts R0 records called first now before after run
  pub ended : (w : ℕ) → IsSession scripts w → HasEnded scripts records run.history w

-- ---- one turn

-- the session had ended, and the records and the history are as they were
pub record IsPassedOver {D : Type 0} (meaning : Meaning D) (scripts : List (List Statement)) (R0 R : List Record) (called : List ℕ) (who : ℕ) (first now : Held D) (before after : Option (List ℕ)) (was run : Run) : Type 0 where
  pub so_far : IsSoFar meaning scripts R0 R (who ∷ called) first now before after run
  pub same : run.history ≡ was.history
  pub ended : IsSession scripts who → HasEnded scripts R run.history who

-- a turn of a session in a run that had the records R, after the turns of these sessions
abbrev pub TakesTurn : {D : Type 0} → Meaning D → List (List Statement) → List Record → List Record → List ℕ → ℕ → Held D → Held D → Option (List ℕ) → Option (List ℕ) → Run → Run → Result Turn RunFault → Type 0
TakesTurn meaning scripts R0 R called who first now before after was run (Ok turns.Made) = IsOn meaning scripts R0 (who ∷ called) first now before after run
TakesTurn meaning scripts R0 R called who first now before after was run (Ok turns.Ended) = IsPassedOver meaning scripts R0 R called who first now before after was run
TakesTurn meaning scripts R0 R called who first now before after was run (Err f) = HasRunTurns meaning scripts R0 (who ∷ called) first now before after (Err f)
