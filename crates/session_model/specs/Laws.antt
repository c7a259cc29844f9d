-- What an event keeps.
use Rattle.std.specs.Prelude.{◌≡◌, ◌≢◌, ℕ, suc, ◌≤◌, List, [], ◌∷◌, length, Option, Some, None}
use Rattle.seg_words.specs.Types.{Shape}
use Rattle.redo_model.specs.Records.{Record}
use Rattle.redo_model.specs.Model.{IsLawful, table_named}
use Rattle.session_laws.specs.Sessions.{own_of}
use Rattle.script_text.specs.declared.statement.Statement.{Statement}
use Rattle.history_text.specs.declared.outcome.Outcome.{Outcome}
use Rattle.history_model.specs.declared.history.Kept.{Kept}
use Rattle.history_model.specs.declared.history.HistoryItem.{HistoryItem}
use Rattle.history_model.specs.declared.history.HistoryItem.TheVariants as item
use Rattle.history_model.specs.History.{IsSession, Task, task_of, script_of, statement_of, bound_by, AreInTime}
use Rattle.history_model.specs.Causes.{IsShrunkBy}
use Rattle.history_model.specs.Legal.{IsLegal}
use Rattle.history_model.specs.Running.{IsRunning}
use Rattle.history_laws.specs.Working.{now_of}
use Rattle.history_laws.specs.Telling.{start_now, entry_now}
use Rattle.session_model.specs.Doings.{Doing, Waiting, ShrinksOn}
use Rattle.session_model.specs.Sessions.{Session, HasEnded}
use Rattle.session_model.specs.Done.{IsTidied}
use Rattle.session_model.specs.Worlds.{IsWorld, Midway, Acts, GoesOn, IsOverWith, IsNext}

-- ---- the beginning

-- no session has a transaction
abbrev pub NoneActive : List Record → Type 0
NoneActive R = (w : ℕ) → own_of R w ≡ None

abbrev pub fresh : ℕ → Session
fresh w = record { told = 0; begins = 0; doing = Waiting }

abbrev pub WorldsBegin : Type 0
WorldsBegin = (sh : Shape) (scripts : List (List Statement)) (R0 : List Record) → IsLawful sh R0 → NoneActive R0 → IsWorld sh scripts R0 R0 [] fresh (λ l. None)

-- ---- an event's first part

-- a session with nothing under way that isn't at its end starts its next statement
abbrev pub started : List Record → Session → Session
started R s = record { told = s.told; begins = length R; doing = Waiting }

abbrev pub StatementsStart : Type 0
StatementsStart =
    (sh : Shape) (scripts : List (List Statement)) (R0 R : List Record) (T : List HistoryItem) (sessions : ℕ → Session) (labels : List ℕ → Option ℕ) (w : ℕ) → IsSession scripts w → (sessions w).doing ≡ Waiting
    → (length (script_of scripts w) ≤ (sessions w).told → own_of R w ≡ None → ⊥) → IsWorld sh scripts R0 R T sessions labels
    → Midway sh scripts R0 R (item.Started (start_now R w) ∷ T) sessions labels w (task_of (start_now R w) T) (started R (sessions w))

-- one that is at work goes on
pub record IsAtWork (sh : Shape) (scripts : List (List Statement)) (R0 R : List Record) (T : List HistoryItem) (sessions : ℕ → Session) (labels : List ℕ → Option ℕ) (w : ℕ) : Type 0 where
  pub task : Task
  pub midway : Midway sh scripts R0 R T sessions labels w task (sessions w)

abbrev pub StatementsGoOn : Type 0
StatementsGoOn =
    (sh : Shape) (scripts : List (List Statement)) (R0 R : List Record) (T : List HistoryItem) (sessions : ℕ → Session) (labels : List ℕ → Option ℕ) (w : ℕ) → IsSession scripts w → (sessions w).doing ≢ Waiting → IsWorld sh scripts R0 R T sessions labels
    → IsAtWork sh scripts R0 R T sessions labels w

-- ---- its end

-- the statement goes on
abbrev pub EventsGoOn : Type 0
EventsGoOn =
    (sh : Shape) (scripts : List (List Statement)) (R0 Q R : List Record) (T : List HistoryItem) (sessions next : ℕ → Session) (labels : List ℕ → Option ℕ) (w : ℕ) (task : Task) (s : Session) (d : Doing) → IsLawful sh R
    → Midway sh scripts R0 Q T sessions labels w task s → Acts sh (now_of scripts Q w task) (statement_of scripts w s.told) R → GoesOn sh (now_of scripts R w task) (statement_of scripts w s.told) d
    → IsNext sh scripts w (length Q) R sessions next (record { told = s.told; begins = s.begins; doing = d }) → IsWorld sh scripts R0 R T next labels

-- or it is over, its entry is told, and an accepted insert bound its label
abbrev pub Binds : Option Statement → Outcome → (List ℕ → Option ℕ) → (List ℕ → Option ℕ) → Type 0
Binds st outcome labels next = (l : List ℕ) → next l ≡ bound_by st outcome l (labels l)

abbrev pub EventsEnd : Type 0
EventsEnd =
    (sh : Shape) (scripts : List (List Statement)) (R0 Q R : List Record) (T : List HistoryItem) (sessions next : ℕ → Session) (labels bound_next : List ℕ → Option ℕ) (w : ℕ) (task : Task) (s : Session) (moment : ℕ) (outcome : Outcome) (k : Kept)
    → IsLawful sh R → Midway sh scripts R0 Q T sessions labels w task s → Acts sh (now_of scripts Q w task) (statement_of scripts w s.told) R → IsOverWith sh (now_of scripts R w task) (statement_of scripts w s.told) outcome k
    → IsNext sh scripts w (length Q) R sessions next (record { told = suc s.told; begins = s.begins; doing = Waiting }) → Binds (statement_of scripts w s.told) outcome labels bound_next
    → IsWorld sh scripts R0 R (item.Told (entry_now scripts R w task moment outcome) k ∷ T) next bound_next

-- where it fails the records that it added belong to the statement, which stays under way
abbrev pub EventsFail : Type 0
EventsFail =
    (sh : Shape) (scripts : List (List Statement)) (R0 Q R : List Record) (T : List HistoryItem) (sessions : ℕ → Session) (labels : List ℕ → Option ℕ) (w : ℕ) (task : Task) (s : Session) → IsLawful sh R
    → Midway sh scripts R0 Q T sessions labels w task s → Acts sh (now_of scripts Q w task) (statement_of scripts w s.told) R → IsLegal sh scripts R0 R T

-- a settling leaves all as it was
abbrev pub SettlingsKeep : Type 0
SettlingsKeep =
    (sh : Shape) (scripts : List (List Statement)) (R0 Q R : List Record) (T : List HistoryItem) (sessions : ℕ → Session) (labels : List ℕ → Option ℕ) → IsLawful sh R → IsTidied Q R → IsWorld sh scripts R0 Q T sessions labels
    → IsWorld sh scripts R0 R T sessions labels

-- ---- what a session asks of the others

-- another session shrinks the table of a statement that starts: this is the cause of its refusal
abbrev pub ShrinksAreBusy : Type 0
ShrinksAreBusy =
    (sh : Shape) (scripts : List (List Statement)) (R0 R : List Record) (T : List HistoryItem) (sessions : ℕ → Session) (labels : List ℕ → Option ℕ) (w : ℕ) (task : Task) (s : Session) (name : List ℕ) (o v : ℕ) → s.doing ≡ Waiting
    → Midway sh scripts R0 R T sessions labels w task s → table_named R name ≡ Some o → IsSession scripts v → v ≢ w → ShrinksOn (sessions v).doing o → IsShrunkBy (now_of scripts R w task) name v

-- none does: so the cause doesn't apply
abbrev pub NoneIsBusy : Type 0
NoneIsBusy =
    (sh : Shape) (scripts : List (List Statement)) (R0 R : List Record) (T : List HistoryItem) (sessions : ℕ → Session) (labels : List ℕ → Option ℕ) (w : ℕ) (task : Task) (s : Session) (name : List ℕ) (o : ℕ) → s.doing ≡ Waiting
    → Midway sh scripts R0 R T sessions labels w task s → table_named R name ≡ Some o → ((v : ℕ) → IsSession scripts v → v ≢ w → ShrinksOn (sessions v).doing o → ⊥) → (v : ℕ) → IsShrunkBy (now_of scripts R w task) name v → ⊥

-- ---- the end

-- a session that waits, whose statements are told and that has no transaction, has ended
abbrev pub SessionsEnd : Type 0
SessionsEnd =
    (sh : Shape) (scripts : List (List Statement)) (R0 R : List Record) (T : List HistoryItem) (sessions : ℕ → Session) (labels : List ℕ → Option ℕ) (w : ℕ) → IsSession scripts w → IsWorld sh scripts R0 R T sessions labels → (sessions w).doing ≡ Waiting
    → length (script_of scripts w) ≤ (sessions w).told → own_of R w ≡ None → HasEnded scripts R T w

-- and only such a one
pub record IsAtEnd (scripts : List (List Statement)) (R : List Record) (w : ℕ) (s : Session) : Type 0 where
  pub waits : s.doing ≡ Waiting
  pub all_told : length (script_of scripts w) ≤ s.told
  pub none : own_of R w ≡ None

abbrev pub EndedSessions : Type 0
EndedSessions =
    (sh : Shape) (scripts : List (List Statement)) (R0 R : List Record) (T : List HistoryItem) (sessions : ℕ → Session) (labels : List ℕ → Option ℕ) (w : ℕ) → IsSession scripts w → IsWorld sh scripts R0 R T sessions labels → HasEnded scripts R T w
    → IsAtEnd scripts R w (sessions w)

-- what the sessions are makes a run
abbrev pub WorldsRun : Type 0
WorldsRun = (sh : Shape) (scripts : List (List Statement)) (R0 R : List Record) (T : List HistoryItem) (sessions : ℕ → Session) (labels : List ℕ → Option ℕ) (moment : ℕ) → IsWorld sh scripts R0 R T sessions labels → AreInTime moment T → IsRunning sh scripts R0 R T moment
