-- What an event of a statement finds, and what it does, with what it leaves in its session's place.
use Rattle.std.specs.Prelude.{◌≡◌, ℕ, false, List, length, Option, Some, None, Result, IfOk}
use Rattle.disk_model.specs.Crash.{Meaning}
use Rattle.redo_model.specs.Model.{Extends}
use Rattle.session_laws.specs.Sessions.{own_backed}
use Rattle.script_text.specs.declared.statement.Statement.{Statement}
use Rattle.script_text.specs.declared.statement.Statement.TheVariants as asked
use Rattle.history_model.specs.History.{bound}
use Rattle.history_model.specs.Spans.{Span}
use Rattle.session_model.specs.Doings.{takes_back}
use Rattle.session_model.specs.Worlds.{IsReady}
use Rattle.store_core.specs.Store.{Held}
use Rattle.store_core.specs.declared.fault.StoreFault.{StoreFault}
use Rattle.scan_table.specs.declared.scan.OpenScan.{OpenScan}
use Rattle.scan_table.specs.Places.{place}
use Rattle.session_core.specs.declared.session.Doing.{Doing as Told}
use Rattle.session_core.specs.declared.session.Doing.TheVariants as told
use Rattle.session_core.specs.declared.session.RowWork.{RowWork as ToldWork}
use Rattle.session_core.specs.declared.session.RepairWork.{RepairWork as ToldRepair}
use Rattle.session_core.specs.declared.session.OpenShrink.{OpenShrink}
use Rattle.session_core.specs.declared.turned.Acted.{Acted}
use Rattle.session_core.specs.Acked.{AcksTurned}
use Rattle.session_core.specs.Acting.{IsAt}
use Rattle.session_core.specs.Inserts.{IsBy}
use Rattle.session_core.specs.Located.{KeepsDoing}
use Rattle.session_core.specs.Shrinkers.{AreShrunk}
use Rattle.session_core.specs.Scanned.{IsShaped, IsKept, HasActedAt, doing_at}
use Rattle.session_step.specs.Bindings.{row_of}
use Rattle.session_step.specs.declared.shrinking.Part.{Part}
use Rattle.session_step.specs.declared.shrinking.Part.TheVariants as parts
use Rattle.session_step.specs.Stages.{IsHeld, AreOthersMarked}

-- a statement of which the events are built
abbrev pub IsBuilt : Statement → Type 0
IsBuilt asked.Checkpoint = ⊥
IsBuilt st = Unit {0}

-- ---- before its event

-- as it starts the labels are those of the history before it
abbrev pub AreLabelled : Span → List (List ℕ × ℕ) → Type 0
AreLabelled x labels = (l : List ℕ) → row_of labels l ≡ bound x.scripts x.past l

-- and these are the shrinks of other sessions
abbrev pub KnowsShrinks : Span → List OpenShrink → Told → Type 0
KnowsShrinks x ks d = d ≡ told.Waiting → AreShrunk x ks

-- Statement st of session who starts with this event, or is at this; nothing of the session's transaction is taken back but
-- while it takes it back.
pub record IsTurnOf {D : Type 0} (meaning : Meaning D) (x : Span) (st : Option Statement) (who : ℕ) (own : Option ℕ) (labels : List (List ℕ × ℕ)) (p : Option OpenScan) (d : Told) (s : Held D) : Type 0 where
  pub at : IsAt meaning x own s
  pub by : IsBy x who
  pub extends : Extends x.begun x.ended
  pub ready : IsReady s.shape x st (doing_at p d)
  pub whole : takes_back (doing_at p d) ≡ false → own_backed x.ended x.session ≡ false
  pub labelled : d ≡ told.Waiting → AreLabelled x labels
  pub shaped : IsShaped s.shape p
  pub held : IsHeld p d
  pub located : KeepsDoing s.shape x.ended own d

-- ---- what it is at

-- the table of an insert that is under way
abbrev pub inserting_in : Told → Option ℕ
inserting_in (told.Inserting o) = Some o
inserting_in d = None

-- the work of an update or a delete that is under way
abbrev pub work_in : Told → Option ToldWork
work_in (told.OnRow w) = Some w
work_in d = None

-- the work of a repair that is under way
abbrev pub repairing_in : Told → Option ToldRepair
repairing_in (told.Repairing w) = Some w
repairing_in d = None

-- which event of a shrink comes
abbrev pub part_of : Told → Part
part_of (told.Shrinking w) = parts.Step w
part_of (told.Lowering w) = parts.Last w
part_of d = parts.First

-- the table that a session shrinks
abbrev pub shrunk_in : Told → Option ℕ
shrunk_in (told.Shrinking w) = Some w.shrink.obj
shrunk_in (told.Lowering w) = Some w.obj
shrunk_in d = None

-- the transaction that is taken back
abbrev pub backing_in : Told → Option ℕ
backing_in (told.TakingBack t) = Some t
backing_in d = None

-- ---- after it

-- A scan is open exactly where the statement goes on with it; where a commit is told, no record waits. The scans of other sessions
-- are marked by what its records released.
pub record HasTurned {D : Type 0} (meaning : Meaning D) (x : Span) (st : Option Statement) (who : ℕ) (before after : List (Option OpenScan)) (old new : Held D) (result : Result Acted StoreFault) : Type 0 where
  pub acted : HasActedAt meaning x st (place who after) old new result
  pub kept : IfOk result (λ a. IsKept (place who after) a.turned)
  pub acked : IfOk result (λ a. AcksTurned new a.turned)
  pub marks : AreOthersMarked who (length x.ended) acted.records before after
