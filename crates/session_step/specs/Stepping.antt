-- One event of one session of a run.
use Rattle.std.specs.Prelude.{◌≡◌, ◌≢◌, ◌⊎◌, ℕ, suc, ◌≤◌, true, List, [], length, is_some, Option, Result, Ok, Err, OnOk, OnErr, IfOk, IfErr}
use Rattle.disk_model.specs.Crash.{Meaning}
use Rattle.redo_model.specs.Records.{Record}
use Rattle.session_laws.specs.Sessions.{own_of}
use Rattle.script_text.specs.declared.statement.Statement.{Statement}
use Rattle.history_model.specs.History.{AreInTime}
use Rattle.history_model.specs.Legal.{IsLegal}
use Rattle.history_laws.specs.Events.{Goes}
use Rattle.session_model.specs.Sessions.{Session, HasEnded}
use Rattle.session_model.specs.Worlds.{IsWorld, IsNext}
use Rattle.store_core.specs.Store.{IsTrue}
use Rattle.store_core.specs.Survives.{Survives}
use Rattle.store_core.specs.Causes.{IsSoundFault}
use Rattle.store_core.specs.declared.fault.StoreFault.{StoreFault}
use Rattle.scan_table.specs.Places.{place}
use Rattle.session_core.specs.declared.session.Doing.{Doing as ToldDoing}
use Rattle.session_core.specs.Located.{KeepsDoing}
use Rattle.session_core.specs.Scanned.{IsShaped}
use Rattle.session_core.specs.Owing.{AreDropped, SettlesFirst}
use Rattle.session_core.specs.Dues.{noted_after}
use Rattle.session_core.specs.declared.changed.Changed.{Changed}
use Rattle.session_core.specs.declared.dues.Dues.{Dues}
use Rattle.session_step.specs.declared.session.Turn.{Turn}
use Rattle.session_step.specs.declared.session.Turn.TheVariants as turns
use Rattle.session_step.specs.Bindings.{row_of}
use Rattle.session_step.specs.Stages.{Stage, session_at, IsHeld, AreOthersMarked}
use Rattle.session_step.specs.Telling.{IsEntryOf, OfNewest}
use Rattle.session_step.specs.Events.{Closes, TurnMakes}

-- ---- the records, the history and the sessions

-- From the records R the event led to these, and with the history all is legal, also where it failed; where it didn't, the
-- sessions are as the history says. No other session's transaction changed, its scan is marked by what was released, and a row that it
-- located stays so.
pub record HasRun {D : Type 0} (meaning : Meaning D) (scripts : List (List Statement)) (R0 R : List Record) (sessions : ℕ → Session) (who : ℕ) (a b : Stage D) (result : Result (Unit {0}) StoreFault) : Type 0 where
  pub records : List Record
  pub stands : IsTrue meaning records b.store
  pub stable : a.store.log.stable ≤ b.store.log.stable
  pub survives : (since : ℕ) (needed : ℕ → ℕ) → Survives meaning since needed R a.store → Survives meaning since needed records b.store
  pub time : meaning.clock a.store.disk ≤ meaning.clock b.store.disk
  pub legal : IsLegal a.store.shape scripts R0 records b.history
  pub world : OnOk result ((next : ℕ → Session) → IsNext a.store.shape scripts who (length R) records sessions next (session_at (place who b.scans) b.session) → IsWorld a.store.shape scripts R0 records b.history next (row_of b.labels))
  pub own : OnOk result (own_of records who ≡ b.session.own)
  pub shaped : IsShaped a.store.shape (place who b.scans)
  pub held : OnOk result (IsHeld (place who b.scans) b.session.doing)
  pub located : OnOk result (KeepsDoing a.store.shape records b.session.own b.session.doing)
  pub marks : AreOthersMarked who (length R) records a.scans b.scans
  pub others : (v : ℕ) → v ≢ who → own_of records v ≡ own_of R v
  pub others_located : (v : ℕ) (d : ToldDoing) → v ≢ who → KeepsDoing a.store.shape R (own_of R v) d → KeepsDoing a.store.shape records (own_of records v) d
  pub in_time : AreInTime (meaning.clock a.store.disk) a.history → AreInTime (meaning.clock b.store.disk) b.history
  pub entry : b.session.told ≡ suc a.session.told → OfNewest (IsEntryOf meaning who records b.store) b.history
  pub untold : OnErr result (b.session.told ≡ a.session.told)
  pub sound : IfErr result IsSoundFault

-- The same of an event whose statement is under way as it begins: its session added these records, and then perhaps its entry was
-- told.
pub record HasRunOn {D : Type 0} (meaning : Meaning D) (scripts : List (List Statement)) (R0 R : List Record) (sessions : ℕ → Session) (who : ℕ) (a b : Stage D) (result : Result (Unit {0}) StoreFault) : Type 0 where
  pub run : HasRun meaning scripts R0 R sessions who a b result
  pub goes : Goes a.store.shape scripts a.history who R run.records
  pub closes : Closes run.records who a.history b.history

-- ---- what is owed

-- Some row blocks of a table were changed, if any: they are owed and stay noted, and where no transaction is open all that were
-- noted are owed.
pub record Owes (d e : Dues) (own : Option ℕ) : Type 0 where
  pub blocks : Changed
  pub noted : e ≡ noted_after blocks (is_some own) d

-- ---- what kind of event it was

-- all but the store and what is owed is as it was
pub record IsUnchanged {D : Type 0} (a b : Stage D) : Type 0 where
  pub history : b.history ≡ a.history
  pub scans : b.scans ≡ a.scans
  pub labels : b.labels ≡ a.labels
  pub session : b.session ≡ a.session

-- the first owed block that calls for it was settled, and stays owed; nothing else was done
pub record HasPaid {D : Type 0} (R S : List Record) (a b : Stage D) : Type 0 where
  pub same : IsUnchanged a b
  pub dropped : AreDropped a.store.shape R a.dues.owed b.dues.owed
  pub noted : b.dues.noted ≡ a.dues.noted
  pub first : SettlesFirst a.store.shape R S b.dues.owed true

-- nothing is left of the session, no block that it owes calls for anything, and no record was added
pub record HasNothing {D : Type 0} (scripts : List (List Statement)) (R S : List Record) (who : ℕ) (a b : Stage D) : Type 0 where
  pub ended : HasEnded scripts R a.history who
  pub same : IsUnchanged a b
  pub paid : AreDropped a.store.shape R a.dues.owed []
  pub owed : b.dues.owed ≡ []
  pub records : S ≡ R

abbrev pub unowed : Dues → Dues
unowed d = record { owed = []; noted = d.noted }

-- no owed block called for anything, and the session hadn't ended: its statement went on or was over
pub record HasGone {D : Type 0} (scripts : List (List Statement)) (R : List Record) (who : ℕ) (a b : Stage D) : Type 0 where
  pub more : HasEnded scripts R a.history who → ⊥
  pub paid : AreDropped a.store.shape R a.dues.owed []
  pub owes : Owes (unowed a.dues) b.dues b.session.own

abbrev pub TurnIs : {D : Type 0} → List (List Statement) → List Record → List Record → ℕ → Stage D → Stage D → Turn → Type 0
TurnIs scripts R S who a b turns.Made = HasPaid R S a b ⊎ HasGone scripts R who a b
TurnIs scripts R S who a b turns.Ended = HasNothing scripts R S who a b

-- of a session that owes nothing
abbrev pub PaidTurnIs : {D : Type 0} → List (List Statement) → List Record → List Record → ℕ → Stage D → Stage D → Turn → Type 0
PaidTurnIs scripts R S who a b turns.Made = (HasEnded scripts R a.history who → ⊥) × Owes a.dues b.dues b.session.own
PaidTurnIs scripts R S who a b turns.Ended = HasEnded scripts R a.history who × IsUnchanged a b × (b.dues ≡ a.dues) × (S ≡ R)

-- what of an answer is the store's
abbrev pub done_part : Result Turn StoreFault → Result (Unit {0}) StoreFault
done_part (Ok turn) = Ok tt
done_part (Err fault) = Err fault

-- Of a session in a run: at Made it made an event; at Ended the session had ended and owed nothing.
pub record HasStepped {D : Type 0} (meaning : Meaning D) (scripts : List (List Statement)) (R0 R : List Record) (sessions : ℕ → Session) (who : ℕ) (a b : Stage D) (result : Result Turn StoreFault) : Type 0 where
  pub run : HasRun meaning scripts R0 R sessions who a b (done_part result)
  pub turn : IfOk result (TurnIs scripts R run.records who a b)
  pub makes : TurnMakes a.store.shape scripts who R a.history run.records b.history result

pub record HasPaidStep {D : Type 0} (meaning : Meaning D) (scripts : List (List Statement)) (R0 R : List Record) (sessions : ℕ → Session) (who : ℕ) (a b : Stage D) (result : Result Turn StoreFault) : Type 0 where
  pub run : HasRun meaning scripts R0 R sessions who a b (done_part result)
  pub turn : IfOk result (PaidTurnIs scripts R run.records who a b)
  pub makes : TurnMakes a.store.shape scripts who R a.history run.records b.history result
