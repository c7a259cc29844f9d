-- The events of a scan: the open scan stands beside the store, in its session's place.
use Rattle.std.specs.Prelude.{◌≡◌, ℕ, ◌≤◌, List, Option, Some, None, IsSome, Result, Ok, Err, IfOk, IfErr}
use Rattle.seg_words.specs.Types.{Shape}
use Rattle.disk_model.specs.Crash.{Meaning}
use Rattle.redo_model.specs.Records.{Record}
use Rattle.session_laws.specs.Sessions.{own_of}
use Rattle.script_text.specs.declared.statement.Statement.{Statement}
use Rattle.history_text.specs.declared.outcome.Outcome.TheVariants as outcome
use Rattle.history_text.specs.declared.refusal.Refusal.{Refusal}
use Rattle.history_text.specs.declared.refusal.Refusal.TheVariants as why
use Rattle.history_model.specs.declared.history.Kept.TheVariants as kept
use Rattle.history_model.specs.Spans.{Span}
use Rattle.history_laws.specs.Working as working
use Rattle.history_laws.specs.Working.{Scanning, later}
use Rattle.session_model.specs.Doings.{Doing, Working}
use Rattle.session_model.specs.Worlds.{Acts, GoesOn, IsOverWith}
use Rattle.store_core.specs.Store.{Held, IsTrue}
use Rattle.store_core.specs.Survives.{Survives}
use Rattle.store_core.specs.Causes.{IsSoundFault}
use Rattle.store_core.specs.declared.fault.StoreFault.{StoreFault}
use Rattle.scan_table.specs.Sessions.{scan_of}
use Rattle.scan_table.specs.declared.answer.ScanFault.{ScanFault}
use Rattle.scan_table.specs.declared.answer.ScanFault.TheVariants as faults
use Rattle.scan_table.specs.declared.answer.ScanStep.{ScanStep}
use Rattle.scan_table.specs.declared.answer.ScanStep.TheVariants as steps
use Rattle.scan_table.specs.declared.scan.OpenScan.{OpenScan}
use Rattle.session_core.specs.declared.session.Doing.{Doing as Told}
use Rattle.session_core.specs.declared.session.Doing.TheVariants as told
use Rattle.session_core.specs.declared.turned.Turned.{Turned}
use Rattle.session_core.specs.declared.turned.Turned.TheVariants as turned
use Rattle.session_core.specs.declared.turned.Acted.{Acted}
use Rattle.session_core.specs.Doings.{doing_of, no_scan}
use Rattle.session_core.specs.Located.{KeepsTurned}

-- ---- a session's place

-- the scan in it, as its statement's work
abbrev pub scan_in : Option OpenScan → working.OpenScan
scan_in None = no_scan
scan_in (Some s) = scan_of s

-- what a session is at, with the scan in its place
abbrev pub doing_at : Option OpenScan → Told → Doing
doing_at p told.Scanning = Working (Scanning (scan_in p))
doing_at p d = doing_of d

-- the scan in it is of a store of this shape
abbrev pub IsShaped : Shape → Option OpenScan → Type 0
IsShaped sh None = Unit {0}
IsShaped sh (Some s) = s.shape ≡ sh

-- whatever the store is, a scan is open exactly where the statement goes on with it
abbrev pub IsKept : Option OpenScan → Turned → Type 0
IsKept p (turned.On told.Scanning) = IsSome p
IsKept p (turned.On d) = p ≡ None
IsKept p (turned.Over outcome k) = p ≡ None

-- ---- after an event

abbrev pub TurnsAt : Option OpenScan → Shape → Span → Option Statement → Turned → Type 0
TurnsAt p sh x st (turned.On d) = GoesOn sh x st (doing_at p d)
TurnsAt p sh x st (turned.Over outcome k) = IsOverWith sh x st outcome k

-- the statement goes on or is over with these records, the session has this transaction, and a place that the work has was located
pub record TurnsWith (p : Option OpenScan) (sh : Shape) (x : Span) (st : Option Statement) (R : List Record) (a : Acted) : Type 0 where
  pub turns : TurnsAt p sh (later x R) st a.turned
  pub own : own_of R x.session ≡ a.own
  pub kept : KeepsTurned sh R a.own a.turned

-- What an event of a statement does to a true store, whatever it answers, with what is in the session's place afterwards.
pub record HasActedAt {D : Type 0} (meaning : Meaning D) (x : Span) (st : Option Statement) (p : Option OpenScan) (old new : Held D) (result : Result Acted StoreFault) : Type 0 where
  pub records : List Record
  pub stands : IsTrue meaning records new
  pub acts : Acts old.shape x st records
  pub stable : old.log.stable ≤ new.log.stable
  pub survives : (since : ℕ) (needed : ℕ → ℕ) → Survives meaning since needed x.ended old → Survives meaning since needed records new
  pub time : meaning.clock old.disk ≤ meaning.clock new.disk
  pub turns : IfOk result (TurnsWith p old.shape x st records)
  pub placed : IsShaped old.shape p
  pub sound : IfErr result IsSoundFault

-- ---- what a scan's event answers, of the table of this name, where so many blocks were read before it

abbrev pub stopped : Refusal → ℕ → Option ℕ → Acted
stopped y read own = record { turned = turned.Over (outcome.Refused y) (kept.Read read); own = own }

abbrev pub failed : ScanFault → ℕ → Option ℕ → Result Acted StoreFault
failed (faults.TooOld a) read own = Ok (stopped (why.TooOld a) read own)
failed (faults.TooOldEntry u) read own = Ok (stopped (why.TooOldEntry u) read own)
failed (faults.Gone e n) read own = Ok (stopped (why.ObjectGone e n) read own)
failed (faults.Store f) read own = Err f

abbrev pub stepped : ScanStep → List ℕ → Option ℕ → Acted
stepped steps.More name own = record { turned = turned.On told.Scanning; own = own }
stepped (steps.Done d) name own = record { turned = turned.Over (outcome.Scan name d.at d.rows) kept.Nothing; own = own }

abbrev pub answered : Result ScanStep ScanFault → List ℕ → ℕ → Option ℕ → Result Acted StoreFault
answered (Ok step) name read own = Ok (stepped step name own)
answered (Err fault) name read own = failed fault read own
