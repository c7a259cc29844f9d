-- What an event of a statement does to a true store, whatever it answers.
use Rattle.std.specs.Prelude.{◌≡◌, ◌↔◌, ℕ, ◌≤◌, false, List, Option, None, Result, IfOk, IfErr, IsErrOf}
use Rattle.seg_words.specs.Types.{Shape, Rose}
use Rattle.disk_model.specs.Crash.{Meaning}
use Rattle.redo_model.specs.Records.{Record}
use Rattle.session_laws.specs.Sessions.{own_of, own_backed}
use Rattle.script_text.specs.declared.statement.Statement.{Statement}
use Rattle.history_model.specs.Spans.{Span}
use Rattle.history_laws.specs.Working.{later}
use Rattle.session_model.specs.Worlds.{Acts, GoesOn, IsOverWith}
use Rattle.store_core.specs.Store.{Held, IsTrue}
use Rattle.store_core.specs.Survives.{Survives}
use Rattle.store_core.specs.Causes.{IsSoundFault, kept_fault}
use Rattle.store_core.specs.declared.fault.StoreFault.{StoreFault}
use Rattle.store_core.specs.declared.fault.StoreFault.TheVariants.{DeviceFault}
use Rattle.session_core.specs.declared.turned.Turned.{Turned}
use Rattle.session_core.specs.declared.turned.Turned.TheVariants as turned
use Rattle.session_core.specs.declared.turned.Acted.{Acted}
use Rattle.session_core.specs.Doings.{doing_of}
use Rattle.session_core.specs.Located.{KeepsTurned}

-- ---- before the event

-- a true store with the records with which the span ends, and the session's transaction
pub record IsAt {D : Type 0} (meaning : Meaning D) (x : Span) (own : Option ℕ) (s : Held D) : Type 0 where
  pub stands : IsTrue meaning x.ended s
  pub unspent : s.fault ≡ None
  pub own_is : own_of x.ended x.session ≡ own

-- a statement begins with this event, and nothing of the session's transaction is taken back
pub record IsStarting (x : Span) : Type 0 where
  pub at_once : x.ended ≡ x.begun
  pub whole : own_backed x.ended x.session ≡ false

-- ---- after it

abbrev pub TurnsTo : Shape → Span → Option Statement → Turned → Type 0
TurnsTo sh x st (turned.On d) = GoesOn sh x st (doing_of d)
TurnsTo sh x st (turned.Over outcome k) = IsOverWith sh x st outcome k

-- the statement goes on or is over with these records, the session has this transaction, and a place that the work has was located
pub record Turns (sh : Shape) (x : Span) (st : Option Statement) (R : List Record) (a : Acted) : Type 0 where
  pub turns : TurnsTo sh (later x R) st a.turned
  pub own : own_of R x.session ≡ a.own
  pub kept : KeepsTurned sh R a.own a.turned

-- These records stand afterwards, also where the event failed: they are its statement's. What survived a crash goes on surviving
-- it. The only faults are those of the disk and want of memory.
pub record HasActed {D : Type 0} (meaning : Meaning D) (x : Span) (st : Option Statement) (old new : Held D) (result : Result Acted StoreFault) : Type 0 where
  pub records : List Record
  pub stands : IsTrue meaning records new
  pub acts : Acts old.shape x st records
  pub stable : old.log.stable ≤ new.log.stable
  pub survives : (since : ℕ) (needed : ℕ → ℕ) → Survives meaning since needed x.ended old → Survives meaning since needed records new
  pub time : meaning.clock old.disk ≤ meaning.clock new.disk
  pub turns : IfOk result (Turns old.shape x st records)
  pub sound : IfErr result IsSoundFault

-- ---- of any store

-- the loan, the disk as it was when it was lent, and the shape are as before; no call read the log; the count of faults doesn't
-- fall
pub record KeepsLoan {D : Type 0} (meaning : Meaning D) (old new : Held D) : Type 0 where
  pub loan : new.loan ≡ old.loan
  pub first : new.first ≡ old.first
  pub shape : new.shape ≡ old.shape
  pub told : meaning.told new.disk ↔ meaning.told old.disk
  pub faults : meaning.fault_count old.disk ≤ meaning.fault_count new.disk
  pub reads : meaning.log_reads new.disk ≡ meaning.log_reads old.disk

-- and a fault of the disk comes only where its count rose; the store keeps the fault that is answered
pub record HasCalled {D T : Type 0} (meaning : Meaning D) (old new : Held D) (result : Result T StoreFault) : Type 0 where
  pub loan : KeepsLoan meaning old new
  pub device : IsErrOf result DeviceFault → Rose (meaning.fault_count old.disk) (meaning.fault_count new.disk)
  pub kept : new.fault ≡ kept_fault result
