-- How far an opening has come with a store.
use Rattle.std.specs.Prelude.{◌≡◌, ◌↔◌, ℕ, ◌≤◌, Bool, true, false, List, Result, OnOk, OnErr, IfErr}
use Rattle.disk_model.specs.Crash.{Meaning}
use Rattle.redo_model.specs.Records.{Record}
use Rattle.redo_model.specs.Model.{Extends}
use Rattle.rollback_laws.specs.Closing.{closed, rolled_back, IsFirst}
use Rattle.store_core.specs.Store.{Held, IsTrue}
use Rattle.store_core.specs.Survives.{Survives}
use Rattle.store_core.specs.Causes.{IsSoundFault}
use Rattle.store_core.specs.declared.fault.StoreFault.{StoreFault}

-- The store had the records R and has Q, on the way to the list that an opening makes of R; what survives a crash goes on surviving
-- it. The clock doesn't fall.
pub record HasCome {D : Type 0} (meaning : Meaning D) (R Q : List Record) (old new : Held D) : Type 0 where
  pub from : Extends R Q
  pub closes : closed Q ≡ closed R
  pub is_true : IsTrue meaning Q new
  pub stable : old.log.stable ≤ new.log.stable
  pub later : meaning.clock old.disk ≤ meaning.clock new.disk
  pub survives : (since : ℕ) (needed : ℕ → ℕ) → Survives meaning since needed R old → Survives meaning since needed Q new

-- it has come to some list on the way
pub record HasStopped {D : Type 0} (meaning : Meaning D) (R : List Record) (old new : Held D) : Type 0 where
  pub list : List Record
  pub come : HasCome meaning R list old new

-- Of a true store with the records R: at Ok it has come to next, at Err to some list on the way; the only faults are those of the
-- disk and want of memory.
pub record Comes {D T : Type 0} (meaning : Meaning D) (R next : List Record) (old new : Held D) (result : Result T StoreFault) : Type 0 where
  pub done : OnOk result (HasCome meaning R next old new)
  pub stopped : OnErr result (HasStopped meaning R old new)
  pub sound : IfErr result IsSoundFault

-- the least active transaction of R was taken back
pub record TookBack {D : Type 0} (meaning : Meaning D) (R : List Record) (old new : Held D) : Type 0 where
  pub txn : ℕ
  pub first : IsFirst R txn
  pub come : HasCome meaning R (rolled_back R txn) old new

-- none was active
pub record WasClosed {D : Type 0} (meaning : Meaning D) (R : List Record) (old new : Held D) : Type 0 where
  pub is : closed R ≡ R
  pub come : HasCome meaning R R old new

-- whether there was one that was active
abbrev pub ComesNext : {D : Type 0} → Meaning D → List Record → Held D → Held D → Bool → Type 0
ComesNext meaning R old new true = TookBack meaning R old new
ComesNext meaning R old new false = WasClosed meaning R old new

-- The disk's loan, the disk as it was when it was lent, and the shape are as before; no call read the log; and the count of faults
-- doesn't fall. It is SameLoan without the clock: of a store whose records aren't lawful no list is known after a step of a rollback.
-- HasCome has the clock of a true store.
pub record Keeps {D : Type 0} (meaning : Meaning D) (old new : Held D) : Type 0 where
  pub loan : new.loan ≡ old.loan
  pub first : new.first ≡ old.first
  pub shape : new.shape ≡ old.shape
  pub told : meaning.told new.disk ↔ meaning.told old.disk
  pub reads : meaning.log_reads new.disk ≡ meaning.log_reads old.disk
  pub faults : meaning.fault_count old.disk ≤ meaning.fault_count new.disk
