-- What a store's answers tell, and what they leave.
use Rattle.std.specs.Prelude.{◌≡◌, ℕ, ◌≤◌, Option, Some, None, Result, Ok, Err, IsErrOf, OnOk, List}
use Rattle.seg_words.specs.Types.{Rose}
use Rattle.disk_model.specs.Crash.{Meaning}
use Rattle.log_frame.specs.declared.fault.FrameFault.{FrameFault}
use Rattle.log_frame.specs.declared.fault.FrameFault.TheVariants as frames
use Rattle.redo_model.specs.Records.{Record}
use Rattle.redo_log.specs.declared.fault.LogFault.{LogFault}
use Rattle.redo_log.specs.declared.fault.LogFault.TheVariants as logs
use Rattle.page_store.specs.declared.fault.PageFault.{PageFault}
use Rattle.page_store.specs.declared.fault.PageFault.TheVariants as pages
use Rattle.pool_store.specs.Store.{Held, HasList, IsTrue, SameLoan}
use Rattle.pool_store.specs.Survives.{Survives}
use Rattle.pool_store.specs.declared.fault.StoreFault.{StoreFault}
use Rattle.pool_store.specs.declared.fault.StoreFault.TheVariants.{DeviceFault, BadPage, NoMemory}
use Rattle.pool_store.specs.declared.fault.StoreOpen.{StoreOpen}
use Rattle.pool_store.specs.declared.fault.StoreOpen.TheVariants as opens

-- what a true store may answer
abbrev pub IsSoundFault : StoreFault → Type 0
IsSoundFault DeviceFault = Unit {0}
IsSoundFault (BadPage dba) = ⊥
IsSoundFault NoMemory = Unit {0}

-- the fault that a store keeps of one that it answers: without memory it goes on
abbrev pub lasting_fault : StoreFault → Option StoreFault
lasting_fault DeviceFault = Some DeviceFault
lasting_fault (BadPage dba) = Some (BadPage dba)
lasting_fault NoMemory = None

-- the same of an answer
abbrev pub kept_fault : {T : Type 0} → Result T StoreFault → Option StoreFault
kept_fault (Ok answer) = None
kept_fault (Err fault) = lasting_fault fault

-- the fault of the pages
abbrev pub page_fault : PageFault → StoreFault
page_fault pages.DeviceFault = DeviceFault
page_fault (pages.BadPage block) = BadPage block
page_fault pages.NoMemory = NoMemory

-- A store that kept no fault answers DeviceFault only where the disk's count of faults rose, and keeps the fault that it
-- answers. One that kept a fault answers it, and stays as it was.
pub record HasCause {D T : Type 0} (meaning : Meaning D) (old new : Held D) (result : Result T StoreFault) : Type 0 where
  pub device : old.fault ≡ None → IsErrOf result DeviceFault → Rose (meaning.fault_count old.disk) (meaning.fault_count new.disk)
  pub kept : old.fault ≡ None → new.fault ≡ kept_fault result
  pub goes_on : OnOk result (old.fault ≡ None)
  pub answers : (fault : StoreFault) → old.fault ≡ Some fault → IsErrOf result fault
  pub stays : (fault : StoreFault) → old.fault ≡ Some fault → new ≡ old

-- a call that adds no record and leaves the list; it may make more of it stable, and whatever survived a crash goes on surviving it
pub record HasLooked {D T : Type 0} (meaning : Meaning D) (old new : Held D) (result : Result T StoreFault) : Type 0 where
  pub loan : SameLoan meaning old new
  pub cause : HasCause meaning old new result
  pub list : (R : List Record) → HasList meaning R old → HasList meaning R new
  pub stays_true : (R : List Record) → IsTrue meaning R old → IsTrue meaning R new
  pub stable : (R : List Record) → HasList meaning R old → old.log.stable ≤ new.log.stable
  pub survives : (since : ℕ) (needed : ℕ → ℕ) (R : List Record) → IsTrue meaning R old → Survives meaning since needed R old → Survives meaning since needed R new

-- what the making of a store of a sound log may answer
abbrev pub IsSoundOpen : StoreOpen → Type 0
IsSoundOpen opens.DeviceFault = Unit {0}
IsSoundOpen opens.NotOpen = ⊥
IsSoundOpen (opens.BadLog offset seen) = ⊥
IsSoundOpen (opens.BadPage dba) = ⊥
IsSoundOpen opens.NoMemory = Unit {0}

-- the same of its head and of its groups
abbrev pub IsSoundFrame : FrameFault → Type 0
IsSoundFrame frames.DeviceFault = Unit {0}
IsSoundFrame frames.NotOpen = ⊥
IsSoundFrame (frames.BadFrame offset seen) = ⊥
IsSoundFrame frames.NoMemory = Unit {0}

abbrev pub IsSoundLog : LogFault → Type 0
IsSoundLog logs.DeviceFault = Unit {0}
IsSoundLog logs.NotOpen = ⊥
IsSoundLog (logs.BadLog offset seen) = ⊥
IsSoundLog logs.NoMemory = Unit {0}

-- this holds of the answer, unless the device failed or memory is wanting
abbrev pub AnswersSoundly : {A : Type 0} → Result A StoreOpen → (A → Type 0) → Type 0
AnswersSoundly (Ok answer) P = P answer
AnswersSoundly (Err fault) P = IsSoundOpen fault
