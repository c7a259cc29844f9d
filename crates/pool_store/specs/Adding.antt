-- What a call does that adds records to a store, or refuses and leaves them.
use Rattle.std.specs.Prelude.{◌≡◌, ℕ, ◌≤◌, ◌<◌, List, ◌++◌, length, None, Result, OnOk, OnErr, IfOk, IfErr, IsErrOf}
use Rattle.seg_words.specs.Types.{Shape}
use Rattle.disk_model.specs.Crash.{Meaning, Untouched}
use Rattle.redo_model.specs.Records.{Record}
use Rattle.redo_model.specs.Model.{IsLawful}
use Rattle.redo_log.specs.Kept.{AreSpelled}
use Rattle.buffer_pool.specs.declared.frame.TheConstants.{MOST_DIRTY}
use Rattle.store_pages.specs.Fitting.{IsUnfit, IsOneUnfit}
use Rattle.pool_store.specs.Store.{Held, HasList, IsTrue, SameLoan, waits}
use Rattle.pool_store.specs.Survives.{Survives}
use Rattle.pool_store.specs.Causes.{HasCause, IsSoundFault}
use Rattle.pool_store.specs.declared.fault.StoreFault.{StoreFault}
use Rattle.pool_store.specs.declared.fault.StoreFault.TheVariants.{DeviceFault, BadPage, NoMemory}

-- Of a true store with the records R: at Ok they are next, at Err R. The only faults are those of the disk and want of memory,
-- and what survives a crash goes on surviving it.
pub record Adds {D T : Type 0} (meaning : Meaning D) (R next : List Record) (old new : Held D) (result : Result T StoreFault) : Type 0 where
  pub added : OnOk result (IsTrue meaning next new)
  pub refused : OnErr result (IsTrue meaning R new)
  pub sound : old.fault ≡ None → IfErr result IsSoundFault
  pub stable : old.log.stable ≤ new.log.stable
  pub survives : (since : ℕ) (needed : ℕ → ℕ) → Survives meaning since needed R old → OnOk result (Survives meaning since needed next new)
  pub survives_refused : (since : ℕ) (needed : ℕ → ℕ) → Survives meaning since needed R old → OnErr result (Survives meaning since needed R new)

-- What holds of such a call whatever it is to add: at Err the list is as before, with what survives a crash; the loan is the
-- same, what is stable stays so, and each fault has its cause.
pub record HasTried {D T : Type 0} (meaning : Meaning D) (old new : Held D) (result : Result T StoreFault) : Type 0 where
  pub refused : (R : List Record) → IsTrue meaning R old → OnErr result (IsTrue meaning R new)
  pub survives_refused : (since : ℕ) (needed : ℕ → ℕ) (R : List Record) → IsTrue meaning R old → Survives meaning since needed R old → OnErr result (Survives meaning since needed R new)
  pub stable : (R : List Record) → HasList meaning R old → old.log.stable ≤ new.log.stable
  pub loan : SameLoan meaning old new
  pub cause : HasCause meaning old new result

-- What `take` and `take_two` do to any store with a list, and to a true one: these records are added, or none.
pub record HasTaken {D : Type 0} (meaning : Meaning D) (newer : List Record) (old new : Held D) (result : Result ℕ StoreFault) : Type 0 where
  pub added : (R : List Record) → HasList meaning R old → AreSpelled newer → OnOk result (HasList meaning (newer ++ R) new)
  pub number : (R : List Record) → HasList meaning R old → AreSpelled newer → IfOk result (λ lsn. lsn ≡ length (newer ++ R))
  pub true_number : (R : List Record) → IsTrue meaning R old → IsLawful old.shape (newer ++ R) → IfOk result (λ lsn. lsn ≡ length (newer ++ R))
  pub refused : (R : List Record) → HasList meaning R old → OnErr result (HasList meaning R new)
  pub added_true : (R : List Record) → IsTrue meaning R old → IsLawful old.shape (newer ++ R) → OnOk result (IsTrue meaning (newer ++ R) new)
  pub refused_true : (R : List Record) → IsTrue meaning R old → OnErr result (IsTrue meaning R new)
  pub survives : (since : ℕ) (needed : ℕ → ℕ) (R : List Record) → IsTrue meaning R old → Survives meaning since needed R old → OnOk result (Survives meaning since needed (newer ++ R) new)
  pub survives_refused : (since : ℕ) (needed : ℕ → ℕ) (R : List Record) → IsTrue meaning R old → Survives meaning since needed R old → OnErr result (Survives meaning since needed R new)
  pub stable : (R : List Record) → HasList meaning R old → old.log.stable ≤ new.log.stable
  pub loan : SameLoan meaning old new
  pub cause : HasCause meaning old new result

-- Where more bytes wait than most, all records that are there become stable first, unless the store or the disk fails. Where
-- they don't, and no more pages are dirty than may be, no file is changed.
pub record FlushesFirst {D T : Type 0} (meaning : Meaning D) (most : ℕ) (old new : Held D) (result : Result T StoreFault) : Type 0 where
  pub full : (R : List Record) → HasList meaning R old → old.fault ≡ None → most < waits old → (IsErrOf result DeviceFault → ⊥) → new.log.stable ≡ length R
  pub unchanged : waits old ≤ most → old.pages.dirty ≤ MOST_DIRTY → Untouched meaning old.disk new.disk
  pub stays : waits old ≤ most → old.pages.dirty ≤ MOST_DIRTY → new.log.stable ≡ old.log.stable

-- why a record isn't taken after the records R: it touches the block and doesn't fit there, or disk or memory failed
abbrev pub WhyNotTaken : Shape → List Record → Record → StoreFault → Type 0
WhyNotTaken sh R r DeviceFault = Unit {0}
WhyNotTaken sh R r (BadPage d) = IsUnfit sh R r d
WhyNotTaken sh R r NoMemory = Unit {0}

-- the same of two: not both fit at a block that one of them touches
abbrev pub WhyNotBothTaken : Shape → List Record → Record → Record → StoreFault → Type 0
WhyNotBothTaken sh R first second DeviceFault = Unit {0}
WhyNotBothTaken sh R first second (BadPage d) = IsOneUnfit sh R first second d
WhyNotBothTaken sh R first second NoMemory = Unit {0}
