-- What settling a row block does to a true store.
use Rattle.std.specs.Prelude.{◌≡◌, ◌⊎◌, ℕ, ◌≤◌, Bool, List, None, Result, OnOk, OnErr, IfOk, IfErr}
use Rattle.disk_model.specs.Crash.{Meaning}
use Rattle.redo_model.specs.Records.{Record}
use Rattle.redo_model.specs.Model.{IsTable, IsRowBlock}
use Rattle.usage_laws.specs.Types.{with_clean, settled, calls_for_class}
use Rattle.store_core.specs.Store.{Held, HasList, IsTrue}
use Rattle.store_core.specs.Survives.{Survives}
use Rattle.store_core.specs.Causes.{IsSoundFault}
use Rattle.store_core.specs.declared.fault.StoreFault.{StoreFault}

-- a true store with the records R, in which b is a formatted block of table o under its high mark
pub record HasBlock {D : Type 0} (meaning : Meaning D) (R : List Record) (o b : ℕ) (s : Held D) : Type 0 where
  pub holds : IsTrue meaning R s
  pub table : IsTable R o
  pub here : IsRowBlock s.shape R o b

-- the store has some list
pub record HasSomeList {D : Type 0} (meaning : Meaning D) (s : Held D) : Type 0 where
  pub records : List Record
  pub list : HasList meaning records s

-- a true store that had R has Q, and what survived a crash goes on surviving it
pub record Stands {D : Type 0} (meaning : Meaning D) (R Q : List Record) (old new : Held D) : Type 0 where
  pub list : IsTrue meaning Q new
  pub survives : (since : ℕ) (needed : ℕ → ℕ) → Survives meaning since needed R old → Survives meaning since needed Q new

-- At Ok the block is settled, and the answer says whether its kept class changed. At Err nothing was added, or the Clean where
-- one was called for. The only faults are those of the disk and want of memory.
pub record Settles {D : Type 0} (meaning : Meaning D) (R : List Record) (o b : ℕ) (old new : Held D) (result : Result Bool StoreFault) : Type 0 where
  pub settles : OnOk result (Stands meaning R (settled old.shape R o b) old new)
  pub changed : IfOk result (λ y. y ≡ calls_for_class R o b)
  pub left : OnErr result (Stands meaning R R old new ⊎ Stands meaning R (with_clean R b) old new)
  pub sound : old.fault ≡ None → IfErr result IsSoundFault
  pub stable : old.log.stable ≤ new.log.stable
