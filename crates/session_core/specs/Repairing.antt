-- One block of a repair. Oracle: DBMS_REPAIR.SEGMENT_FIX_STATUS.
use Rattle.std.specs.Prelude.{◌≡◌, ℕ, Bool, not, eqb, List, length, Result, OnOk, IfOk, IfErr}
use Rattle.seg_words.specs.Types.{class_code}
use Rattle.disk_model.specs.Crash.{Meaning}
use Rattle.redo_model.specs.Records.{Record}
use Rattle.redo_model.specs.Model.{kept_class, class_of_block, pctfree_of}
use Rattle.history_model.specs.TableMeans.{Settles}
use Rattle.store_core.specs.Store.{Held}
use Rattle.store_core.specs.Causes.{IsSoundFault}
use Rattle.store_core.specs.declared.fault.StoreFault.{StoreFault}
use Rattle.session_core.specs.Owing.{HasTidied}
use Rattle.session_core.specs.declared.repairing.Repaired.{Repaired}

-- a block was settled between these two lengths of the list, and whether its kept class changed
pub record TellsRepair (R S : List Record) (b : ℕ) (m : Repaired) : Type 0 where
  pub block : m.settled.block ≡ b
  pub before : m.settled.before ≡ length R
  pub after : m.settled.after ≡ length S
  pub changed : m.changed ≡ not (eqb (class_code (kept_class R b)) (class_code (kept_class S b)))

-- At Ok a Clean and a Class of block b of table o are added, or less, and its kept class is its own.
pub record HasRepaired {D : Type 0} (meaning : Meaning D) (R : List Record) (o b : ℕ) (old new : Held D) (result : Result Repaired StoreFault) : Type 0 where
  pub tidies : HasTidied meaning R old new
  pub settles : OnOk result (Settles b R tidies.records)
  pub exact : OnOk result (kept_class tidies.records b ≡ class_of_block tidies.records (pctfree_of tidies.records o) b)
  pub told : IfOk result (TellsRepair R tidies.records b)
  pub sound : IfErr result IsSoundFault
