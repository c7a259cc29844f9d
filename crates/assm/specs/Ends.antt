-- How the run of an opened store ends.
use Rattle.std.specs.Prelude.{◌≡◌, ℕ, List, length, slice_index, Option, Result, Ok, Err}
use Rattle.seg_words.specs.Types.{Shape}
use Rattle.disk_model.specs.Types.{Meaning}
use Rattle.disk_model.specs.declared.disk.File.TheVariants.{Data}
use Rattle.redo_model.specs.Records.{Record}
use Rattle.rollback_laws.specs.Closing.{closed}
use Rattle.script_text.specs.Script.{Script}
use Rattle.store_core.specs.Store.{Read}
use Rattle.store_core.specs.Survives.{Survives}
use Rattle.store_core.specs.declared.fault.StoreFault.{StoreFault}
use Rattle.store_core.specs.declared.fault.StoreFault.TheVariants as faults
use Rattle.recovery.specs.Opened.{IsOpened, Over}
use Rattle.recovery.specs.Refused.{block_at}
use Rattle.session_world.specs.declared.fault.RunFault.{RunFault}
use Rattle.session_world.specs.declared.fault.RunFault.TheVariants as stops
use Rattle.assm.specs.Top.{Ran, RanLines, RanPrinted, RanWhole}
use Rattle.assm.specs.declared.status.Status.{Status}
use Rattle.assm.specs.declared.status.Status.TheVariants.{Done, DeviceFault, NoMemory, BadFile, WriteFault}

-- What was read of a disk makes the store that an opening makes of files with the records R, whose data file this is; all of R
-- has survived since that moment.
pub record Begins {D : Type 0} (meaning : Meaning D) (since : ℕ) (data_bytes : List ℕ) (sh : Shape) (R : List Record) (disk : D) (loaded : Read D) : Type 0 where
  pub opened : Over (IsOpened meaning sh R) disk loaded
  pub survives : Over (Survives meaning since (λ m. length R) (closed R)) disk loaded
  pub file : (meaning.files loaded.first).data_bytes ≡ data_bytes

module _ {D : Type 0} (meaning : Meaning D) (since : ℕ) (data_bytes : List ℕ) (disk' : D) (old new : Option (List ℕ)) (sh : Shape) (R : List Record) (script : Script) where
  -- what each answer of a run says of a sound store
  abbrev pub RunsTo : Result (Unit {0}) RunFault → Type 0
  RunsTo (Ok done) = RanWhole meaning since data_bytes disk' old new sh R script
  RunsTo (Err stops.WriteFault) = Ran meaning since data_bytes disk' old new sh R script
  RunsTo (Err (stops.Store faults.DeviceFault)) = RanPrinted meaning since data_bytes disk' old new sh R script
  RunsTo (Err (stops.Store faults.NoMemory)) = RanLines meaning since data_bytes disk' old new sh R script
  RunsTo (Err (stops.Store (faults.BadPage dba))) = ⊥

  -- the same of its status
  abbrev pub EndsAs : Status → Type 0
  EndsAs Done = RanWhole meaning since data_bytes disk' old new sh R script
  EndsAs WriteFault = Ran meaning since data_bytes disk' old new sh R script
  EndsAs DeviceFault = RanPrinted meaning since data_bytes disk' old new sh R script
  EndsAs NoMemory = RanLines meaning since data_bytes disk' old new sh R script
  EndsAs status = ⊥

-- the byte of the data file where a block begins; the device may have failed at it
abbrev pub IsBlockByte : {D : Type 0} → Meaning D → D → ℕ → Status → Type 0
IsBlockByte meaning disk d DeviceFault = Unit {0}
IsBlockByte meaning disk d (BadFile Data offset seen) = (offset ≡ block_at d) × (meaning.told disk → seen ≡ slice_index (meaning.files disk).data_bytes offset)
IsBlockByte meaning disk d status = ⊥

-- the status of a store that failed: a page that isn't what an event needs is read for its byte
abbrev pub StopsAs : {D : Type 0} → Meaning D → D → D → StoreFault → Status → Type 0
StopsAs meaning disk disk' faults.DeviceFault status = (status ≡ DeviceFault) × (disk' ≡ disk)
StopsAs meaning disk disk' faults.NoMemory status = (status ≡ NoMemory) × (disk' ≡ disk)
StopsAs meaning disk disk' (faults.BadPage d) status = IsBlockByte meaning disk' d status

-- the statuses of a run
abbrev pub IsRunEnd : {D : Type 0} → Meaning D → D → Status → Type 0
IsRunEnd meaning disk Done = Unit {0}
IsRunEnd meaning disk WriteFault = Unit {0}
IsRunEnd meaning disk DeviceFault = Unit {0}
IsRunEnd meaning disk NoMemory = Unit {0}
IsRunEnd meaning disk (BadFile which offset seen) = (d : ℕ) × IsBlockByte meaning disk d (BadFile which offset seen)
IsRunEnd meaning disk status = ⊥
