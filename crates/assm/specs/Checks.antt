-- What is counted of a store, and what that says.
use Rattle.std.specs.Prelude.{◌≡◌, ◌⊎◌, ℕ, zero, suc, ◌+◌, List, ◌++◌, length, slice_index, Option, Result, Ok, Err, codes, decimal}
use Rattle.std.specs.Io.KnownBytes.{Appends}
use Rattle.seg_words.specs.Types.{Shape}
use Rattle.disk_model.specs.Types.{Meaning, Always}
use Rattle.disk_model.specs.declared.disk.File.{File}
use Rattle.disk_model.specs.declared.disk.File.TheVariants.{Data}
use Rattle.text_port.specs.Whole.{AppendsPrefix}
use Rattle.redo_model.specs.Records.{Record}
use Rattle.redo_model.specs.Model.{commit_count, table_count}
use Rattle.rollback_laws.specs.Closing.{closed}
use Rattle.space_usage.specs.Counting.{inexact_count}
use Rattle.store_files.specs.declared.fault.OpenFault.TheVariants as opening
use Rattle.store_core.specs.Survives.{IsLeft}
use Rattle.store_core.specs.declared.fault.StoreFault.{StoreFault}
use Rattle.store_core.specs.declared.fault.StoreFault.TheVariants as faults
use Rattle.recovery.specs.Refused.{block_at, IsRead}
use Rattle.assm.specs.declared.checking.Counts.{Counts}
use Rattle.assm.specs.declared.status.Status.{Status}
use Rattle.assm.specs.declared.status.Status.TheVariants.{Done, DeviceFault, NoMemory, BadFile, NotFormatted, WriteFault}
use Rattle.assm.specs.Top.{StartsSound, NotOpened}

-- the inexact blocks of the first n tables
abbrev pub inexact_to : Shape → List Record → ℕ → ℕ
inexact_to sh R zero = 0
inexact_to sh R (suc n) = inexact_to sh R n + inexact_count sh R (suc n)

pub record AreCounts (sh : Shape) (R : List Record) (c : Counts) : Type 0 where
  pub records : c.records ≡ length R
  pub commits : c.commits ≡ commit_count R
  pub tables : c.tables ≡ table_count R
  pub inexact : c.inexact ≡ inexact_to sh R (table_count R)

-- the line
abbrev pub counts_text : Counts → List ℕ
counts_text c = codes "records " ++ decimal c.records ++ codes " commits " ++ decimal c.commits ++ codes " tables " ++ decimal c.tables ++ codes " inexact " ++ decimal c.inexact ++ codes "\n"

-- what was printed of it, by the status
abbrev pub PrintsCounts : Option (List ℕ) → Option (List ℕ) → Counts → Status → Type 0
PrintsCounts old new c Done = Appends old new (counts_text c)
PrintsCounts old new c WriteFault = AppendsPrefix old new (counts_text c)
PrintsCounts old new c NoMemory = new ≡ old
PrintsCounts old new c status = ⊥

-- a crash since then left, or leaves now, a sound store with a first part of what the opening made, and all of R
abbrev pub StaysLeft : {D : Type 0} → Meaning D → ℕ → List ℕ → D → Shape → List Record → Type 0
StaysLeft meaning since data_bytes disk' sh R = Always meaning since disk' (λ m image. IsLeft sh data_bytes (closed R) (length R) image)

-- what an answer says of a sound store
abbrev pub CountsTo : {D : Type 0} → Meaning D → ℕ → List ℕ → D → Shape → List Record → Result Counts StoreFault → Type 0
CountsTo meaning since data_bytes disk' sh R (Ok c) = AreCounts sh (closed R) c × StaysLeft meaning since data_bytes disk' sh R
CountsTo meaning since data_bytes disk' sh R (Err (faults.BadPage d)) = ⊥
CountsTo meaning since data_bytes disk' sh R (Err f) = StaysLeft meaning since data_bytes disk' sh R

module _ {D : Type 0} (meaning : Meaning D) (disk disk' : D) (old new : Option (List ℕ)) where
  -- the files read as a store's, and where they were a sound one it is left so, and P holds
  pub record WasOpened (P : Shape → List Record → Type 0) : Type 0 where
    pub shape : Shape
    pub read : meaning.told disk → IsRead shape (meaning.files disk)
    pub left : (sh : Shape) (R : List Record) → StartsSound meaning disk sh R → StaysLeft meaning (meaning.clock disk) (meaning.files disk).data_bytes disk' sh R × P sh R

  -- the counts of the store that was opened
  pub record HasCounts (c : Counts) : Type 0 where
    pub opened : WasOpened (λ sh R. AreCounts sh (closed R) c)

  -- it stopped before anything was printed
  pub record StopsUnprinted : Type 0 where
    pub printed : new ≡ old
    pub opened : WasOpened (λ sh R. Unit {0})

  -- at a page of files that aren't a sound store's
  pub record StopsAtPage (which : File) (offset seen : ℕ) : Type 0 where
    pub printed : new ≡ old
    pub opened : WasOpened (λ sh R. ⊥)
    pub file : which ≡ Data
    pub block : ℕ
    pub begins : offset ≡ block_at block
    pub shows : meaning.told disk → seen ≡ slice_index (meaning.files disk').data_bytes offset

  -- what a status of `check` says
  abbrev pub CheckTells : Status → Type 0
  CheckTells Done = (c : Counts) × Appends old new (counts_text c) × HasCounts c
  CheckTells WriteFault = (c : Counts) × AppendsPrefix old new (counts_text c) × HasCounts c
  CheckTells DeviceFault = NotOpened meaning disk disk' old new opening.DeviceFault ⊎ StopsUnprinted
  CheckTells NoMemory = NotOpened meaning disk disk' old new opening.NoMemory ⊎ StopsUnprinted
  CheckTells (BadFile which offset seen) = NotOpened meaning disk disk' old new (opening.BadFile which offset seen) ⊎ StopsAtPage which offset seen
  CheckTells NotFormatted = NotOpened meaning disk disk' old new opening.NotFormatted
  CheckTells status = ⊥
