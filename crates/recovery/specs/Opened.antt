-- What an opening makes of a disk with the files of a store, and what a crash within it leaves.
use Rattle.std.specs.Prelude.{◌≡◌, ◌↔◌, ℕ, ◌≤◌, List, length, None, Result, IfOk, IfErr, IsErrOf}
use Rattle.std.specs.Borrow.{GName}
use Rattle.seg_words.specs.Types.{Shape}
use Rattle.disk_model.specs.Files.{Files}
use Rattle.disk_model.specs.Crash.{Meaning, Always, Causes}
use Rattle.redo_model.specs.Records.{Record}
use Rattle.redo_model.specs.Model.{Extends}
use Rattle.rollback_laws.specs.Closing.{closed, Closes, SameTables}
use Rattle.store_core.specs.Store.{Held, Read, IsTrue, with_disk}
use Rattle.store_core.specs.Survives.{IsSound, Survives}
use Rattle.store_core.specs.Causes.{IsSoundFault}
use Rattle.store_core.specs.declared.fault.StoreFault.{StoreFault}
use Rattle.store_core.specs.declared.fault.StoreFault.TheVariants.{DeviceFault}

-- what was read of a disk has P over that disk, whatever its loan
abbrev pub Over : {D : Type 0} → (Held D → Type 0) → D → Read D → Type 0
Over P disk r = (loan : GName) → P (with_disk disk loan r)

-- The store that an opening makes of files with the records R. No transaction is active in it, its commits and tables are those of
-- R, and all of its records are stable.
pub record IsOpened {D : Type 0} (meaning : Meaning D) (sh : Shape) (R : List Record) (s : Held D) : Type 0 where
  pub shape : s.shape ≡ sh
  pub list : IsTrue meaning (closed R) s
  pub closes : Closes sh R
  pub stable : s.log.stable ≡ length (closed R)

-- An image of a sound store with the records R and a first part of what an opening adds to them. An opening of it gives what that of R
-- would have given.
pub record Reopens (sh : Shape) (R : List Record) (data_bytes : List ℕ) (image : Files) : Type 0 where
  pub list : List Record
  pub from : Extends R list
  pub sound : IsSound sh list image
  pub closes : closed list ≡ closed R
  pub same : SameTables R list
  pub data_stays : image.data_bytes ≡ data_bytes

-- so each image that a crash has left since a moment, or leaves now
pub record ReopensSince {D : Type 0} (meaning : Meaning D) (since : ℕ) (sh : Shape) (R : List Record) (data_bytes : List ℕ) (disk : D) : Type 0 where
  pub later : since ≤ meaning.clock disk
  pub each : Always meaning since disk (λ m image. Reopens sh R data_bytes image)

-- Taking back what is active in what was read of a disk.
pub record TakesBack {D : Type 0} (meaning : Meaning D) (before after : D) (old : Read D) (result : Result (Read D) StoreFault) : Type 0 where
  pub done : (R : List Record) → Over (IsTrue meaning R) before old → IfOk result (λ new. Over (IsTrue meaning (closed R)) after new × (new.log.stable ≡ length (closed R)))
  pub sound : (R : List Record) → Over (IsTrue meaning R) before old → IfErr result IsSoundFault
  pub survives : (since : ℕ) (needed : ℕ → ℕ) (R : List Record) → Over (IsTrue meaning R) before old → Over (Survives meaning since needed R) before old → IfOk result (Over (Survives meaning since needed (closed R)) after)
  pub any_moment : (since : ℕ) (R : List Record) → Over (IsTrue meaning R) before old → Over (Survives meaning since (λ m. length R) R) before old → ReopensSince meaning since old.shape R (meaning.files old.first).data_bytes after
  pub kept : IfOk result (λ new. (new.first ≡ old.first) × (new.shape ≡ old.shape) × (new.fault ≡ None))
  pub cause : Causes meaning before after (IsErrOf result DeviceFault)
  pub told : meaning.told after ↔ meaning.told before
