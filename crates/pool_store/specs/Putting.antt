-- Records that are put into the log and the pages of a store, the newest first, or not.
use Rattle.std.specs.Prelude.{◌≡◌, ℕ, ◌+◌, ◌^◌, ◌<◌, ◌≤◌, List, [], ◌++◌, length, None}
use Rattle.seg_words.specs.Types.{Rose}
use Rattle.disk_model.specs.Crash.{Meaning, Untouched}
use Rattle.redo_model.specs.Records.{Record}
use Rattle.redo_model.specs.Model.{commit_count}
use Rattle.redo_log.specs.Kept.{Kept, Stays, AreSpelled, HasList as HasLogList}
use Rattle.store_pages.specs.Pages.{HasPages}
use Rattle.pool_store.specs.Store.{Held}
use Rattle.pool_store.specs.Causes.{lasting_fault}
use Rattle.pool_store.specs.declared.fault.StoreFault.{StoreFault}
use Rattle.pool_store.specs.declared.fault.StoreFault.TheVariants.{DeviceFault}

-- The disk was only read, pages may have been brought into frames, and the loan is as before.
pub record OnlyRead {D : Type 0} (meaning : Meaning D) (old new : Held D) : Type 0 where
  pub disk : Untouched meaning old.disk new.disk
  pub faults : meaning.fault_count old.disk ≤ meaning.fault_count new.disk
  pub reads : meaning.told old.disk → meaning.log_reads new.disk ≡ meaning.log_reads old.disk
  pub loan : new.loan ≡ old.loan
  pub first : new.first ≡ old.first
  pub shape : new.shape ≡ old.shape
  pub same : new.pages.shape ≡ old.pages.shape

-- what was added to log and commits
pub record Taken (before after : Kept) (was is : ℕ) (newer : List Record) (lsn : ℕ) : Type 0 where
  pub list : (groups : List (List ℕ)) (R : List Record) → HasLogList groups [] R before → AreSpelled newer → HasLogList groups [] (newer ++ R) after
  pub commits : (R : List Record) → was ≡ commit_count R → length (newer ++ R) < 2 ^ 64 → is ≡ commit_count (newer ++ R)
  pub few : length newer + before.count < 2 ^ 64
  pub number : lsn ≡ after.count
  pub end : after.end ≡ before.end
  pub stable : after.stable ≡ before.stable

-- the records were added, and nothing else was done
pub record HasPut {D : Type 0} (meaning : Meaning D) (old new : Held D) (newer : List Record) (lsn : ℕ) : Type 0 where
  pub read : OnlyRead meaning old new
  pub going : new.fault ≡ None
  pub taken : Taken old.log new.log old.commits new.commits newer lsn
  pub pages : (log R : List Record) (m : ℕ) → old.log.count ≡ length R → HasPages meaning old.disk log m R old.pages → HasPages meaning new.disk log m (newer ++ R) new.pages

-- nothing was added, and the store keeps the fault where it lasts
pub record Refused {D : Type 0} (meaning : Meaning D) (old new : Held D) (f : StoreFault) : Type 0 where
  pub read : OnlyRead meaning old new
  pub log : Stays old.log new.log
  pub pages : (log R : List Record) (m : ℕ) → HasPages meaning old.disk log m R old.pages → HasPages meaning new.disk log m R new.pages
  pub commits : new.commits ≡ old.commits
  pub fault : new.fault ≡ lasting_fault f
  pub device : f ≡ DeviceFault → Rose (meaning.fault_count old.disk) (meaning.fault_count new.disk)
