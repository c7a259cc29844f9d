-- Records that are put into the log and the pages of a store, the newest first, or not.
use Rattle.std.specs.Prelude.{◌≡◌, ℕ, ◌+◌, ◌^◌, ◌<◌, List, [], ◌++◌, length, None}
use Rattle.seg_words.specs.Types.{Shape}
use Rattle.redo_model.specs.Records.{Record}
use Rattle.redo_model.specs.Model.{commit_count}
use Rattle.redo_log.specs.Kept.{Kept, Stays, AreSpelled, HasList as HasLogList}
use Rattle.page_set.specs.declared.page.Page.{Page}
use Rattle.page_map.specs.Pages.{HasPages}
use Rattle.store_core.specs.Store.{Held}
use Rattle.store_core.specs.Causes.{lasting_fault}
use Rattle.store_core.specs.declared.fault.StoreFault.{StoreFault}
use Rattle.store_core.specs.declared.fault.StoreFault.TheVariants.{DeviceFault}

-- disk and loan are as before
pub record SameDisk {D : Type 0} (old new : Held D) : Type 0 where
  pub disk : new.disk ≡ old.disk
  pub loan : new.loan ≡ old.loan
  pub first : new.first ≡ old.first
  pub shape : new.shape ≡ old.shape

-- what was added to log, pages and commits
pub record Taken (sh : Shape) (before after : Kept) (ps qs : List Page) (was is : ℕ) (newer : List Record) (lsn : ℕ) : Type 0 where
  pub list : (groups : List (List ℕ)) (R : List Record) → HasLogList groups [] R before → AreSpelled newer → HasLogList groups [] (newer ++ R) after
  pub pages : (R : List Record) → before.count ≡ length R → HasPages sh R ps → HasPages sh (newer ++ R) qs
  pub commits : (R : List Record) → was ≡ commit_count R → length (newer ++ R) < 2 ^ 64 → is ≡ commit_count (newer ++ R)
  pub few : length newer + before.count < 2 ^ 64
  pub number : lsn ≡ after.count
  pub end : after.end ≡ before.end
  pub stable : after.stable ≡ before.stable

-- the records were added, and nothing else was done
pub record HasPut {D : Type 0} (old new : Held D) (newer : List Record) (lsn : ℕ) : Type 0 where
  pub same : SameDisk old new
  pub going : new.fault ≡ None
  pub taken : Taken old.shape old.log new.log old.pages new.pages old.commits new.commits newer lsn

-- nothing was added, and the store keeps the fault where it lasts
pub record Refused {D : Type 0} (old new : Held D) (f : StoreFault) : Type 0 where
  pub same : SameDisk old new
  pub log : Stays old.log new.log
  pub pages : new.pages ≡ old.pages
  pub commits : new.commits ≡ old.commits
  pub fault : new.fault ≡ lasting_fault f
  pub device : f ≡ DeviceFault → ⊥
