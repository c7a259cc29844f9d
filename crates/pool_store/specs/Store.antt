-- A store: the disk that it was lent, its redo list, and the pages of its blocks, which are the fold of that list and stand in
-- frames and in the data file. Lists of records are the newest first.
use Rattle.std.specs.Prelude.{◌≡◌, ◌↔◌, ℕ, ◌^◌, ◌<◌, ◌≤◌, length, true, List, [], Option, None}
use Rattle.std.specs.Borrow.{GName}
use Rattle.seg_words.specs.Types.{Shape, is_shape}
use Rattle.disk_model.specs.Crash.{Meaning}
use Rattle.log_frame.specs.Ready.{IsReady}
use Rattle.redo_model.specs.Records.{Record}
use Rattle.redo_model.specs.Model.{commit_count, is_whole, IsLawful}
use Rattle.redo_log.specs.Kept.{Kept, Holds, HasList as HasLogList}
use Rattle.redo_model.specs.Lists.{prefix}
use Rattle.buffer_pool.specs.Frames.{Pool}
pub use Rattle.buffer_pool.specs.Frames.{has_page}
use Rattle.store_pages.specs.Pages.{HasPages, IsFetched as IsFramed}
use Rattle.pool_store.specs.declared.fault.StoreFault.{StoreFault}

-- What a store holds: the disk with its loan, and the disk as it was before the first call on it; the store's shape; the
-- redo list, the pages and the number of commits, as they are kept; and the fault after which the store answers no more.
pub record Held (D : Type 0) : Type 0 where
  pub disk : D
  pub loan : GName
  pub first : D
  pub shape : Shape
  pub log : Kept
  pub pages : Pool
  pub commits : ℕ
  pub fault : Option StoreFault

-- the same without the disk
pub record Read (D : Type 0) : Type 0 where
  pub first : D
  pub shape : Shape
  pub log : Kept
  pub pages : Pool
  pub commits : ℕ
  pub fault : Option StoreFault

-- over a disk with this loan
abbrev pub with_disk : {D : Type 0} → D → GName → Read D → Held D
with_disk disk loan r = record { disk = disk; loan = loan; first = r.first; shape = r.shape; log = r.log; pages = r.pages; commits = r.commits; fault = r.fault }

-- how many bytes of records aren't written yet
abbrev pub waits : {D : Type 0} → Held D → ℕ
waits s = length s.log.waiting.bytes

-- The store has the records R: its log has them, of which the groups on the disk hold the stable ones. After a fault nothing is
-- said of the disk.
pub record HasList {D : Type 0} (meaning : Meaning D) (R : List Record) (s : Held D) : Type 0 where
  pub within : is_shape s.shape ≡ true
  pub few : length R < 2 ^ 64
  pub groups : List (List ℕ)
  pub list : HasLogList groups [] R s.log
  pub commits : s.commits ≡ commit_count R
  pub ready : s.fault ≡ None → IsReady meaning s.disk s.shape groups s.log.end

-- A true store: its records are lawful, those on the disk call for no other, and each page is the fold of R, over a data file
-- whose pages are folds of the stable records.
pub record IsTrue {D : Type 0} (meaning : Meaning D) (R : List Record) (s : Held D) : Type 0 where
  pub list : HasList meaning R s
  pub lawful : IsLawful s.shape R
  pub stable : (Q : List Record) → Holds list.groups [] Q → is_whole Q ≡ true
  pub same : s.pages.shape ≡ s.shape
  pub pages : s.fault ≡ None → HasPages meaning s.disk (prefix R s.log.stable) 0 R s.pages

-- the store goes on, and the block's page stands in a frame and can be lent
pub record IsFetched {D : Type 0} (d : ℕ) (s : Held D) : Type 0 where
  pub unspent : s.fault ≡ None
  pub there : IsFramed d s.pages

-- The disk's loan, the disk as it was when it was lent, and the shape are as before; where the disk tells what it holds, no call read the log; and the count of
-- faults doesn't fall, nor does the clock where the store has a list.
pub record SameLoan {D : Type 0} (meaning : Meaning D) (old new : Held D) : Type 0 where
  pub loan : new.loan ≡ old.loan
  pub first : new.first ≡ old.first
  pub shape : new.shape ≡ old.shape
  pub told : meaning.told new.disk ↔ meaning.told old.disk
  pub time : (R : List Record) → HasList meaning R old → meaning.clock old.disk ≤ meaning.clock new.disk
  pub faults : meaning.fault_count old.disk ≤ meaning.fault_count new.disk
  pub reads : meaning.told old.disk → meaning.log_reads new.disk ≡ meaning.log_reads old.disk
