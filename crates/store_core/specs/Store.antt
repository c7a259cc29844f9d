-- A store: the disk that it was lent, its redo list, and the pages of its blocks, which are the fold of that list. Lists of
-- records are the newest first.
use Rattle.std.specs.Prelude.{◌≡◌, ◌↔◌, ℕ, ◌^◌, ◌-◌, ◌<◌, ◌≤◌, length, nat_lt, eqb, not, Bool, ◌&&◌, ◌||◌, true, List, [], Option, None}
use Rattle.std.specs.Borrow.{GName}
use Rattle.seg_words.specs.Types.{CHECKPOINT_BLOCK, DOUBLE_WRITE_BLOCK, OWN_BLOCKS, Shape, is_shape}
use Rattle.disk_model.specs.Crash.{Meaning}
use Rattle.log_frame.specs.Ready.{IsReady}
use Rattle.redo_model.specs.Records.{Record}
use Rattle.redo_model.specs.Model.{commit_count, is_whole, IsLawful}
use Rattle.redo_log.specs.Kept.{Kept, Holds, HasList as HasLogList}
use Rattle.page_set.specs.declared.page.Page.{Page}
use Rattle.page_map.specs.Pages.{HasPages}
use Rattle.store_core.specs.declared.fault.StoreFault.{StoreFault}

-- What a store holds: the disk with its loan, and the disk as it was before the first call on it; the store's shape; the
-- redo list, the pages and the number of commits, as they are kept; and the fault after which the store answers no more.
pub record Held (D : Type 0) : Type 0 where
  pub disk : D
  pub loan : GName
  pub first : D
  pub shape : Shape
  pub log : Kept
  pub pages : List Page
  pub commits : ℕ
  pub fault : Option StoreFault

-- the same without the disk
pub record Read (D : Type 0) : Type 0 where
  pub first : D
  pub shape : Shape
  pub log : Kept
  pub pages : List Page
  pub commits : ℕ
  pub fault : Option StoreFault

-- over a disk with this loan
abbrev pub with_disk : {D : Type 0} → D → GName → Read D → Held D
with_disk disk loan r = record { disk = disk; loan = loan; first = r.first; shape = r.shape; log = r.log; pages = r.pages; commits = r.commits; fault = r.fault }

-- how many bytes of records aren't written yet
abbrev pub waits : {D : Type 0} → Held D → ℕ
waits s = length s.log.waiting.bytes

-- The store has the records R: its log has them, of which the groups on the disk hold the stable ones, and each page is the
-- fold of R. It names no frame and no map. After a fault of the disk nothing is said of the disk.
pub record HasList {D : Type 0} (meaning : Meaning D) (R : List Record) (s : Held D) : Type 0 where
  pub within : is_shape s.shape ≡ true
  pub few : length R < 2 ^ 64
  pub groups : List (List ℕ)
  pub list : HasLogList groups [] R s.log
  pub pages : HasPages s.shape R s.pages
  pub commits : s.commits ≡ commit_count R
  pub ready : s.fault ≡ None → IsReady meaning s.disk s.shape groups s.log.end

-- A true store: its records are lawful, and those on the disk call for no other.
pub record IsTrue {D : Type 0} (meaning : Meaning D) (R : List Record) (s : Held D) : Type 0 where
  pub list : HasList meaning R s
  pub lawful : IsLawful s.shape R
  pub stable : (Q : List Record) → Holds list.groups [] Q → is_whole Q ≡ true

-- a block whose page a store gives: one of its blocks but the checkpoint and the double-write area
abbrev pub has_page : Shape → ℕ → Bool
has_page sh d = nat_lt d sh.blocks && not (eqb d CHECKPOINT_BLOCK) && (nat_lt d DOUBLE_WRITE_BLOCK || nat_lt (OWN_BLOCKS - 1) d)

-- the block's page was found, and can be lent
pub record IsFetched {D : Type 0} (d : ℕ) (s : Held D) : Type 0 where
  pub there : d < length s.pages

-- The disk's loan, the disk as it was when it was lent, and the shape are as before; no call read the log; and the count of
-- faults doesn't fall, nor does the clock where the store has a list.
pub record SameLoan {D : Type 0} (meaning : Meaning D) (old new : Held D) : Type 0 where
  pub loan : new.loan ≡ old.loan
  pub first : new.first ≡ old.first
  pub shape : new.shape ≡ old.shape
  pub told : meaning.told new.disk ↔ meaning.told old.disk
  pub time : (R : List Record) → HasList meaning R old → meaning.clock old.disk ≤ meaning.clock new.disk
  pub faults : meaning.fault_count old.disk ≤ meaning.fault_count new.disk
  pub reads : meaning.log_reads new.disk ≡ meaning.log_reads old.disk
