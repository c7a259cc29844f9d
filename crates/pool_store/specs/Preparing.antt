-- What the making of a store says of the files that it was read from.
use Rattle.std.specs.Prelude.{◌≡◌, ◌⊎◌, ℕ, true, false, List, [], reverse, take, Result, Ok, Err}
use Rattle.std.specs.Global.{Vec}
use Rattle.seg_words.specs.Types.{Shape, FIRST_GATE, LOG_HEAD_SIZE}
use Rattle.disk_model.specs.Crash.{Meaning}
use Rattle.log_frame.specs.Types.{is_formatted, shape_found, wrong}
use Rattle.log_frame.specs.declared.fault.FrameFault.{FrameFault}
use Rattle.log_frame.specs.declared.fault.FrameFault.TheVariants as frames
use Rattle.redo_model.specs.Records.{Record}
use Rattle.redo_model.specs.Model.{commit_count}
use Rattle.redo_log.specs.Kept.{Kept, HasRecords}
use Rattle.redo_log.specs.Found.{IsFound, AreAll, WalkBreaks, WalkEnds}
use Rattle.redo_log.specs.declared.fault.LogFault.{LogFault}
use Rattle.redo_log.specs.declared.fault.LogFault.TheVariants as logs
use Rattle.page_store.specs.declared.fault.PageFault.{PageFault}
use Rattle.page_store.specs.declared.fault.PageFault.TheVariants as pages
use Rattle.store_pages.specs.Refused.{HasBlocks, IsRefused as IsPageRefused}
use Rattle.pool_store.specs.Store.{Read}
use Rattle.pool_store.specs.declared.fault.StoreOpen.{StoreOpen}
use Rattle.pool_store.specs.declared.fault.StoreOpen.TheVariants as opens

-- the same fault, of the head, of the groups, of the pages
abbrev pub head_refusal : FrameFault → StoreOpen
head_refusal frames.DeviceFault = opens.DeviceFault
head_refusal frames.NotOpen = opens.NotOpen
head_refusal (frames.BadFrame offset seen) = opens.BadLog offset seen
head_refusal frames.NoMemory = opens.NoMemory

abbrev pub log_refusal : LogFault → StoreOpen
log_refusal logs.DeviceFault = opens.DeviceFault
log_refusal logs.NotOpen = opens.NotOpen
log_refusal (logs.BadLog offset seen) = opens.BadLog offset seen
log_refusal logs.NoMemory = opens.NoMemory

abbrev pub pages_refusal : PageFault → StoreOpen
pages_refusal pages.DeviceFault = opens.DeviceFault
pages_refusal (pages.BadPage block) = opens.BadPage block
pages_refusal pages.NoMemory = opens.NoMemory

-- the log is formatted, and its head says this shape
pub record HeadSays (file : List ℕ) (sh : Shape) : Type 0 where
  pub formatted : is_formatted file ≡ true
  pub found : shape_found (take LOG_HEAD_SIZE file) ≡ Ok sh

-- the log is formatted, and this is wrong first in its head
pub record HeadBreaks (file : List ℕ) (offset seen : ℕ) : Type 0 where
  pub formatted : is_formatted file ≡ true
  pub found : shape_found (take LOG_HEAD_SIZE file) ≡ Err (wrong offset seen)

-- the head is right, and this is wrong first in the groups
pub record GroupBreaks (file : List ℕ) (offset seen : ℕ) : Type 0 where
  pub shape : Shape
  pub head : HeadSays file shape
  pub breaks : WalkBreaks file FIRST_GATE offset seen []

-- the whole log is right, so that what is wrong stands in the pages, or in what the records ask of them
pub record PageBreaks (file : List ℕ) : Type 0 where
  pub shape : Shape
  pub head : HeadSays file shape
  pub at : ℕ
  pub R : List Record
  pub ends : WalkEnds file FIRST_GATE at [] R

-- The whole log is right. Where the data file has all blocks, d is the block of an area that isn't one, or of the transaction table
-- where its bytes spell no page, or one that a record of the log touches.
pub record PageStops {D : Type 0} (meaning : Meaning D) (disk : D) (d : ℕ) : Type 0 where
  pub shape : Shape
  pub head : HeadSays (meaning.files disk).log_bytes shape
  pub at : ℕ
  pub records : List Record
  pub ends : WalkEnds (meaning.files disk).log_bytes FIRST_GATE at [] (reverse records)
  pub names : HasBlocks meaning disk shape → IsPageRefused shape (meaning.files disk).data_bytes records d

-- why no store is made of a log file, unless the device failed or memory is wanting
abbrev pub IsRefused : List ℕ → StoreOpen → Type 0
IsRefused file opens.DeviceFault = Unit {0}
IsRefused file opens.NotOpen = is_formatted file ≡ false
IsRefused file (opens.BadLog offset seen) = HeadBreaks file offset seen ⊎ GroupBreaks file offset seen
IsRefused file (opens.BadPage dba) = PageBreaks file
IsRefused file opens.NoMemory = Unit {0}

-- The log is formatted, its groups lead from the first gate to the closed one, and what was read of them is the shape in its head,
-- and the log with these records, all of them stable.
pub record IsLogOf (file : List ℕ) (shape : Shape) (log : Kept) (R : List Record) : Type 0 where
  pub head : HeadSays file shape
  pub ends : WalkEnds file FIRST_GATE log.end [] R
  pub has : HasRecords R log
  pub none : log.waiting.bytes ≡ []

-- so of what a store is made of, which has the number of their commits as well
pub record IsReadOf {D : Type 0} (file : List ℕ) (r : Read D) : Type 0 where
  pub R : List Record
  pub is : IsLogOf file r.shape r.log R
  pub commits : r.commits ≡ commit_count R
  pub same : r.pages.shape ≡ r.shape

abbrev pub IsPrepared : {D : Type 0} → List ℕ → Result (Read D) StoreOpen → Type 0
IsPrepared file (Ok r) = IsReadOf file r
IsPrepared file (Err fault) = IsRefused file fault

-- the same of the head alone, of the opening of the log, and of the reading of its records
abbrev pub IsHeadRead : List ℕ → Result Shape StoreOpen → Type 0
IsHeadRead file (Ok sh) = HeadSays file sh
IsHeadRead file (Err fault) = IsRefused file fault

abbrev pub IsLogRead : List ℕ → Result Kept StoreOpen → Type 0
IsLogRead file (Ok log) = IsFound file FIRST_GATE [] log
IsLogRead file (Err fault) = IsRefused file fault

abbrev pub AreRead : List ℕ → Result (Vec Record) StoreOpen → Type 0
AreRead file (Ok records) = AreAll file FIRST_GATE records.items
AreRead file (Err fault) = IsRefused file fault
