-- What the making of a store says of the log that it was read from.
use Rattle.std.specs.Prelude.{◌≡◌, ◌⊎◌, ℕ, true, false, List, [], take, Result, Ok, Err}
use Rattle.std.specs.Global.{Vec}
use Rattle.seg_words.specs.Types.{Shape, FIRST_GATE, LOG_HEAD_SIZE}
use Rattle.log_frame.specs.Types.{is_formatted, shape_found, wrong}
use Rattle.log_frame.specs.declared.fault.FrameFault.{FrameFault}
use Rattle.log_frame.specs.declared.fault.FrameFault.TheVariants as frames
use Rattle.redo_model.specs.Records.{Record}
use Rattle.redo_model.specs.Model.{commit_count}
use Rattle.redo_log.specs.Kept.{Kept, HasRecords}
use Rattle.redo_log.specs.Found.{IsFound, AreAll, WalkBreaks, WalkEnds}
use Rattle.redo_log.specs.declared.fault.LogFault.{LogFault}
use Rattle.redo_log.specs.declared.fault.LogFault.TheVariants as logs
use Rattle.page_map.specs.Pages.{HasPages}
use Rattle.page_map.specs.Fitting.{AreAllFit, StopsAt}
use Rattle.page_map.specs.declared.fault.PageFault.{PageFault}
use Rattle.page_map.specs.declared.fault.PageFault.TheVariants as pages
use Rattle.store_core.specs.Store.{Read}
use Rattle.store_core.specs.declared.fault.StoreOpen.{StoreOpen}
use Rattle.store_core.specs.declared.fault.StoreOpen.TheVariants as opens

-- the same fault, of the head, of the groups, of the pages
abbrev pub head_refusal : FrameFault → StoreOpen
head_refusal frames.DeviceFault = opens.DeviceFault
head_refusal frames.NotOpen = opens.NotOpen
head_refusal (frames.BadFrame offset seen) = opens.BadLog offset seen
head_refusal frames.NoMemory = opens.NoMemory

abbrev pub log_refusal : LogFault → StoreOpen
log_refusal logs.DeviceFault = opens.DeviceFault
log_refusal logs.NotOpen = opens.NotOpen
log_refusal (logs.BadLog offset seen) = opens.BadLog offset seen
log_refusal logs.NoMemory = opens.NoMemory

abbrev pub pages_refusal : PageFault → StoreOpen
pages_refusal (pages.BadPage block) = opens.BadPage block
pages_refusal pages.NoMemory = opens.NoMemory

-- the log is formatted, and its head says this shape
pub record HeadSays (file : List ℕ) (sh : Shape) : Type 0 where
  pub formatted : is_formatted file ≡ true
  pub found : shape_found (take LOG_HEAD_SIZE file) ≡ Ok sh

-- the log is formatted, and this is wrong first in its head
pub record HeadBreaks (file : List ℕ) (offset seen : ℕ) : Type 0 where
  pub formatted : is_formatted file ≡ true
  pub found : shape_found (take LOG_HEAD_SIZE file) ≡ Err (wrong offset seen)

-- the head is right, and this is wrong first in the groups
pub record GroupBreaks (file : List ℕ) (offset seen : ℕ) : Type 0 where
  pub shape : Shape
  pub head : HeadSays file shape
  pub breaks : WalkBreaks file FIRST_GATE offset seen []

-- the whole log is right, and the first of its records that doesn't fit on each page that it touches doesn't fit at block d
pub record PageBreaks (file : List ℕ) (d : ℕ) : Type 0 where
  pub shape : Shape
  pub head : HeadSays file shape
  pub at : ℕ
  pub R : List Record
  pub ends : WalkEnds file FIRST_GATE at [] R
  pub stops : StopsAt shape R d

-- why no store is made of a log file, unless the device failed or memory is wanting
abbrev pub IsRefused : List ℕ → StoreOpen → Type 0
IsRefused file opens.DeviceFault = Unit {0}
IsRefused file opens.NotOpen = is_formatted file ≡ false
IsRefused file (opens.BadLog offset seen) = HeadBreaks file offset seen ⊎ GroupBreaks file offset seen
IsRefused file (opens.BadPage dba) = PageBreaks file dba
IsRefused file opens.NoMemory = Unit {0}

-- The log is formatted, its groups lead from the first gate to the closed one, and what was read has their records, all of
-- them stable, with their pages and the number of their commits. Each record fits on each page that it touches.
pub record IsReadOf {D : Type 0} (file : List ℕ) (r : Read D) : Type 0 where
  pub head : HeadSays file r.shape
  pub R : List Record
  pub ends : WalkEnds file FIRST_GATE r.log.end [] R
  pub has : HasRecords R r.log
  pub none : r.log.waiting.bytes ≡ []
  pub fit : AreAllFit r.shape R
  pub pages : HasPages r.shape R r.pages
  pub commits : r.commits ≡ commit_count R

abbrev pub IsPrepared : {D : Type 0} → List ℕ → Result (Read D) StoreOpen → Type 0
IsPrepared file (Ok r) = IsReadOf file r
IsPrepared file (Err fault) = IsRefused file fault

-- the same of the head alone, of the opening of the log, and of the reading of its records
abbrev pub IsHeadRead : List ℕ → Result Shape StoreOpen → Type 0
IsHeadRead file (Ok sh) = HeadSays file sh
IsHeadRead file (Err fault) = IsRefused file fault

abbrev pub IsLogRead : List ℕ → Result Kept StoreOpen → Type 0
IsLogRead file (Ok log) = IsFound file FIRST_GATE [] log
IsLogRead file (Err fault) = IsRefused file fault

abbrev pub AreRead : List ℕ → Result (Vec Record) StoreOpen → Type 0
AreRead file (Ok records) = AreAll file FIRST_GATE records.items
AreRead file (Err fault) = IsRefused file fault
