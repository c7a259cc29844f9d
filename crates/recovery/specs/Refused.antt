-- Why no store is opened on two files. They are tested in this order: the log's head, the length of the data file, the groups
-- of the log one after the other, the pages that their records make.
use Rattle.std.specs.Prelude.{◌≡◌, ◌⊎◌, ℕ, ◌*◌, ◌<◌, ◌≤◌, false, List, [], length, slice_index, Result, Ok, Err}
use Rattle.seg_words.specs.Types.{Shape, BLOCK_SIZE, FIRST_GATE}
use Rattle.disk_model.specs.Types.{Files}
use Rattle.disk_model.specs.declared.disk.File.TheVariants.{Data, Log}
use Rattle.log_frame.specs.Types.{is_formatted}
use Rattle.redo_model.specs.Records.{Record}
use Rattle.redo_log.specs.Found.{WalkBreaks, WalkEnds}
use Rattle.page_map.specs.Fitting.{AreAllFit, StopsAt}
use Rattle.store_files.specs.Store.{data_size}
use Rattle.store_files.specs.declared.fault.OpenFault.{OpenFault}
use Rattle.store_files.specs.declared.fault.OpenFault.TheVariants.{DeviceFault, NotFormatted, BadFile, AlreadyFormatted, NoMemory}
use Rattle.store_core.specs.Store.{Read}
use Rattle.store_core.specs.Survives.{IsSound}
use Rattle.store_core.specs.Preparing.{HeadSays, HeadBreaks}

-- where a block begins in the data file
abbrev pub block_at : ℕ → ℕ
block_at d = d * BLOCK_SIZE

-- the head of the log is right, and the data file has all of its blocks
pub record HasBlocks (sh : Shape) (files : Files) : Type 0 where
  pub head : HeadSays files.log_bytes sh
  pub long : data_size sh ≤ length files.data_bytes

-- and the groups of the log lead from its first gate to the closed one, with these records
pub record ReadsAs (sh : Shape) (R : List Record) (files : Files) : Type 0 where
  pub blocks : HasBlocks sh files
  pub end : ℕ
  pub ends : WalkEnds files.log_bytes FIRST_GATE end [] R

-- with some records, each of which fits on each page that it touches
pub record IsRead (sh : Shape) (files : Files) : Type 0 where
  pub R : List Record
  pub reads : ReadsAs sh R files
  pub fit : AreAllFit sh R

-- the head is right, and the data file ends before its last block does
pub record EndsEarly (files : Files) (offset seen : ℕ) : Type 0 where
  pub shape : Shape
  pub head : HeadSays files.log_bytes shape
  pub short : length files.data_bytes < data_size shape
  pub at_end : offset ≡ length files.data_bytes
  pub none : seen ≡ 0

-- the blocks are there, and this is wrong first in the groups
pub record GroupStops (files : Files) (offset seen : ℕ) : Type 0 where
  pub shape : Shape
  pub blocks : HasBlocks shape files
  pub breaks : WalkBreaks files.log_bytes FIRST_GATE offset seen []

-- All of the log is right, and the first of its records that doesn't fit on each page that it touches doesn't fit on the page that
-- begins here.
pub record PageStops (files : Files) (offset seen : ℕ) : Type 0 where
  pub shape : Shape
  pub R : List Record
  pub reads : ReadsAs shape R files
  pub block : ℕ
  pub stops : StopsAt shape R block
  pub begins : offset ≡ block_at block
  pub is : seen ≡ slice_index files.data_bytes offset

-- Why no store is read of two files, unless the device failed. Memory is wanting only behind the tests of the head and of the length.
abbrev pub IsRefused : Files → OpenFault → Type 0
IsRefused files DeviceFault = Unit {0}
IsRefused files NotFormatted = is_formatted files.log_bytes ≡ false
IsRefused files (BadFile Log offset seen) = HeadBreaks files.log_bytes offset seen ⊎ GroupStops files offset seen
IsRefused files (BadFile Data offset seen) = EndsEarly files offset seen ⊎ PageStops files offset seen
IsRefused files AlreadyFormatted = ⊥
IsRefused files NoMemory = (sh : Shape) × HasBlocks sh files

-- Why what is active in the records of a store wasn't taken back, unless the device failed or memory is wanting: they aren't those of
-- a sound store, since what they call for doesn't stand on the page that begins here.
abbrev pub WhyLeftActive : Files → Shape → List Record → OpenFault → Type 0
WhyLeftActive files sh R DeviceFault = Unit {0}
WhyLeftActive files sh R NotFormatted = ⊥
WhyLeftActive files sh R (BadFile Log offset seen) = ⊥
WhyLeftActive files sh R (BadFile Data offset seen) = (IsSound sh R files → ⊥) × ((block : ℕ) × (offset ≡ block_at block))
WhyLeftActive files sh R AlreadyFormatted = ⊥
WhyLeftActive files sh R NoMemory = Unit {0}

-- the files read as those of a store, each record fits on each page that it touches, and what is active in it wasn't taken back
pub record IsLeftActive (files : Files) (fault : OpenFault) : Type 0 where
  pub shape : Shape
  pub R : List Record
  pub reads : ReadsAs shape R files
  pub fit : AreAllFit shape R
  pub why : WhyLeftActive files shape R fault

abbrev pub IsReadOrRefused : {D : Type 0} → Files → Result (Read D) OpenFault → Type 0
IsReadOrRefused files (Ok loaded) = IsRead loaded.shape files
IsReadOrRefused files (Err fault) = IsRefused files fault

-- the byte that a refusal of the data file shows is the one there, 0 where the file ends before it
abbrev pub Shows : Files → OpenFault → Type 0
Shows files DeviceFault = Unit {0}
Shows files NotFormatted = Unit {0}
Shows files (BadFile Log offset seen) = Unit {0}
Shows files (BadFile Data offset seen) = seen ≡ slice_index files.data_bytes offset
Shows files AlreadyFormatted = Unit {0}
Shows files NoMemory = Unit {0}

-- what a sound store may answer
abbrev pub IsSoundRefusal : OpenFault → Type 0
IsSoundRefusal DeviceFault = Unit {0}
IsSoundRefusal NotFormatted = ⊥
IsSoundRefusal (BadFile file offset seen) = ⊥
IsSoundRefusal AlreadyFormatted = ⊥
IsSoundRefusal NoMemory = Unit {0}
