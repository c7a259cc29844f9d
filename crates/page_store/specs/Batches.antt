-- A batch of pages, and what a disk has before it and after it.
use Rattle.std.specs.Prelude.{◌≡◌, ◌≢◌, ◌⊎◌, ◌↔◌, ℕ, ◌+◌, ◌*◌, ◌<◌, ◌≤◌, Bool, true, false, List, length, map, Option, Some, None, Result, Ok, Err}
use Rattle.page_store.specs.declared.area.TheConstants.{AREA_END}
use Rattle.seg_words.specs.Types.{Shape, BLOCK_SIZE, DOUBLE_WRITE_BLOCK}
use Rattle.disk_model.specs.Types.{Files, Meaning, Now, Leaves, IsSettled, OnlyFile}
use Rattle.disk_model.specs.declared.disk.File.TheVariants.{Data}
use Rattle.page_store.specs.Pages.{part, gate, block, page_in, is_sound_area, head_blocks, HasPages}
use Rattle.page_store.specs.declared.page.RawPage.{RawPage}
use Rattle.page_store.specs.declared.fault.PageFault.{PageFault}
use Rattle.page_store.specs.declared.fault.PageFault.TheVariants.{DeviceFault, BadPage, NoMemory}

abbrev pub blocks_of : List RawPage → List ℕ
blocks_of batch = map (λ (p : RawPage). p.dba) batch

-- the pages with those of a batch in their blocks
abbrev pub after : List RawPage → (ℕ → List ℕ) → ℕ → List ℕ
after batch pages b = page_in batch b (pages b)

-- the file of a store whose area's gate is closed
pub record IsShut (shape : Shape) (pages : ℕ → List ℕ) (bytes : List ℕ) : Type 0 where
  pub has : HasPages shape pages bytes
  pub shut : gate bytes ≢ 1

-- the file of a store with a batch that isn't finished, whose blocks these are
pub record IsUnfinished (shape : Shape) (pages : ℕ → List ℕ) (blocks bytes : List ℕ) : Type 0 where
  pub has : HasPages shape pages bytes
  pub one : gate bytes ≡ 1
  pub named : blocks ≡ head_blocks (block DOUBLE_WRITE_BLOCK bytes)

-- it has P, and is as long as another
pub record AsLong (other : List ℕ) (P : List ℕ → Type 0) (bytes : List ℕ) : Type 0 where
  pub long : length bytes ≡ length other
  pub is : P bytes

-- The disk has a store with these pages, between two batches, all of it on the disk.
pub record IsStore {D : Type 0} (meaning : Meaning D) (disk : D) (shape : Shape) (pages : ℕ → List ℕ) : Type 0 where
  pub settled : IsSettled meaning disk Data
  pub file : IsShut shape pages (meaning.files disk).data_bytes

-- A run of calls that changed the data file alone left a store with these pages, in a file as long as before.
pub record Leads {D : Type 0} (meaning : Meaning D) (old new : D) (shape : Shape) (pages : ℕ → List ℕ) : Type 0 where
  pub store : IsStore meaning new shape pages
  pub long : length (meaning.files new).data_bytes ≡ length (meaning.files old).data_bytes
  pub log_stays : (meaning.files new).log_bytes ≡ (meaning.files old).log_bytes
  pub images : (image : Files) → Now meaning new image → OnlyFile meaning old Data (IsShut shape pages) image

-- an image that a crash of the old disk would have left, but for the data file
abbrev pub OnlyData : {D : Type 0} → Meaning D → D → Files → Type 0
OnlyData meaning old image = OnlyFile meaning old Data (λ (bytes : List ℕ). Unit {0}) image

-- Calls that wrote the data file alone, whatever it holds: the log reads as before, and at each moment a crash left a log that it
-- might have left before.
pub record LeavesLog {D : Type 0} (meaning : Meaning D) (old new : D) : Type 0 where
  pub told : meaning.told new ↔ meaning.told old
  pub log_stays : meaning.told old → (meaning.files new).log_bytes ≡ (meaning.files old).log_bytes
  pub leaves : meaning.told old → Leaves meaning old new (OnlyData meaning old)

-- the pages before the batch, or those after it
abbrev pub WholeOrNot : Shape → (ℕ → List ℕ) → List RawPage → List ℕ → Type 0
WholeOrNot shape pages batch bytes = HasPages shape pages bytes ⊎ HasPages shape (after batch pages) bytes

-- 4,096 bytes from a place on were read, where the file has as many there
abbrev pub IsPartRead : ℕ → List ℕ → List ℕ → Bool → Type 0
IsPartRead at bytes page true = (at + BLOCK_SIZE ≤ length bytes) × (page ≡ part at BLOCK_SIZE bytes)
IsPartRead at bytes page false = length bytes < at + BLOCK_SIZE

-- the head of the area was read, where the file has all of the area
abbrev pub IsHeadRead : List ℕ → List ℕ → Bool → Type 0
IsHeadRead bytes head true = (AREA_END ≤ length bytes) × (head ≡ block DOUBLE_WRITE_BLOCK bytes)
IsHeadRead bytes head false = length bytes < AREA_END

-- What a look at the area says of the file, unless the device failed: the blocks of its copies, where its gate is open.
-- The fault of an area names its head.
abbrev pub IsAreaFound : Shape → List ℕ → Result (Option (List ℕ)) PageFault → Type 0
IsAreaFound shape bytes (Ok None) = (is_sound_area shape bytes ≡ true) × (gate bytes ≢ 1)
IsAreaFound shape bytes (Ok (Some blocks)) = (is_sound_area shape bytes ≡ true) × (gate bytes ≡ 1) × (blocks ≡ head_blocks (block DOUBLE_WRITE_BLOCK bytes))
IsAreaFound shape bytes (Err DeviceFault) = Unit {0}
IsAreaFound shape bytes (Err (BadPage dba)) = (is_sound_area shape bytes ≡ false) × (dba ≡ DOUBLE_WRITE_BLOCK)
IsAreaFound shape bytes (Err NoMemory) = ⊥

-- what an opening says of the file
abbrev pub IsOpening : Shape → List ℕ → Result Shape PageFault → Type 0
IsOpening shape bytes (Ok store) = is_sound_area shape bytes ≡ true
IsOpening shape bytes (Err DeviceFault) = Unit {0}
IsOpening shape bytes (Err (BadPage dba)) = (is_sound_area shape bytes ≡ false) × (dba ≡ DOUBLE_WRITE_BLOCK)
IsOpening shape bytes (Err NoMemory) = ⊥

-- what a look at a page says of the file
abbrev pub IsLook : List ℕ → ℕ → List ℕ → Result (Unit {0}) PageFault → Type 0
IsLook bytes dba page (Ok done) = (BLOCK_SIZE * dba + BLOCK_SIZE ≤ length bytes) × (page ≡ block dba bytes)
IsLook bytes dba page (Err DeviceFault) = Unit {0}
IsLook bytes dba page (Err (BadPage d)) = (length bytes < BLOCK_SIZE * dba + BLOCK_SIZE) × (d ≡ dba)
IsLook bytes dba page (Err NoMemory) = ⊥

-- this holds at Ok, and no other fault comes than one of the device
abbrev pub Answers : {A : Type 0} → Result A PageFault → (A → Type 0) → Type 0
Answers (Ok answer) P = P answer
Answers (Err DeviceFault) P = Unit {0}
Answers (Err (BadPage dba)) P = ⊥
Answers (Err NoMemory) P = ⊥

-- a fault of a page names a block for which this holds
abbrev pub Names : (ℕ → Type 0) → PageFault → Type 0
Names P DeviceFault = Unit {0}
Names P (BadPage dba) = P dba
Names P NoMemory = Unit {0}
