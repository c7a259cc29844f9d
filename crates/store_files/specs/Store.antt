-- A store that was just made.
use Rattle.seg_words.specs.Types.{BLOCK_SIZE, LOG_HEAD_SIZE, Shape}
use Rattle.std.specs.Prelude.{◌≡◌, ◌⊎◌, ℕ, ◌*◌, ◌<◌, ◌≤◌, true, false, List, [], length, take, replicate, Result, Ok, Err}
use Rattle.disk_model.specs.Types.{Files, Meaning, Now}
use Rattle.disk_model.specs.declared.disk.File.TheVariants.{Data, Log}
use Rattle.log_frame.specs.Types.{is_formatted, shape_found, wrong, Walked, IsLog}
use Rattle.log_frame.specs.declared.fault.FrameFault.{FrameFault}
use Rattle.store_files.specs.declared.fault.OpenFault.{OpenFault}
use Rattle.store_files.specs.declared.fault.OpenFault.TheVariants.{DeviceFault, NotFormatted, BadFile, AlreadyFormatted, NoMemory}
use Rattle.log_frame.specs.declared.fault.FrameFault.TheVariants as frame

-- the same fault of a log
abbrev pub fault_of : FrameFault → OpenFault
fault_of frame.DeviceFault = DeviceFault
fault_of frame.NotOpen = NotFormatted
fault_of (frame.BadFrame offset seen) = BadFile Log offset seen
fault_of frame.NoMemory = NoMemory

-- the bytes of a store's blocks
abbrev pub data_size : Shape → ℕ
data_size shape = shape.blocks * BLOCK_SIZE

-- the blocks are zero
abbrev pub AreZero : Shape → List ℕ → Type 0
AreZero shape bytes = take (data_size shape) bytes ≡ replicate (data_size shape) 0

-- both files of a store without a record
pub record IsEmptyStore (shape : Shape) (files : Files) : Type 0 where
  pub log : IsLog shape [] files.log_bytes
  pub blocks : AreZero shape files.data_bytes

-- a log that isn't formatted, or an empty store
abbrev pub NoneOrEmpty : Shape → Files → Type 0
NoneOrEmpty shape files = (is_formatted files.log_bytes ≡ false) ⊎ IsEmptyStore shape files

-- a crash leaves what a read gives
pub record IsDurable {D : Type 0} (meaning : Meaning D) (disk : D) : Type 0 where
  pub told : meaning.told disk
  pub durable : (image : Files) → Now meaning disk image → image ≡ meaning.files disk

-- each answer has its cause in the log as it was
abbrev pub FormatAnswers : List ℕ → Result (Unit {0}) OpenFault → Type 0
FormatAnswers log_bytes (Ok done) = is_formatted log_bytes ≡ false
FormatAnswers log_bytes (Err DeviceFault) = Unit {0}
FormatAnswers log_bytes (Err NotFormatted) = ⊥
FormatAnswers log_bytes (Err (BadFile file offset seen)) = ⊥
FormatAnswers log_bytes (Err AlreadyFormatted) = is_formatted log_bytes ≡ true
FormatAnswers log_bytes (Err NoMemory) = ⊥

-- the faults that making a store may meet
abbrev pub IsFormatFault : OpenFault → Type 0
IsFormatFault DeviceFault = Unit {0}
IsFormatFault NotFormatted = ⊥
IsFormatFault (BadFile file offset seen) = ⊥
IsFormatFault AlreadyFormatted = Unit {0}
IsFormatFault NoMemory = Unit {0}

-- the files of a store of this shape, with these groups in its log
pub record IsStore (shape : Shape) (groups : List (List ℕ)) (files : Files) : Type 0 where
  pub log : IsLog shape groups files.log_bytes
  pub long : data_size shape ≤ length files.data_bytes

-- what the head of the log and the length of the data file say
abbrev pub IsShapeFound : Files → Result Shape OpenFault → Type 0
IsShapeFound files (Ok shape) = (is_formatted files.log_bytes ≡ true) × (shape_found (take LOG_HEAD_SIZE files.log_bytes) ≡ Ok shape) × (data_size shape ≤ length files.data_bytes)
IsShapeFound files (Err DeviceFault) = Unit {0}
IsShapeFound files (Err NotFormatted) = is_formatted files.log_bytes ≡ false
IsShapeFound files (Err (BadFile Log offset seen)) = (is_formatted files.log_bytes ≡ true) × (shape_found (take LOG_HEAD_SIZE files.log_bytes) ≡ Err (wrong offset seen))
IsShapeFound files (Err (BadFile Data offset seen)) =
    (is_formatted files.log_bytes ≡ true) × ((shape : Shape) × (shape_found (take LOG_HEAD_SIZE files.log_bytes) ≡ Ok shape) × (length files.data_bytes < data_size shape))
    × (offset ≡ length files.data_bytes) × (seen ≡ 0)
IsShapeFound files (Err AlreadyFormatted) = ⊥
IsShapeFound files (Err NoMemory) = ⊥

-- what a walk over the log says
abbrev pub IsLogOpened : Files → ℕ → Result ℕ OpenFault → Type 0
IsLogOpened files from (Ok end) = (is_formatted files.log_bytes ≡ true) × Walked files.log_bytes from (Ok end)
IsLogOpened files from (Err DeviceFault) = Unit {0}
IsLogOpened files from (Err NotFormatted) = is_formatted files.log_bytes ≡ false
IsLogOpened files from (Err (BadFile Log offset seen)) = (is_formatted files.log_bytes ≡ true) × Walked files.log_bytes from (Err (wrong offset seen))
IsLogOpened files from (Err (BadFile Data offset seen)) = ⊥
IsLogOpened files from (Err AlreadyFormatted) = ⊥
IsLogOpened files from (Err NoMemory) = ⊥

-- this holds of the answer, unless the device failed
abbrev pub Answers : {A : Type 0} → Result A OpenFault → (A → Type 0) → Type 0
Answers (Ok answer) P = P answer
Answers (Err DeviceFault) P = Unit {0}
Answers (Err NotFormatted) P = ⊥
Answers (Err (BadFile file offset seen)) P = ⊥
Answers (Err AlreadyFormatted) P = ⊥
Answers (Err NoMemory) P = ⊥
