-- What the top call promises.
use Rattle.std.specs.Prelude.{◌≡◌, ◌⊎◌, ℕ, ◌+◌, ◌-◌, ◌/◌, ◌^◌, ◌≤◌, true, false, List, [], ◌++◌, length, slice_index, Option, Ok, Err, codes, decimal}
use Rattle.std.specs.Io.KnownBytes.{Appends}
use Rattle.seg_words.specs.Types.{OWN_BLOCKS, Shape}
use Rattle.disk_model.specs.declared.disk.File.{File}
use Rattle.disk_model.specs.Types.{Files, Meaning, Now, Always, IsSettled, Leaves, Untouched}
use Rattle.disk_model.specs.declared.disk.File.TheVariants.{Data, Log}
use Rattle.text_port.specs.Whole.{AppendsPrefix, WereAll}
use Rattle.log_frame.specs.Types.{is_formatted}
use Rattle.redo_model.specs.Records.{Record}
use Rattle.rollback_laws.specs.Closing.{closed}
use Rattle.store_files.specs.Store.{IsDurable, NoneOrEmpty, AreZero}
use Rattle.store_files.specs.declared.fault.OpenFault.{OpenFault}
use Rattle.store_core.specs.Survives.{IsSound, IsLeft}
use Rattle.recovery.specs.Refused.{block_at, IsRead, IsRefused, IsLeftActive, IsSoundRefusal, Shows}
use Rattle.recovery.specs.Opened.{ReopensSince}
use Rattle.session_step.specs.declared.forms.TheConstants.{BUILT_FORMS}
use Rattle.script_text.specs.declared.why.Why.{Why}
use Rattle.script_text.specs.Script.{Script}
use Rattle.script_text.specs.Grammar.{scripts_of}
use Rattle.history_model.specs.declared.history.HistoryItem.{HistoryItem}
use Rattle.history_model.specs.History.{AreInTime}
use Rattle.history_model.specs.Legal.{IsLegal}
use Rattle.history_model.specs.Running.{IsAtEnd}
use Rattle.session_world.specs.Order.{AreTurns, AreFirstTurns}
use Rattle.session_world.specs.Whole.{text_of, needed_by, LacksNewest, turns_of}
use Rattle.assm.specs.declared.status.Status.{Status}
use Rattle.assm.specs.declared.status.Status.TheVariants.{Done, BadScript, DeviceFault, NoMemory, BadFile, NotFormatted, ReadFault, WriteFault, ScriptTooLong, AlreadyFormatted}
use Rattle.script_text.specs.declared.why.ScriptFault.TheVariants as bad
use Rattle.store_files.specs.declared.fault.OpenFault.TheVariants as opening

-- ---- scripts

-- what the source had left is a script of at most 2^24 bytes, which has P
pub record HadScript (left : Option (List ℕ)) (P : List ℕ → Type 0) : Type 0 where
  pub text : List ℕ
  pub was : WereAll left text
  pub short : length text ≤ 2 ^ 24
  pub has : P text

-- the script is in the grammar
abbrev pub IsAccepted : List ℕ → Type 0
IsAccepted text = (script : Script) × (scripts_of BUILT_FORMS text ≡ Ok script)

-- the script isn't in the grammar, and this is its first bad line
abbrev pub IsBad : ℕ → Why → List ℕ → Type 0
IsBad line why text = scripts_of BUILT_FORMS text ≡ Err (bad.BadLine line why)

-- ---- stores

-- The disk tells what it holds, a crash now would leave just that, and it is a sound store with the records R.
pub record StartsSound {D : Type 0} (meaning : Meaning D) (disk : D) (sh : Shape) (R : List Record) : Type 0 where
  pub durable : IsDurable meaning disk
  pub sound : IsSound sh R (meaning.files disk)

-- Since that moment, on files of this shape with the records R, the sessions of the script ran: from R, with what was active in
-- them taken back, their statements made these records and this history, all of it legal, by the first turns of the schedule and of
-- the rounds behind it. The sink took a first part of its text. A crash at each moment left, or leaves now, a sound store with a
-- first part of the records: all of R, and at each moment at which a commit had been told the records up to that commit. The data
-- file stays.
pub record Ran {D : Type 0} (meaning : Meaning D) (since : ℕ) (data_bytes : List ℕ) (disk' : D) (old new : Option (List ℕ)) (sh : Shape) (R : List Record) (script : Script) : Type 0 where
  pub records : List Record
  pub history : List HistoryItem
  pub legal : IsLegal sh script.sessions (closed R) records history
  pub in_time : AreInTime (meaning.clock disk') history
  pub rounds : ℕ
  pub turns : AreFirstTurns sh script.sessions (closed R) (turns_of script rounds) records history
  pub took : AppendsPrefix old new (text_of history)
  pub survives : Always meaning since disk' (λ m image. IsLeft sh data_bytes records (needed_by (length R) history m) image)

-- the sink took the whole text
pub record RanPrinted {D : Type 0} (meaning : Meaning D) (since : ℕ) (data_bytes : List ℕ) (disk' : D) (old new : Option (List ℕ)) (sh : Shape) (R : List Record) (script : Script) : Type 0 where
  pub ran : Ran meaning since data_bytes disk' old new sh R script
  pub printed : Appends old new (text_of ran.history)

-- No line was cut, and the newest entry may lack all of its lines: memory was wanting for them.
pub record RanLines {D : Type 0} (meaning : Meaning D) (since : ℕ) (data_bytes : List ℕ) (disk' : D) (old new : Option (List ℕ)) (sh : Shape) (R : List Record) (script : Script) : Type 0 where
  pub ran : Ran meaning since data_bytes disk' old new sh R script
  pub lines : Appends old new (text_of ran.history) ⊎ LacksNewest old new ran.history

-- All of it ran: all these turns were taken, each statement has its entry, no transaction is active, the sink took the whole text,
-- and a crash now leaves all records: the next run begins with them.
pub record RanWhole {D : Type 0} (meaning : Meaning D) (since : ℕ) (data_bytes : List ℕ) (disk' : D) (old new : Option (List ℕ)) (sh : Shape) (R : List Record) (script : Script) : Type 0 where
  pub ran : Ran meaning since data_bytes disk' old new sh R script
  pub all : AreTurns sh script.sessions (closed R) (turns_of script ran.rounds) ran.records ran.history
  pub printed : Appends old new (text_of ran.history)
  pub over : IsAtEnd sh script.sessions (closed R) ran.records ran.history (meaning.clock disk')
  pub stable : (image : Files) → Now meaning disk' image → IsLeft sh data_bytes ran.records (length ran.records) image
  pub again : StartsSound meaning disk' sh ran.records

module _ {D : Type 0} (meaning : Meaning D) (disk disk' : D) (old new : Option (List ℕ)) where
  -- nothing was printed, and no call was made on the disk
  pub record NothingCalled : Type 0 where
    pub printed : new ≡ old
    pub same : disk' ≡ disk

  -- No store was opened, and nothing was printed. The files were refused by their bytes, which stay, or what was left active in
  -- them couldn't be taken back. A sound store is refused for its device or for want of memory alone, and a crash within the call
  -- leaves an image that opens as the store itself would have.
  pub record NotOpened (fault : OpenFault) : Type 0 where
    pub printed : new ≡ old
    pub why : IsSettled meaning disk Log → (Untouched meaning disk disk' × IsRefused (meaning.files disk) fault) ⊎ IsLeftActive (meaning.files disk) fault
    pub shows : meaning.told disk → Shows (meaning.files disk') fault
    pub outside : (sh : Shape) (R : List Record) → StartsSound meaning disk sh R → IsSoundRefusal fault
    pub reopens : (sh : Shape) (R : List Record) → StartsSound meaning disk sh R → ReopensSince meaning (meaning.clock disk) sh R (meaning.files disk).data_bytes disk'

  -- The script is in the grammar. The files read as a store's, and where they were a sound one the run of the script has P.
  pub record Opened (P : Shape → List Record → Script → Type 0) (text : List ℕ) : Type 0 where
    pub script : Script
    pub says : scripts_of BUILT_FORMS text ≡ Ok script
    pub shape : Shape
    pub read : meaning.told disk → IsRead shape (meaning.files disk)
    pub ran : (sh : Shape) (R : List Record) → StartsSound meaning disk sh R → P sh R script

  -- The script is in the grammar. The files read as a store's but aren't a sound one's: an event found no page as it needed one.
  -- What is told is a place where a block begins in the data file, which one isn't said, and the byte there, 0 past the file's end.
  pub record Breaks (which : File) (offset seen : ℕ) (text : List ℕ) : Type 0 where
    pub opened : Opened (λ sh R script. ⊥) text
    pub file : which ≡ Data
    pub block : ℕ
    pub begins : offset ≡ block_at block
    pub shows : meaning.told disk → seen ≡ slice_index (meaning.files disk').data_bytes offset

  abbrev pub Fails : OpenFault → List ℕ → Type 0
  Fails fault text = IsAccepted text × NotOpened fault

  abbrev pub RanOf : List ℕ → Type 0
  RanOf text = Opened (Ran meaning (meaning.clock disk) (meaning.files disk).data_bytes disk' old new) text

  abbrev pub RanLinesOf : List ℕ → Type 0
  RanLinesOf text = Opened (RanLines meaning (meaning.clock disk) (meaning.files disk).data_bytes disk' old new) text

  abbrev pub RanPrintedOf : List ℕ → Type 0
  RanPrintedOf text = Opened (RanPrinted meaning (meaning.clock disk) (meaning.files disk).data_bytes disk' old new) text

  abbrev pub RanWholeOf : List ℕ → Type 0
  RanWholeOf text = Opened (RanWhole meaning (meaning.clock disk) (meaning.files disk).data_bytes disk' old new) text

  -- What a status says of a script that was read. It is run only where it is in the grammar, and a line is cut only where the
  -- sink failed.
  abbrev pub RunTells : Status → List ℕ → Type 0
  RunTells Done text = RanWholeOf text
  RunTells WriteFault text = RanOf text
  RunTells DeviceFault text = Fails opening.DeviceFault text ⊎ RanPrintedOf text
  RunTells NoMemory text = NothingCalled ⊎ (Fails opening.NoMemory text ⊎ RanLinesOf text)
  RunTells (BadScript line why) text = IsBad line why text × NothingCalled
  RunTells (BadFile which offset seen) text = Fails (opening.BadFile which offset seen) text ⊎ Breaks which offset seen text
  RunTells NotFormatted text = Fails opening.NotFormatted text
  RunTells status text = ⊥

  -- what a status of `run` says
  abbrev pub ScriptTells : Option (List ℕ) → Status → Type 0
  ScriptTells left ReadFault = NothingCalled
  ScriptTells left ScriptTooLong = NothingCalled
  ScriptTells left NoMemory = NothingCalled ⊎ HadScript left (RunTells NoMemory)
  ScriptTells left status = HadScript left (RunTells status)

-- ---- making a store

-- the line of a store that was made: its shape, and the number of whole extents
abbrev pub shape_text : Shape → List ℕ
shape_text shape = codes "formatted " ++ decimal shape.blocks ++ codes " " ++ decimal shape.extent ++ codes " " ++ decimal shape.undo ++ codes " extents " ++ decimal ((shape.blocks - (OWN_BLOCKS + shape.undo)) / shape.extent) ++ codes "\n"

-- a sound store of this shape without a record, its blocks all zeros
pub record IsMade {D : Type 0} (meaning : Meaning D) (disk : D) (shape : Shape) : Type 0 where
  pub starts : StartsSound meaning disk shape []
  pub zeros : AreZero shape (meaning.files disk).data_bytes

module _ {D : Type 0} (meaning : Meaning D) (disk disk' : D) (shape : Shape) where
  -- on a log that isn't formatted a crash at a moment of the call leaves such a log, or the whole empty store
  abbrev pub MakesOrNot : Type 0
  MakesOrNot = IsDurable meaning disk → is_formatted (meaning.files disk).log_bytes ≡ false → Leaves meaning disk disk' (NoneOrEmpty shape)

  -- the store was made, where there was none
  pub record Makes : Type 0 where
    pub moments : MakesOrNot
    pub blank : meaning.told disk → is_formatted (meaning.files disk).log_bytes ≡ false
    pub made : IsDurable meaning disk → IsMade meaning disk' shape

module _ {D : Type 0} (meaning : Meaning D) (disk disk' : D) (old new : Option (List ℕ)) (shape : Shape) where
  -- what a status of `format` says
  abbrev pub FormatTells : Status → Type 0
  FormatTells Done = Appends old new (shape_text shape) × Makes meaning disk disk' shape
  FormatTells WriteFault = AppendsPrefix old new (shape_text shape) × Makes meaning disk disk' shape
  FormatTells AlreadyFormatted = (new ≡ old) × Untouched meaning disk disk' × (meaning.told disk → is_formatted (meaning.files disk).log_bytes ≡ true)
  FormatTells DeviceFault = (new ≡ old) × MakesOrNot meaning disk disk' shape
  FormatTells NoMemory = (new ≡ old) × MakesOrNot meaning disk disk' shape
  FormatTells status = ⊥
