-- Records of a log that are redone on the pages of a data file, the oldest first.
use Rattle.std.specs.Prelude.{◌≡◌, ℕ, suc, ◌≤◌, ◌<◌, List, ◌∷◌, ◌++◌, length, reverse}
use Rattle.seg_words.specs.Types.{Shape}
use Rattle.disk_model.specs.Types.{Meaning, IsSettled}
use Rattle.disk_model.specs.declared.disk.File.TheVariants.{Data}
use Rattle.redo_record.specs.declared.record.Record.{Record}
use Rattle.redo_model.specs.Lists.{prefix}
use Rattle.page_store.specs.declared.fault.PageFault.{PageFault}
use Rattle.page_store.specs.declared.fault.PageFault.TheVariants.{DeviceFault, BadPage, NoMemory}
use Rattle.page_set.specs.declared.page.Page.{Page}
use Rattle.buffer_pool.specs.Frames.{Pool}
use Rattle.pool_laws.specs.Reached.{AreReached}
use Rattle.store_pages.specs.Pages.{AreReadable, HasFolds, IsOver, KeepsFiles, LeavesFolds}
use Rattle.store_pages.specs.Fitting.{IsUnfit}

-- The data file of the disk is that of a store whose log has these records, behind m older ones: its pages are folds of all of
-- them, each with the first m.
pub record IsOpenable {D : Type 0} (meaning : Meaning D) (disk : D) (sh : Shape) (records older : List Record) (m : ℕ) : Type 0 where
  pub settled : IsSettled meaning disk Data
  pub count : length older ≡ m
  pub folds : HasFolds sh (reverse records ++ older) m (meaning.files disk).data_bytes
  pub readable : AreReadable sh (reverse records ++ older)

-- the pages have come as far in R as the first n records
pub record IsRedone {D : Type 0} (meaning : Meaning D) (disk : D) (R : List Record) (m n : ℕ) (s : Pool) : Type 0 where
  pub image : ℕ → Page
  pub over : IsOver meaning disk R m image s
  pub reached : AreReached s.shape R n image

-- the record behind the first n of R comes next
pub record IsTurn {D : Type 0} (meaning : Meaning D) (disk : D) (R : List Record) (m n : ℕ) (r : Record) (lsn : ℕ) (s : Pool) : Type 0 where
  pub behind : m ≤ n
  pub within : n < length R
  pub next : prefix R (suc n) ≡ r ∷ prefix R n
  pub number : lsn ≡ suc n
  pub readable : AreReadable s.shape R
  pub redone : IsRedone meaning disk R m n s

-- such turns one after the other, up to the n-th record
pub record AreTurns {D : Type 0} (meaning : Meaning D) (old new : D) (R : List Record) (m n : ℕ) (s : Pool) : Type 0 where
  pub redone : IsRedone meaning new R m n s
  pub keeps : KeepsFiles meaning old new
  pub leaves : LeavesFolds meaning old new s.shape R m

-- what the redo of these records behind m older ones begins with
pub record BeginsTurns {D : Type 0} (meaning : Meaning D) (disk : D) (records older : List Record) (m : ℕ) (s : Pool) : Type 0 where
  pub count : length older ≡ m
  pub readable : AreReadable s.shape (reverse records ++ older)
  pub redone : IsRedone meaning disk (reverse records ++ older) m m s

-- one of the records behind the first m touches block d and doesn't fit there, as the records before it leave the pages
pub record StopsAt (sh : Shape) (records : List Record) (m d : ℕ) : Type 0 where
  pub newer : List Record
  pub stop : Record
  pub older : List Record
  pub split : records ≡ newer ++ stop ∷ older
  pub behind : m ≤ length older
  pub unfit : IsUnfit sh older stop d

-- why the pages of a file aren't brought up to the log, unless the device failed or memory is wanting
abbrev pub WhyNotRedone : Shape → List Record → ℕ → PageFault → Type 0
WhyNotRedone sh records m DeviceFault = Unit {0}
WhyNotRedone sh records m (BadPage b) = StopsAt sh records m b
WhyNotRedone sh records m NoMemory = Unit {0}
