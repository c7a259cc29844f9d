-- A log on a disk.
use Rattle.std.specs.Prelude.{◌≡◌, ℕ, ◌+◌, List, length}
use Rattle.seg_words.specs.Types.{Shape, FIRST_GATE}
use Rattle.disk_model.specs.Types.{Files, Meaning, Now, IsSettled, OnlyFile}
use Rattle.disk_model.specs.declared.disk.File.TheVariants.{Log}
use Rattle.log_frame.specs.Frame.{frames}
use Rattle.log_frame.specs.Spelling.{IsLog}

-- The disk has this log, all of it on the disk, and its closed gate stands at the end.
pub record IsReady {D : Type 0} (meaning : Meaning D) (disk : D) (shape : Shape) (groups : List (List ℕ)) (end : ℕ) : Type 0 where
  pub settled : IsSettled meaning disk Log
  pub log : IsLog shape groups (meaning.files disk).log_bytes
  pub at_end : FIRST_GATE + length (frames groups) ≡ end

-- A call that changed the log alone left a log with Q, all of it on the disk.
pub record Settles {D : Type 0} (meaning : Meaning D) (old new : D) (Q : List ℕ → Type 0) : Type 0 where
  pub settled : IsSettled meaning new Log
  pub data_stays : (meaning.files new).data_bytes ≡ (meaning.files old).data_bytes
  pub holds : Q (meaning.files new).log_bytes
  pub images : (image : Files) → Now meaning new image → OnlyFile meaning old Log (λ (bytes : List ℕ). bytes ≡ (meaning.files new).log_bytes) image

-- The same of a log that is ready for the next group.
pub record Leads {D : Type 0} (meaning : Meaning D) (old new : D) (shape : Shape) (groups : List (List ℕ)) (end : ℕ) : Type 0 where
  pub ready : IsReady meaning new shape groups end
  pub data_stays : (meaning.files new).data_bytes ≡ (meaning.files old).data_bytes
  pub images : (image : Files) → Now meaning new image → OnlyFile meaning old Log (IsLog shape groups) image
