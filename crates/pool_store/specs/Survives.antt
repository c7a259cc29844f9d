-- What a crash leaves of a store, at each moment.
use Rattle.std.specs.Prelude.{◌≡◌, ℕ, ◌<◌, ◌≤◌, List, [], length}
use Rattle.seg_words.specs.Types.{Shape}
use Rattle.disk_model.specs.Files.{Files}
use Rattle.disk_model.specs.Crash.{Meaning, Always}
use Rattle.log_frame.specs.Spelling.{IsLog}
use Rattle.store_files.specs.Store.{data_size}
use Rattle.redo_model.specs.Records.{Record}
use Rattle.redo_model.specs.Model.{Extends, IsLawful}
use Rattle.redo_log.specs.Kept.{Holds}
use Rattle.store_pages.specs.Pages.{HasFolds}
use Rattle.pool_store.specs.Store.{Held}

-- a log file with the records Q, in groups of whole records
pub record HasLog (sh : Shape) (Q : List Record) (file : List ℕ) : Type 0 where
  pub groups : List (List ℕ)
  pub log : IsLog sh groups file
  pub holds : Holds groups [] Q

-- the two files are a store with the records Q: each page of the data file is the fold of so many of them as its number says
pub record IsSound (sh : Shape) (Q : List Record) (files : Files) : Type 0 where
  pub log : HasLog sh Q files.log_bytes
  pub lawful : IsLawful sh Q
  pub blocks : data_size sh ≤ length files.data_bytes
  pub folds : HasFolds sh Q 0 files.data_bytes

-- The image is a sound store with the first records of R, as many as are needed or more, and a data file as long as it was.
pub record IsLeft (sh : Shape) (data_bytes : List ℕ) (R : List Record) (needed : ℕ) (image : Files) : Type 0 where
  pub older : List Record
  pub part : Extends older R
  pub enough : needed ≤ length older
  pub sound : IsSound sh older image
  pub long : length image.data_bytes ≡ length data_bytes

-- Since a moment, each image that a crash at a moment may have left has the records that were needed at that moment. What
-- is needed is stable by now.
pub record Survives {D : Type 0} (meaning : Meaning D) (since : ℕ) (needed : ℕ → ℕ) (R : List Record) (s : Held D) : Type 0 where
  pub begun : since ≤ meaning.clock s.disk
  pub made : (m : ℕ) → needed m ≤ s.log.stable
  pub each : Always meaning since s.disk (λ m image. IsLeft s.shape (meaning.files s.first).data_bytes R (needed m) image)

-- from a moment on more may be needed, though no more than is stable
pub record Rises (needed more : ℕ → ℕ) (moment stable : ℕ) : Type 0 where
  pub before : (m : ℕ) → m < moment → more m ≤ needed m
  pub since : (m : ℕ) → moment ≤ m → more m ≤ stable
