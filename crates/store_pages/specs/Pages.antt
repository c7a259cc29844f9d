-- The pages of a store over its data file: the page of each block is the fold of the redo list, whether it stands in a frame or
-- in the file. Lists of records are the newest first.
use Rattle.std.specs.Prelude.{◌≡◌, ℕ, ◌+◌, ◌≤◌, true, List, length, IsSome}
use Rattle.seg_words.specs.Types.{Shape}
use Rattle.disk_model.specs.Types.{Meaning, Leaves, OnlyFile}
use Rattle.disk_model.specs.declared.disk.File.TheVariants.{Data}
use Rattle.redo_record.specs.declared.record.Record.{Record}
use Rattle.redo_model.specs.Lists.{prefix, Extends}
use Rattle.page_store.specs.declared.page.RawPage.{RawPage}
use Rattle.page_store.specs.Types.{blocks_of, AsLong, IsStore}
use Rattle.page_store.specs.Pages.{HasPages as IsFileOf}
use Rattle.page_set.specs.declared.page.Page.{Page}
use Rattle.page_set.specs.Pages.{lsn_of}
use Rattle.page_set.specs.Folded.{page_of}
use Rattle.buffer_pool.specs.Frames.{frame_at, has_page, Pool, Shows}
use Rattle.buffer_pool.specs.Batches.{IsBatch, ReadBack, Settled}
use Rattle.pool_laws.specs.Reached.{IsReached}
use Rattle.pool_laws.specs.Folds.{AreFolded}

-- The disk has a data file whose pages are folds of the log's records, each of them with the first m, and over it the frames show
-- the pages of `image`.
pub record IsOver {D : Type 0} (meaning : Meaning D) (disk : D) (log : List Record) (m : ℕ) (image : ℕ → Page) (s : Pool) : Type 0 where
  pub file : ℕ → List ℕ
  pub base : IsStore meaning disk s.shape file
  pub folded : AreFolded s.shape log m file
  pub shown : Shows s.shape file image s.held

-- The same of the pages after the records R. The log has the first of them, and no fewer than m.
pub record HasPages {D : Type 0} (meaning : Meaning D) (disk : D) (log : List Record) (m : ℕ) (R : List Record) (s : Pool) : Type 0 where
  pub part : Extends log R
  pub marked : m ≤ length log
  pub over : IsOver meaning disk log m (page_of s.shape R) s

-- over a data file with these pages the frames show the pages after the records R
abbrev pub ShowsAfter : (ℕ → List ℕ) → List Record → Pool → Type 0
ShowsAfter file R s = Shows s.shape file (page_of s.shape R) s.held

-- block d has a page, which stands in a frame and can be lent
pub record IsFetched (d : ℕ) (s : Pool) : Type 0 where
  pub has : has_page s.shape d ≡ true
  pub framed : IsSome (frame_at s.held d)

-- the data file of a store whose pages are folds of these records, each of them with the first m
pub record HasFolds (sh : Shape) (log : List Record) (m : ℕ) (bytes : List ℕ) : Type 0 where
  pub pages : ℕ → List ℕ
  pub has : IsFileOf sh pages bytes
  pub folded : AreFolded sh log m pages

-- Calls that changed the data file alone: a crash at any moment left it as long as it was, with such pages.
abbrev pub LeavesFolds : {D : Type 0} → Meaning D → D → D → Shape → List Record → ℕ → Type 0
LeavesFolds meaning old new sh log m = Leaves meaning old new (OnlyFile meaning old Data (AsLong (meaning.files old).data_bytes (HasFolds sh log m)))

-- the data file is as long as it was, and the log is as it was
pub record KeepsFiles {D : Type 0} (meaning : Meaning D) (old new : D) : Type 0 where
  pub long : length (meaning.files new).data_bytes ≡ length (meaning.files old).data_bytes
  pub log_stays : (meaning.files new).log_bytes ≡ (meaning.files old).log_bytes

-- what is written of a page after the records, or after the first of them, reads as the page again
pub record AreReadable (sh : Shape) (R : List Record) : Type 0 where
  pub at : (n : ℕ) → ReadBack sh (page_of sh (prefix R n))

-- A page that is written while the log has these records is a fold of them.
pub record AreWritable (sh : Shape) (log : List Record) (m upto : ℕ) (image : ℕ → Page) : Type 0 where
  pub back : ReadBack sh image
  pub reached : (d : ℕ) → has_page sh d ≡ true → lsn_of (image d) ≤ upto → IsReached sh log m d (image d)

-- no page has a record after `upto`
pub record AreOlder (sh : Shape) (upto : ℕ) (image : ℕ → Page) : Type 0 where
  pub at : (d : ℕ) → has_page sh d ≡ true → lsn_of (image d) ≤ upto

-- The dirty pages of least number that no record after `upto` changed are in the data file, n of them and at most `most`. Their
-- frames are clean then, and all else is as it was.
pub record HasPut (most upto n : ℕ) (old new : Pool) : Type 0 where
  pub batch : List RawPage
  pub is : IsBatch most upto old.held batch
  pub settled : Settled (blocks_of batch) old.held new.held
  pub count : n ≡ length batch
  pub dirty : new.dirty + n ≡ old.dirty
