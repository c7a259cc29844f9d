-- Which data files have pages that are folds of a log.
use Rattle.std.specs.Prelude.{◌≡◌, ℕ, ◌*◌, ◌≤◌, true, List, length, take, replicate}
use Rattle.seg_words.specs.Types.{Shape, BLOCK_SIZE, is_shape}
use Rattle.redo_record.specs.declared.record.Record.{Record}
use Rattle.redo_model.specs.Lists.{prefix, Extends}
use Rattle.page_store.specs.Pages.{page_of as filed}
use Rattle.page_set.specs.Pages.{lsn_of}
use Rattle.buffer_pool.specs.Frames.{has_page, in_file}
use Rattle.store_pages.specs.Pages.{HasFolds}

-- no page in the file has a record after the n-th
abbrev pub AreFiledUpTo : Shape → ℕ → List ℕ → Type 0
AreFiledUpTo sh n bytes = (d : ℕ) → has_page sh d ≡ true → lsn_of (in_file (filed bytes) d) ≤ n

-- a file whose blocks are zeros
abbrev pub NewFilesHaveFolds : Type 0
NewFilesHaveFolds = (sh : Shape) (log : List Record) (bytes : List ℕ) → is_shape sh ≡ true → take (sh.blocks * BLOCK_SIZE) bytes ≡ replicate (sh.blocks * BLOCK_SIZE) 0 → HasFolds sh log 0 bytes

-- the log may have more records
abbrev pub FoldsOfFilesStay : Type 0
FoldsOfFilesStay = (sh : Shape) (Q R : List Record) (m : ℕ) (bytes : List ℕ) → Extends Q R → m ≤ length Q → HasFolds sh Q m bytes → HasFolds sh R m bytes

-- it may lack records that no page has
abbrev pub FoldsOfFilesHaveFewer : Type 0
FoldsOfFilesHaveFewer = (sh : Shape) (R : List Record) (m n : ℕ) (bytes : List ℕ) → m ≤ n → n ≤ length R → AreFiledUpTo sh n bytes → HasFolds sh R m bytes → HasFolds sh (prefix R n) m bytes

-- pages that have the first m records have the first k of them
abbrev pub FoldsOfFilesReachBack : Type 0
FoldsOfFilesReachBack = (sh : Shape) (R : List Record) (k m : ℕ) (bytes : List ℕ) → k ≤ m → HasFolds sh R m bytes → HasFolds sh R k bytes
