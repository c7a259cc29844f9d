-- Data files whose pages are folds of a store's records.
use Rattle.std.specs.Prelude.{◌≡◌, ℕ, ◌≤◌, true, List, length}
use Rattle.std.specs.List.{All}
use Rattle.seg_words.specs.Types.{Shape}
use Rattle.redo_record.specs.declared.record.Record.{Record}
use Rattle.redo_model.specs.Lists.{prefix, Extends}
use Rattle.page_store.specs.declared.page.RawPage.{RawPage}
use Rattle.page_store.specs.Types.{after, blocks_of}
use Rattle.page_set.specs.declared.page.Page.TheVariants.{Zero}
use Rattle.page_set.specs.Pages.{lsn_of}
use Rattle.page_set.specs.Spelled.{spelling_of}
use Rattle.page_set.specs.Folded.{page_of}
use Rattle.buffer_pool.specs.declared.frame.Frame.{Frame}
use Rattle.buffer_pool.specs.Frames.{frame_at, has_page, in_file, HasPages, IsSpelled}
use Rattle.buffer_pool.specs.Batches.{IsBatch, IsDueIn, ReadBack}
use Rattle.pool_laws.specs.Reached.{IsReached}

-- Each page of a data file is spelled, and has come as far in R as the first m records.
pub record AreFolded (sh : Shape) (R : List Record) (m : ℕ) (pages : ℕ → List ℕ) : Type 0 where
  pub reached : (d : ℕ) → has_page sh d ≡ true → IsReached sh R m d (in_file pages d)
  pub spelled : (d : ℕ) → has_page sh d ≡ true → IsSpelled d (pages d)

abbrev pub NewFilesAreFolded : Type 0
NewFilesAreFolded = (sh : Shape) (R : List Record) (pages : ℕ → List ℕ) → ((d : ℕ) → has_page sh d ≡ true → pages d ≡ spelling_of (Zero d)) → AreFolded sh R 0 pages

abbrev pub FoldsStay : Type 0
FoldsStay = (sh : Shape) (Q R : List Record) (m : ℕ) (pages : ℕ → List ℕ) → Extends Q R → m ≤ length Q → AreFolded sh Q m pages → AreFolded sh R m pages

-- the log may lack records that no page of the file has
abbrev pub FoldsHaveFewer : Type 0
FoldsHaveFewer = (sh : Shape) (R : List Record) (m n : ℕ) (pages : ℕ → List ℕ) → m ≤ n → n ≤ length R → ((d : ℕ) → has_page sh d ≡ true → lsn_of (in_file pages d) ≤ n) → AreFolded sh R m pages → AreFolded sh (prefix R n) m pages

-- pages that have the first m records have the first k of them
abbrev pub FoldsReachBack : Type 0
FoldsReachBack = (sh : Shape) (R : List Record) (k m : ℕ) (pages : ℕ → List ℕ) → k ≤ m → AreFolded sh R m pages → AreFolded sh R k pages

-- Q are the log's records, R all, after which the pool shows the pages. No page of the batch has a record that Q lacks.
abbrev pub BatchesKeepFolds : Type 0
BatchesKeepFolds = (sh : Shape) (Q R : List Record) (m most upto : ℕ) (pages : ℕ → List ℕ) (held : List (ℕ × Frame)) (batch : List RawPage)
    → Extends Q R → m ≤ length Q → upto ≤ length Q → HasPages sh pages R held → ReadBack sh (page_of sh R)
    → IsBatch most upto held batch → All (λ d. IsDueIn upto (frame_at held d)) (blocks_of batch)
    → AreFolded sh Q m pages → AreFolded sh Q m (after batch pages)
