-- How far the page of a block has come in a list of records, of which it may lack the newer ones.
use Rattle.std.specs.Prelude.{◌≡◌, ℕ, suc, ◌≤◌, ◌<◌, true, List, ◌∷◌, length}
use Rattle.seg_words.specs.Types.{Shape}
use Rattle.redo_record.specs.declared.record.Record.{Record}
use Rattle.redo_model.specs.Lists.{prefix, Extends}
use Rattle.page_set.specs.declared.page.Page.{Page}
use Rattle.page_set.specs.declared.page.Page.TheVariants.{Zero}
use Rattle.page_set.specs.Pages.{lsn_of}
use Rattle.page_set.specs.Folded.{page_of}
use Rattle.buffer_pool.specs.Frames.{has_page}
use Rattle.buffer_pool.specs.Preparing.{redone}

-- The page of block d is the fold of the first records of R: of as many as its LSN says, and of m where it says fewer. Of the
-- first m records none that changes it is missing.
pub record IsReached (sh : Shape) (R : List Record) (m d : ℕ) (p : Page) : Type 0 where
  pub most : lsn_of p ≤ length R
  pub older : lsn_of p ≤ m → p ≡ page_of sh (prefix R m) d
  pub newer : m < lsn_of p → p ≡ page_of sh (prefix R (lsn_of p)) d

-- so the page of each block that has one
pub record AreReached (sh : Shape) (R : List Record) (m : ℕ) (image : ℕ → Page) : Type 0 where
  pub at : (d : ℕ) → has_page sh d ≡ true → IsReached sh R m d (image d)

abbrev pub NewPagesAreReached : Type 0
NewPagesAreReached = (sh : Shape) (R : List Record) (d : ℕ) → IsReached sh R 0 d (Zero d)

-- r is the record behind the first m of R
abbrev pub RecordsAreRedone : Type 0
RecordsAreRedone = (sh : Shape) (R : List Record) (r : Record) (m d : ℕ) (p : Page) → m < length R → prefix R (suc m) ≡ r ∷ prefix R m → IsReached sh R m d p → IsReached sh R (suc m) d (redone sh r (suc m) d p)

abbrev pub AllAreReached : Type 0
AllAreReached = (sh : Shape) (R : List Record) (d : ℕ) (p : Page) → IsReached sh R (length R) d p → p ≡ page_of sh R d

abbrev pub ReachedPagesStay : Type 0
ReachedPagesStay = (sh : Shape) (R : List Record) (r : Record) (m d : ℕ) (p : Page) → m ≤ length R → IsReached sh R m d p → IsReached sh (r ∷ R) m d p

-- Q are the log's records, R all
abbrev pub WrittenPagesAreReached : Type 0
WrittenPagesAreReached = (sh : Shape) (Q R : List Record) (m d : ℕ) → Extends Q R → m ≤ length Q → lsn_of (page_of sh R d) ≤ length Q → IsReached sh Q m d (page_of sh R d)
