-- The pages of a store in a plain list, block by block, and what a record makes of them.
use Rattle.std.specs.Prelude.{◌≡◌, ℕ, ◌<◌, cond, eqb, List, [], ◌∷◌, length, slice_index_or, slice_set}
use Rattle.seg_base.specs.declared.shape.Shape.{Shape}
use Rattle.redo_record.specs.declared.record.Record.{Record}
use Rattle.page_set.specs.declared.page.Page.{Page}
use Rattle.page_set.specs.declared.page.Page.TheVariants.{Zero}
use Rattle.page_set.specs.Pages.{dba_of}
use Rattle.page_set.specs.Changes.{changed_page, Fits}
use Rattle.page_set.specs.Folded.{page_of}

-- the page of block d
abbrev pub page_at : List Page → ℕ → Page
page_at ps d = slice_index_or ps d (Zero d)

-- these are the pages of the store's blocks after the records R: the fold of R
pub record HasPages (sh : Shape) (R : List Record) (ps : List Page) : Type 0 where
  pub count : length ps ≡ sh.blocks
  pub each : (d : ℕ) → d < sh.blocks → page_at ps d ≡ page_of sh R d

-- the pages with these in their places
abbrev pub installed : List Page → List Page → List Page
installed [] ps = ps
installed (p ∷ new) ps = installed new (slice_set ps (dba_of p) p)

-- the page of block d when these are put over the one that was there: the last of them that is the block's
abbrev pub over_in : List Page → Page → ℕ → Page
over_in [] base d = base
over_in (p ∷ new) base d = cond (eqb (dba_of p) d) (over_in new p d) (over_in new base d)

-- what a record makes of the pages of these blocks, where it finds the first pages put over the others
abbrev pub made : Record → ℕ → List Page → List Page → List ℕ → List Page
made r lsn first ps [] = []
made r lsn first ps (d ∷ ds) = changed_page r lsn (over_in first (page_at ps d) d) ∷ made r lsn first ps ds

-- these blocks are there
abbrev pub AreThere : ℕ → List ℕ → Type 0
AreThere n [] = Unit {0}
AreThere n (d ∷ ds) = (d < n) × AreThere n ds

-- the record fits on the page of each of these blocks
abbrev pub AreFit : Record → ℕ → List Page → List Page → List ℕ → Type 0
AreFit r lsn first ps [] = Unit {0}
AreFit r lsn first ps (d ∷ ds) = (d < length ps) × Fits r lsn (over_in first (page_at ps d) d) × AreFit r lsn first ps ds

-- put in their places, these pages lead from the records R to R'
pub record Leads (sh : Shape) (R R' : List Record) (new : List Page) : Type 0 where
  pub to : (ps : List Page) → HasPages sh R ps → HasPages sh R' (installed new ps)
