-- Whether records fit on the pages that they touch, each as the records before it leave them.
use Rattle.std.specs.Prelude.{◌≡◌, ◌⊎◌, ℕ, suc, ◌<◌, true, List, [], ◌∷◌, ◌++◌, length}
use Rattle.seg_base.specs.declared.shape.Shape.{Shape}
use Rattle.redo_record.specs.declared.record.Record.{Record}
use Rattle.page_set.specs.declared.page.Page.{Page}
use Rattle.page_set.specs.Changes.{Fits}
use Rattle.page_set.specs.Among.{is_among}
use Rattle.page_set.specs.Folded.{touched, page_of}
use Rattle.page_map.specs.Pages.{page_at, over_in}
use Rattle.page_map.specs.declared.fault.PageFault.{PageFault}
use Rattle.page_map.specs.declared.fault.PageFault.TheVariants.{BadPage, NoMemory}

-- block d is there, and the record fits on its page, with the first pages put over the others
abbrev pub FitsAt : Record → ℕ → List Page → List Page → ℕ → Type 0
FitsAt r lsn first ps d = (d < length ps) × Fits r lsn (over_in first (page_at ps d) d)

-- why the page of block d isn't made
abbrev pub WhyNotAt : Record → ℕ → List Page → List Page → ℕ → PageFault → Type 0
WhyNotAt r lsn first ps d (BadPage b) = (b ≡ d) × (FitsAt r lsn first ps d → ⊥)
WhyNotAt r lsn first ps d NoMemory = Unit {0}

-- why the pages of these blocks aren't made: the record doesn't fit at one of them, or memory is wanting
abbrev pub WhyNotAmong : Record → ℕ → List Page → List Page → List ℕ → PageFault → Type 0
WhyNotAmong r lsn first ps ds (BadPage b) = (is_among ds b ≡ true) × (FitsAt r lsn first ps b → ⊥)
WhyNotAmong r lsn first ps ds NoMemory = Unit {0}

-- after the records R block d is there, and the record fits on its page
abbrev pub FitsOn : Shape → List Record → Record → ℕ → Type 0
FitsOn sh R r d = (d < sh.blocks) × Fits r (suc (length R)) (page_of sh R d)

-- so at each block that the record touches
abbrev pub FitsAll : Shape → List Record → Record → Type 0
FitsAll sh R r = (d : ℕ) → is_among (touched sh r) d ≡ true → FitsOn sh R r d

-- so for each of some records, the newest first
abbrev pub AreAllFit : Shape → List Record → Type 0
AreAllFit sh [] = Unit {0}
AreAllFit sh (r ∷ R) = AreAllFit sh R × FitsAll sh R r

-- the record touches block d, and doesn't fit there
pub record IsUnfit (sh : Shape) (R : List Record) (r : Record) (d : ℕ) : Type 0 where
  pub touches : is_among (touched sh r) d ≡ true
  pub unfit : FitsOn sh R r d → ⊥

-- why a record isn't added after the records R
abbrev pub WhyNotAdded : Shape → List Record → Record → PageFault → Type 0
WhyNotAdded sh R r (BadPage b) = IsUnfit sh R r b
WhyNotAdded sh R r NoMemory = Unit {0}

-- both records fit, the second as the first leaves the pages
pub record AreBothFit (sh : Shape) (R : List Record) (first second : Record) : Type 0 where
  pub first_fits : FitsAll sh R first
  pub second_fits : FitsAll sh (first ∷ R) second

-- why the two aren't added after the records R: the first doesn't fit, or it does and then the second doesn't
abbrev pub WhyNotBoth : Shape → List Record → Record → Record → PageFault → Type 0
WhyNotBoth sh R first second (BadPage b) = IsUnfit sh R first b ⊎ (FitsAll sh R first × IsUnfit sh (first ∷ R) second b)
WhyNotBoth sh R first second NoMemory = Unit {0}

-- the first of the records that doesn't fit on each page that it touches doesn't fit at block d
pub record StopsAt (sh : Shape) (records : List Record) (d : ℕ) : Type 0 where
  pub newer : List Record
  pub stop : Record
  pub older : List Record
  pub split : records ≡ newer ++ stop ∷ older
  pub fit : AreAllFit sh older
  pub unfit : IsUnfit sh older stop d

-- why records, the newest first, have no pages
abbrev pub WhyNotFolded : Shape → List Record → PageFault → Type 0
WhyNotFolded sh records (BadPage b) = StopsAt sh records b
WhyNotFolded sh records NoMemory = Unit {0}
