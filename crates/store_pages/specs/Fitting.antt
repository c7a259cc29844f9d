-- Whether records fit on the pages that they touch, each as the records before it leave them, and why pages aren't given or made.
use Rattle.std.specs.Prelude.{◌≡◌, ℕ, suc, true, false, List, ◌∷◌, Some, length}
use Rattle.seg_words.specs.Types.{Shape}
use Rattle.redo_record.specs.declared.record.Record.{Record}
use Rattle.page_store.specs.declared.fault.PageFault.{PageFault}
use Rattle.page_store.specs.declared.fault.PageFault.TheVariants.{DeviceFault, BadPage, NoMemory}
use Rattle.page_set.specs.Changes.{Fits}
use Rattle.page_set.specs.Among.{is_among}
use Rattle.page_set.specs.Folded.{touched, page_of}
use Rattle.buffer_pool.specs.Frames.{has_page}
use Rattle.buffer_pool.specs.Preparing.{any_touches}

-- why the page of block d isn't fetched: there is none, or disk or memory failed
abbrev pub WhyNotFetched : Shape → ℕ → PageFault → Type 0
WhyNotFetched sh d DeviceFault = Unit {0}
WhyNotFetched sh d (BadPage b) = (b ≡ d) × (has_page sh d ≡ false)
WhyNotFetched sh d NoMemory = Unit {0}

-- after the records R block d has a page, and the record fits on it
abbrev pub FitsOn : Shape → List Record → Record → ℕ → Type 0
FitsOn sh R r d = (has_page sh d ≡ true) × Fits r (suc (length R)) (page_of sh R d)

-- so at each block that the record touches
abbrev pub FitsAll : Shape → List Record → Record → Type 0
FitsAll sh R r = (d : ℕ) → is_among (touched sh r) d ≡ true → FitsOn sh R r d

-- the record touches block d, and doesn't fit there
pub record IsUnfit (sh : Shape) (R : List Record) (r : Record) (d : ℕ) : Type 0 where
  pub touches : is_among (touched sh r) d ≡ true
  pub unfit : FitsOn sh R r d → ⊥

-- why a record isn't added after the records R
abbrev pub WhyNotAdded : Shape → List Record → Record → PageFault → Type 0
WhyNotAdded sh R r DeviceFault = Unit {0}
WhyNotAdded sh R r (BadPage b) = IsUnfit sh R r b
WhyNotAdded sh R r NoMemory = Unit {0}

-- both records fit, the second as the first leaves the pages
pub record AreBothFit (sh : Shape) (R : List Record) (first second : Record) : Type 0 where
  pub first_fits : FitsAll sh R first
  pub second_fits : FitsAll sh (first ∷ R) second

-- one of the records touches block d, and not both fit there that do
pub record IsOneUnfit (sh : Shape) (R : List Record) (first second : Record) (d : ℕ) : Type 0 where
  pub touches : any_touches sh first (Some second) d ≡ true
  pub unfit : (is_among (touched sh first) d ≡ true → FitsOn sh R first d) → (is_among (touched sh second) d ≡ true → FitsOn sh (first ∷ R) second d) → ⊥

-- why the two aren't added after the records R
abbrev pub WhyNotBoth : Shape → List Record → Record → Record → PageFault → Type 0
WhyNotBoth sh R first second DeviceFault = Unit {0}
WhyNotBoth sh R first second (BadPage b) = IsOneUnfit sh R first second b
WhyNotBoth sh R first second NoMemory = Unit {0}

-- no fault but those of the disk and want of memory
abbrev pub IsSoundFault : PageFault → Type 0
IsSoundFault DeviceFault = Unit {0}
IsSoundFault (BadPage b) = ⊥
IsSoundFault NoMemory = Unit {0}
