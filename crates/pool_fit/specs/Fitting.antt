-- Records of a lawful list, and the pages of the blocks that they touch: there is such a page, and the record fits on it, as
-- the records before it leave it.
use Rattle.std.specs.Prelude.{◌≡◌, ℕ, suc, true, false, List, ◌∷◌, ◌++◌, length}
use Rattle.seg_base.specs.declared.shape.Shape.{Shape}
use Rattle.seg_base.specs.Places.{is_shape}
use Rattle.redo_record.specs.declared.record.Record.{Record}
use Rattle.redo_record.specs.declared.record.Record.TheVariants.{Commit}
use Rattle.redo_record.specs.declared.transaction.CommitRecord.{CommitRecord}
use Rattle.redo_model.specs.Lawful.{AreAllowed, is_whole, IsLawful}
use Rattle.page_set.specs.Changes.{Fits}
use Rattle.page_set.specs.Among.{is_among}
use Rattle.page_set.specs.Folded.{touched, page_of}
use Rattle.page_fit.specs.FitPages.{IsTabled}
use Rattle.buffer_pool.specs.Frames.{has_page}
use Rattle.store_pages.specs.Fitting.{FitsAll, AreBothFit}
use Rattle.store_pages.specs.Redoing.{StopsAt}

-- an allowed record touches blocks that have pages, and no other
abbrev pub TouchedHavePages : Type 0
TouchedHavePages = (sh : Shape) (R : List Record) (r : Record) (d : ℕ) → is_shape sh ≡ true → AreAllowed sh (r ∷ R) → is_among (touched sh r) d ≡ true → has_page sh d ≡ true

abbrev pub RecordsFit : Type 0
RecordsFit = (sh : Shape) (R : List Record) (r : Record) → is_shape sh ≡ true → AreAllowed sh (r ∷ R) → IsTabled R r → FitsAll sh R r

-- of a record that calls for another, and that one
abbrev pub PairsFit : Type 0
PairsFit = (sh : Shape) (R : List Record) (a b : Record) → is_shape sh ≡ true → AreAllowed sh (b ∷ a ∷ R) → is_whole (a ∷ R) ≡ false → AreBothFit sh R a b

-- a Commit touches block 1 alone, the transaction table's
abbrev pub CommitsFit : Type 0
CommitsFit = (sh : Shape) (R : List Record) (c : CommitRecord) → is_shape sh ≡ true → AreAllowed sh (Commit c ∷ R) → Fits (Commit c) (suc (length R)) (page_of sh R 1)

-- each record of the list, after those before it
abbrev pub LawfulListsFit : Type 0
LawfulListsFit = (sh : Shape) (R newer older : List Record) (r : Record) → is_shape sh ≡ true → IsLawful sh R → R ≡ newer ++ r ∷ older → FitsAll sh older r

-- so the redo of such a list stops at no block, wherever it begins
abbrev pub LawfulListsDontStop : Type 0
LawfulListsDontStop = (sh : Shape) (R : List Record) (m d : ℕ) → is_shape sh ≡ true → IsLawful sh R → StopsAt sh R m d → ⊥
