-- Records that are put into the pages of a store, one or two at a time, or all of a list from the first on.
use Rattle.std.specs.Prelude.{◌≡◌, ℕ, suc, ◌+◌, true, false, List, [], ◌∷◌, length}
use Rattle.seg_base.specs.declared.shape.Shape.{Shape}
use Rattle.seg_base.specs.Places.{is_shape}
use Rattle.redo_record.specs.declared.record.Record.{Record}
use Rattle.redo_model.specs.Lawful.{AreAllowed, is_whole, IsLawful}
use Rattle.page_set.specs.declared.page.Page.{Page}
use Rattle.page_set.specs.Folded.{touched_once}
use Rattle.page_map.specs.Pages.{HasPages, made, AreFit}
use Rattle.page_map.specs.Fitting.{FitsAll, AreAllFit}
use Rattle.page_fit.specs.FitPages.{IsTabled}

abbrev pub RecordsFit : Type 0
RecordsFit = (sh : Shape) (R : List Record) (r : Record) (ps : List Page) → is_shape sh ≡ true → AreAllowed sh (r ∷ R) → IsTabled R r → HasPages sh R ps → AreFit r (suc (length R)) [] ps (touched_once sh r)

-- the first record, and then the second one, where it finds what the first made
pub record PairFits (sh : Shape) (R : List Record) (a b : Record) (ps : List Page) : Type 0 where
  pub first : AreFit a (suc (length R)) [] ps (touched_once sh a)
  pub second : AreFit b (suc (length R) + 1) (made a (suc (length R)) [] ps (touched_once sh a)) ps (touched_once sh b)

-- Of any list: what fits on the pages of the list fits on the pages of a store that has them.
abbrev pub FittingRecordsFit : Type 0
FittingRecordsFit = (sh : Shape) (R : List Record) (r : Record) (ps : List Page) → HasPages sh R ps → FitsAll sh R r → AreFit r (suc (length R)) [] ps (touched_once sh r)

abbrev pub FittingPairsFit : Type 0
FittingPairsFit = (sh : Shape) (R : List Record) (a b : Record) (ps : List Page) → HasPages sh R ps → FitsAll sh R a → FitsAll sh (a ∷ R) b → PairFits sh R a b ps

-- of a record that calls for another, and that one
abbrev pub PairsFit : Type 0
PairsFit = (sh : Shape) (R : List Record) (a b : Record) (ps : List Page) → is_shape sh ≡ true → AreAllowed sh (b ∷ a ∷ R) → is_whole (a ∷ R) ≡ false → HasPages sh R ps → PairFits sh R a b ps

abbrev pub LawfulListsFit : Type 0
LawfulListsFit = (sh : Shape) (R : List Record) → is_shape sh ≡ true → IsLawful sh R → AreAllFit sh R
