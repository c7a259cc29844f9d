-- From the codes of a page to those of the list.
use Rattle.std.proofs.Common.{◌≡◌, ℕ, ◌+◌, ◌<◌, true, List, slice_index, ◌∙◌}
use Rattle.seg_words.proofs.Lemmas.{cond-true}
use Rattle.seg_words.specs.Types.{Shape, first_block, MOST_EXTENT_BLOCKS}
use Rattle.redo_model.specs.Records.{Record}
use Rattle.redo_model.specs.Model.{Extent, code_of, extent_data}
use Rattle.redo_laws.specs.Among.{is_in}
use Rattle.bitmap_block.specs.Pages.{ExtentMap}
use Rattle.page_says.specs.Levels.{FirstSays}

pub code_says : (sh : Shape) (R : List Record) (index : ℕ) (e : Extent) (m : ExtentMap) (nth : ℕ) → FirstSays sh R index e m → nth < MOST_EXTENT_BLOCKS → is_in (first_block sh e.number + nth) (extent_data sh index e.number) ≡ true
    → slice_index m.codes nth ≡ code_of sh R (first_block sh e.number + nth)
code_says sh R index e m nth s l h = s.code nth l ∙ cond-true _ _ _ h
