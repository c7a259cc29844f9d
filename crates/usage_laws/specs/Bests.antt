-- What the pages of bitmaps tell of the Class of a settling: the kept class, by which it is called for, and the bests that it states.
use Rattle.std.specs.Prelude.{◌≡◌, ℕ, ◌-◌, ◌%◌, not, eqb, true, List, slice_index, slice_set, Some}
use Rattle.seg_words.specs.Types.{Shape, first_block, class_code, is_shape, EXTENTS_OF_L2}
use Rattle.bitmap_block.specs.Codes.{best_of}
use Rattle.bitmap_block.specs.Pages.{ExtentMap, Summary}
use Rattle.redo_model.specs.Records.{Record}
use Rattle.redo_model.specs.Model.{Extent, extents_of, extent_at, index_of, group_start, kept_class, IsTable, IsRowBlock, AreAllowed}
use Rattle.page_says.specs.Levels.{FirstSays, SecondSays}
use Rattle.usage_laws.specs.Drafts.{ruled_class, drafted_class, calls_for_class}

-- by the first level of the block's extent, and the second level that covers that
pub record ClassTold (sh : Shape) (R : List Record) (o b : ℕ) (e : Extent) (first : ExtentMap) (second : Summary) : Type 0 where
  pub kept : slice_index first.codes (b - first_block sh e.number) ≡ class_code (kept_class R b)
  pub calls : not (eqb (class_code (ruled_class R o b)) (slice_index first.codes (b - first_block sh e.number))) ≡ calls_for_class R o b
  pub l1 : best_of (slice_set first.codes (b - first_block sh e.number) (class_code (ruled_class R o b))) ≡ (drafted_class sh R o b).best_of_l1
  pub l2 : best_of (slice_set second.codes (index_of sh (extents_of R o) b % EXTENTS_OF_L2) (drafted_class sh R o b).best_of_l1) ≡ (drafted_class sh R o b).best_of_l2

abbrev pub ClassesAreTold : Type 0
ClassesAreTold = (sh : Shape) (R : List Record) (o b : ℕ) (e : Extent) (first : ExtentMap) (second : Summary) → is_shape sh ≡ true → AreAllowed sh R → IsTable R o → IsRowBlock sh R o b
    → extent_at (extents_of R o) (index_of sh (extents_of R o) b) ≡ Some e → FirstSays sh R (index_of sh (extents_of R o) b) e first → SecondSays sh R o (group_start (index_of sh (extents_of R o) b)) second → ClassTold sh R o b e first second
