-- What the pages of the three levels of bitmaps say, by the model's words, of each extent that a table has: from the record
-- on by which it got it.
use Rattle.std.specs.Prelude.{◌≡◌, ℕ, ◌+◌, ◌*◌, ◌<◌, true, cond, List, length, slice_index, Some}
use Rattle.seg_words.specs.Types.{EXTENTS_OF_L2, MOST_EXTENT_BLOCKS}
use Rattle.seg_base.specs.declared.shape.Shape.{Shape}
use Rattle.seg_base.specs.Places.{first_block, is_shape}
use Rattle.bitmap_block.specs.Pages.{ExtentMap, Summary}
use Rattle.redo_record.specs.declared.record.Record.{Record}
use Rattle.redo_model.specs.Kept.{code_of, best_in_l1, best_in_l2}
use Rattle.redo_model.specs.Segments.{Extent, extents_of, extent_data, extent_at, group_start, l2_of, l3_of}
use Rattle.redo_model.specs.Lawful.{AreAllowed}
use Rattle.redo_laws.specs.Among.{is_in}
use Rattle.page_set.specs.declared.page.Page.{Page}
use Rattle.page_set.specs.declared.page.Page.TheVariants.{First, Second, Third}
use Rattle.page_set.specs.Folded.{page_of}

-- what is told of block b by the bitmap of extent x, which stands at this index in its table: of a data block its kept class
-- once it is formatted, of another one nothing
abbrev pub told_code : Shape → List Record → ℕ → ℕ → ℕ → ℕ
told_code sh R index x b = cond (is_in b (extent_data sh index x)) (code_of sh R b) 0

-- the LSN by which the table got the extent, and 64 codes, of the blocks from the extent's first one on
pub record FirstSays (sh : Shape) (R : List Record) (index : ℕ) (e : Extent) (m : ExtentMap) : Type 0 where
  pub incarnation : m.incarnation ≡ e.incarnation
  pub count : length m.codes ≡ MOST_EXTENT_BLOCKS
  pub code : (j : ℕ) → j < MOST_EXTENT_BLOCKS → slice_index m.codes j ≡ told_code sh R index e.number (first_block sh e.number + j)

-- the bests of the first levels of 300 extents of table o, of which the first has this index: 0 past the last extent
pub record SecondSays (sh : Shape) (R : List Record) (o start : ℕ) (m : Summary) : Type 0 where
  pub count : length m.codes ≡ EXTENTS_OF_L2
  pub code : (j : ℕ) → j < EXTENTS_OF_L2 → slice_index m.codes j ≡ best_in_l1 sh R o (start + j)

-- the bests of the three second levels that a table may have: 0 of one that isn't there
pub record ThirdSays (sh : Shape) (R : List Record) (o : ℕ) (m : Summary) : Type 0 where
  pub count : length m.codes ≡ 3
  pub code : (j : ℕ) → j < 3 → slice_index m.codes j ≡ best_in_l2 sh R o (EXTENTS_OF_L2 * j)

abbrev pub SaysFirst : Shape → List Record → ℕ → Extent → Page → Type 0
SaysFirst sh R index e (First m) = FirstSays sh R index e m
SaysFirst sh R index e _ = ⊥

abbrev pub SaysSecond : Shape → List Record → ℕ → ℕ → Page → Type 0
SaysSecond sh R o start (Second m) = SecondSays sh R o start m
SaysSecond sh R o start _ = ⊥

abbrev pub SaysThird : Shape → List Record → ℕ → Page → Type 0
SaysThird sh R o (Third m) = ThirdSays sh R o m
SaysThird sh R o _ = ⊥

-- the first level stands in the first block of its extent
abbrev pub FirstLevelsSay : Type 0
FirstLevelsSay = (sh : Shape) (R : List Record) (o index : ℕ) (e : Extent) → is_shape sh ≡ true → AreAllowed sh R → extent_at (extents_of R o) index ≡ Some e
    → SaysFirst sh R index e (page_of sh R (first_block sh e.number))

-- a second level is there where the table has the first extent that it covers
abbrev pub SecondLevelsSay : Type 0
SecondLevelsSay = (sh : Shape) (R : List Record) (o index : ℕ) (e : Extent) → is_shape sh ≡ true → AreAllowed sh R → extent_at (extents_of R o) (group_start index) ≡ Some e
    → SaysSecond sh R o (group_start index) (page_of sh R (l2_of sh (extents_of R o) index))

-- the third level is there where the table has an extent
abbrev pub ThirdLevelsSay : Type 0
ThirdLevelsSay = (sh : Shape) (R : List Record) (o : ℕ) (e : Extent) → is_shape sh ≡ true → AreAllowed sh R → extent_at (extents_of R o) 0 ≡ Some e
    → SaysThird sh R o (page_of sh R (l3_of sh (extents_of R o)))
