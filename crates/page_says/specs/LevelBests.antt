-- The bests that the model names, read from the codes of a page: as they are, and as they will be with one more Class or Lower,
-- which must state them.
use Rattle.std.specs.Prelude.{◌≡◌, ℕ, ◌-◌, ◌%◌, min, true, List, ◌∷◌, slice_set, Some, None}
use Rattle.seg_words.specs.Types.{EXTENTS_OF_L2}
use Rattle.seg_base.specs.Classes.{class_code}
use Rattle.seg_base.specs.declared.shape.Shape.{Shape}
use Rattle.seg_base.specs.Places.{first_block, is_shape}
use Rattle.bitmap_block.specs.Codes.{best_of, cleared_from}
use Rattle.bitmap_block.specs.Pages.{ExtentMap, Summary}
use Rattle.redo_record.specs.declared.record.Record.{Record}
use Rattle.redo_record.specs.declared.record.Record.TheVariants.{Class, Lower}
use Rattle.redo_record.specs.declared.space.ClassRecord.{ClassRecord}
use Rattle.redo_record.specs.declared.space.LowerRecord.{LowerRecord}
use Rattle.redo_model.specs.Kept.{best_in_extent, best_in_l1, best_in_l2}
use Rattle.redo_model.specs.Segments.{Extent, extents_of, extent_data, extent_at, group_start, is_formatted}
use Rattle.redo_model.specs.Lawful.{AreAllowed}
use Rattle.redo_laws.specs.Among.{is_in}
use Rattle.page_says.specs.Levels.{FirstSays, SecondSays}

-- the best of a page's codes is that of its extent, and that of its group
pub record BestsRead (sh : Shape) (R : List Record) : Type 0 where
  pub first : (index : ℕ) (e : Extent) (m : ExtentMap) → FirstSays sh R index e m → best_of m.codes ≡ best_in_extent sh R index e.number
  pub second : (o index : ℕ) (m : Summary) → SecondSays sh R o (group_start index) m → best_of m.codes ≡ best_in_l2 sh R o (group_start index)

abbrev pub BestsAreRead : Type 0
BestsAreRead = (sh : Shape) (R : List Record) → is_shape sh ≡ true → AreAllowed sh R → BestsRead sh R

-- the bests with the block's class changed
pub record ClassBests (sh : Shape) (R : List Record) (o index : ℕ) (e : Extent) (k : ClassRecord) (first : ExtentMap) (second : Summary) : Type 0 where
  pub l1 : best_in_l1 sh (Class k ∷ R) o index ≡ best_of (slice_set first.codes (k.dba - first_block sh e.number) (class_code k.class))
  pub l2 : best_in_l2 sh (Class k ∷ R) o (group_start index) ≡ best_of (slice_set second.codes (index % EXTENTS_OF_L2) (best_in_l1 sh (Class k ∷ R) o index))

-- of a formatted data block of the extent at this index of table o, whatever the record states
abbrev pub ClassBestsAreRead : Type 0
ClassBestsAreRead = (sh : Shape) (R : List Record) (o index : ℕ) (e : Extent) (k : ClassRecord) (first : ExtentMap) (second : Summary) → is_shape sh ≡ true → AreAllowed sh R
    → extent_at (extents_of R o) index ≡ Some e → is_in k.dba (extent_data sh index e.number) ≡ true → is_formatted sh R k.dba ≡ true
    → FirstSays sh R index e first → SecondSays sh R o (group_start index) second → ClassBests sh R o index e k first second

-- the best of a group with the extents past the kept ones taken away: 0 where the table has no such group
pub record LowerBests (sh : Shape) (R : List Record) (l : LowerRecord) (start : ℕ) : Type 0 where
  pub there : (m : Summary) → SecondSays sh R l.obj start m → best_in_l2 sh (Lower l ∷ R) l.obj start ≡ best_of (cleared_from EXTENTS_OF_L2 (min (l.kept - start) EXTENTS_OF_L2) m.codes)
  pub none : extent_at (extents_of R l.obj) start ≡ None → best_in_l2 sh (Lower l ∷ R) l.obj start ≡ 0

abbrev pub LowerBestsAreRead : Type 0
LowerBestsAreRead = (sh : Shape) (R : List Record) (l : LowerRecord) (start : ℕ) → is_shape sh ≡ true → AreAllowed sh R → group_start start ≡ start → LowerBests sh R l start
