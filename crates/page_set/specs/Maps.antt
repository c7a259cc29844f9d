-- What a record does to the pages of the three levels of bitmaps, and when it can be done.
use Rattle.std.specs.Prelude.{ℕ, ◌-◌, ◌/◌, ◌%◌, ◌<◌, ◌≤◌, min, Bool, false, cond, eqb, List, slice_index, slice_index_or, slice_set, Option, Some, None, ◌*◌}
use Rattle.seg_words.specs.Types.{MOST_EXTENTS, EXTENTS_OF_L2, MOST_EXTENT_BLOCKS}
use Rattle.seg_base.specs.Classes.{class_code}
use Rattle.bitmap_block.specs.Codes.{cleared_from}
use Rattle.bitmap_block.specs.Pages.{ExtentMap, Summary}
use Rattle.redo_record.specs.declared.record.Record.{Record}
use Rattle.redo_record.specs.declared.record.Record.TheVariants.{Extend, FormatBlock, Class, Lower}

abbrev pub with_code : ExtentMap → ℕ → ℕ → ExtentMap
with_code m i code = record m { codes = slice_set m.codes i code }

abbrev pub with_best : Summary → ℕ → ℕ → Summary
with_best m i code = record m { codes = slice_set m.codes i code }

-- the bitmap of an extent: a block that is formatted has the class Fs4
abbrev pub first_changed : Record → ExtentMap → ExtentMap
first_changed (FormatBlock f) m = with_code m (f.dba - m.dba) 5
first_changed (Class k) m = with_code m (k.dba - m.dba) (class_code k.class)
first_changed _ m = m

-- the block is one of the 64 that the bitmap covers
abbrev pub IsIn : ExtentMap → ℕ → Type 0
IsIn m d = (m.dba ≤ d) × (d - m.dba < MOST_EXTENT_BLOCKS)

abbrev pub FirstFits : Record → ExtentMap → Type 0
FirstFits (Extend e) m = Unit {0}
FirstFits (FormatBlock f) m = IsIn m f.dba
FirstFits (Class k) m = IsIn m k.dba
FirstFits _ m = ⊥

abbrev pub is_block : Option ℕ → ℕ → Bool
is_block None d = false
is_block (Some b) d = eqb b d

-- the index of the first extent that a second level covers, by its place among those of its table
abbrev pub covered_from : List (Option ℕ) → ℕ → ℕ
covered_from l2 d = cond (is_block (slice_index_or l2 0 None) d) 0 (cond (is_block (slice_index_or l2 1 None) d) EXTENTS_OF_L2 (2 * EXTENTS_OF_L2))

-- the second level: a new extent has no block yet, and released extents have none
abbrev pub second_changed : Record → Summary → Summary
second_changed (Extend e) m = with_best m (e.index % EXTENTS_OF_L2) 0
second_changed (FormatBlock f) m = with_best m (f.index % EXTENTS_OF_L2) f.best_of_l1
second_changed (Class k) m = with_best m (k.index % EXTENTS_OF_L2) k.best_of_l1
second_changed (Lower l) m = record m { codes = cleared_from EXTENTS_OF_L2 (min (l.kept - covered_from l.l2 m.dba) EXTENTS_OF_L2) m.codes }
second_changed _ m = m

abbrev pub SecondFits : Record → Type 0
SecondFits (Extend e) = Unit {0}
SecondFits (FormatBlock f) = f.best_of_l1 ≤ 5
SecondFits (Class k) = k.best_of_l1 ≤ 5
SecondFits (Lower l) = Unit {0}
SecondFits _ = ⊥

abbrev pub third_changed : Record → Summary → Summary
third_changed (FormatBlock f) m = with_best m (f.index / EXTENTS_OF_L2) f.best_of_l2
third_changed (Class k) m = with_best m (k.index / EXTENTS_OF_L2) k.best_of_l2
third_changed (Lower l) m = with_best (with_best (with_best m 0 (slice_index l.bests 0)) 1 (slice_index l.bests 1)) 2 (slice_index l.bests 2)
third_changed _ m = m

abbrev pub ThirdFits : Record → Type 0
ThirdFits (Extend e) = Unit {0}
ThirdFits (FormatBlock f) = (f.index < MOST_EXTENTS) × (f.best_of_l2 ≤ 5)
ThirdFits (Class k) = (k.index < MOST_EXTENTS) × (k.best_of_l2 ≤ 5)
ThirdFits (Lower l) = (slice_index l.bests 0 ≤ 5) × (slice_index l.bests 1 ≤ 5) × (slice_index l.bests 2 ≤ 5)
ThirdFits _ = ⊥

abbrev pub first_after : Record → ℕ → ExtentMap → ExtentMap
first_after r lsn m = record (first_changed r m) { lsn = lsn }

abbrev pub second_after : Record → ℕ → Summary → Summary
second_after r lsn m = record (second_changed r m) { lsn = lsn }

abbrev pub third_after : Record → ℕ → Summary → Summary
third_after r lsn m = record (third_changed r m) { lsn = lsn }
