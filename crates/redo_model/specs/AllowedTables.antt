-- When a record of tables, extents, blocks and marks may follow the records R, and what its fields must be. This engine's
-- own, but for the meaning of the marks (Oracle Database Concepts, "Segment Space and the High Water Mark").
use Rattle.std.specs.Prelude.{◌≡◌, ℕ, suc, ◌+◌, ◌<◌, ◌≤◌, min, true, false, eqb, List, [], ◌∷◌, length, map, take, drop, Option, Some, None, ◌*◌}
use Rattle.seg_words.specs.Types.{Shape, first_block, class_code, is_name, MOST_PCTFREE, MOST_TABLES, MOST_EXTENTS, EXTENTS_OF_L2, ADVANCE_BLOCKS}
use Rattle.redo_model.specs.Records.{Record, Extend, FormatBlock, Class, Lower, TableRecord, MovementRecord, ExtendRecord, FormatBlockRecord, ClassRecord, AdvanceRecord, LowerRecord}
use Rattle.redo_model.specs.Ordinals.{lowering_count}
use Rattle.redo_model.specs.Segments.{Extent, extents_of, data_of, data_blocks, low_mark, high_mark, under_high, first_unformatted, IsTable, table_count, table_named, IsLeastFree, IsRowBlock, kept_length, extent_at, header_of, l2_of, l3_of, index_of, group_start, block_in}
use Rattle.redo_model.specs.Kept.{kept_class, best_in_l1, best_in_l2}

-- a table is made: its Extend follows, and takes the least free extent
pub record TableAllowed (sh : Shape) (R : List Record) (t : TableRecord) : Type 0 where
  pub named : is_name t.name ≡ true
  pub new_name : table_named R t.name ≡ None
  pub few : table_count R < MOST_TABLES
  pub pctfree : t.pctfree ≤ MOST_PCTFREE
  pub number : t.obj ≡ suc (table_count R)
  pub extent : ℕ
  pub room : IsLeastFree sh R extent
  pub header : t.header ≡ first_block sh extent + 3

pub record MovementAllowed (sh : Shape) (R : List Record) (m : MovementRecord) : Type 0 where
  pub table : IsTable R m.obj
  pub header : m.header ≡ header_of sh (extents_of R m.obj)

-- A table gets the least free extent, a later one only where each of its data blocks is under the high mark and formatted.
-- Its places are those with the new extent.
pub record ExtendAllowed (sh : Shape) (R : List Record) (e : ExtendRecord) : Type 0 where
  pub table : IsTable R e.obj
  pub extent : IsLeastFree sh R e.extent
  pub index : e.index ≡ length (extents_of R e.obj)
  pub few : e.index < MOST_EXTENTS
  pub full : 0 < e.index → high_mark R e.obj ≡ length (data_blocks sh R e.obj)
  pub formatted : 0 < e.index → first_unformatted sh R (data_blocks sh R e.obj) ≡ None
  pub header : e.header ≡ header_of sh (extents_of (Extend e ∷ R) e.obj)
  pub l2 : e.l2 ≡ l2_of sh (extents_of (Extend e ∷ R) e.obj) e.index
  pub l3 : e.l3 ≡ l3_of sh (extents_of (Extend e ∷ R) e.obj)

-- the bitmap blocks of a data block of table o, and the index of its extent
pub record StatesBitmaps (sh : Shape) (R : List Record) (o b l2 l3 index : ℕ) : Type 0 where
  pub index_is : index ≡ index_of sh (extents_of R o) b
  pub l2_is : l2 ≡ l2_of sh (extents_of R o) index
  pub l3_is : l3 ≡ l3_of sh (extents_of R o)

-- the bests of the L1 and the L2 of an extent, after the record
pub record StatesBests (sh : Shape) (R : List Record) (o index best_of_l1 best_of_l2 : ℕ) : Type 0 where
  pub l1 : best_of_l1 ≡ best_in_l1 sh R o index
  pub l2 : best_of_l2 ≡ best_in_l2 sh R o (group_start index)

pub record FormatAllowed (sh : Shape) (R : List Record) (f : FormatBlockRecord) : Type 0 where
  pub table : IsTable R f.obj
  pub first : first_unformatted sh R (under_high sh R f.obj) ≡ Some f.dba
  pub bitmaps : StatesBitmaps sh R f.obj f.dba f.l2 f.l3 f.index
  pub bests : StatesBests sh (FormatBlock f ∷ R) f.obj f.index f.best_of_l1 f.best_of_l2

pub record ClassAllowed (sh : Shape) (R : List Record) (k : ClassRecord) : Type 0 where
  pub table : IsTable R k.obj
  pub here : IsRowBlock sh R k.obj k.dba
  pub formatted_class : 1 ≤ class_code k.class
  pub another : eqb (class_code k.class) (class_code (kept_class R k.dba)) ≡ false
  pub bitmaps : StatesBitmaps sh R k.obj k.dba k.l2 k.l3 k.index
  pub bests : StatesBests sh (Class k ∷ R) k.obj k.index k.best_of_l1 k.best_of_l2

-- the low mark goes to the high one, and that up by at most 16 blocks
pub record AdvanceAllowed (sh : Shape) (R : List Record) (a : AdvanceRecord) : Type 0 where
  pub table : IsTable R a.obj
  pub header : a.header ≡ header_of sh (extents_of R a.obj)
  pub formatted : first_unformatted sh R (under_high sh R a.obj) ≡ None
  pub room : high_mark R a.obj < length (data_blocks sh R a.obj)
  pub low : a.low ≡ high_mark R a.obj
  pub high : a.high ≡ min (high_mark R a.obj + ADVANCE_BLOCKS) (length (data_blocks sh R a.obj))

abbrev pub l2_at : Shape → Option Extent → Option ℕ
l2_at sh None = None
l2_at sh (Some e) = Some (block_in sh (Some e) 1)

-- the L2 of these extents, in order: each covers 300 of at most 900
abbrev pub all_l2 : Shape → List Extent → List (Option ℕ)
all_l2 sh es = l2_at sh (extent_at es 0) ∷ l2_at sh (extent_at es EXTENTS_OF_L2) ∷ l2_at sh (extent_at es (2 * EXTENTS_OF_L2)) ∷ []

abbrev pub all_bests : Shape → List Record → ℕ → List ℕ
all_bests sh R o = best_in_l2 sh R o 0 ∷ best_in_l2 sh R o EXTENTS_OF_L2 ∷ best_in_l2 sh R o (2 * EXTENTS_OF_L2) ∷ []

-- the longest suffix of vacant extents after the first is released
pub record LowerAllowed (sh : Shape) (R : List Record) (l : LowerRecord) : Type 0 where
  pub table : IsTable R l.obj
  pub header : l.header ≡ header_of sh (extents_of R l.obj)
  pub lowering : l.lowering ≡ suc (lowering_count R)
  pub longest : l.kept ≡ suc (kept_length sh R 1 (drop 1 (extents_of R l.obj)))
  pub not_none : l.kept < length (extents_of R l.obj)
  pub released : l.released ≡ map (λ (e : Extent). e.number) (drop l.kept (extents_of R l.obj))
  pub high : l.high ≡ min (high_mark R l.obj) (length (data_of sh 0 (take l.kept (extents_of R l.obj))))
  pub low : l.low ≡ min (low_mark R l.obj) l.high
  pub l2 : l.l2 ≡ all_l2 sh (take l.kept (extents_of R l.obj))
  pub l3 : l.l3 ≡ l3_of sh (extents_of R l.obj)
  pub bests : l.bests ≡ all_bests sh (Lower l ∷ R) l.obj
