-- The kept class of a block, the entry of the bitmap that DBMS_SPACE counts and DBMS_REPAIR sets, whether it is exact,
-- and the best of several. Oracle: DBMS_SPACE.SPACE_USAGE, DBMS_REPAIR.SEGMENT_FIX_STATUS. When it is changed is this
-- engine's own.
use Rattle.std.specs.Prelude.{◌≡◌, ℕ, suc, max, cond, eqb, ltb, List, [], ◌∷◌, Option, Some, None}
use Rattle.seg_words.specs.Types.{Class as BlockClass, Fs4, Shape, class_code}
use Rattle.redo_model.specs.Records.{Record, FormatBlock, Class}
use Rattle.redo_model.specs.Blocks.{class_of_block}
use Rattle.redo_model.specs.Segments.{Extent, extents_of, extent_data, is_formatted, IsRowBlock, pctfree_of, group_start, extent_at}

abbrev pub changed_class : Record → ℕ → BlockClass → BlockClass
changed_class (FormatBlock f) b c = cond (eqb f.dba b) Fs4 c
changed_class (Class k) b c = cond (eqb k.dba b) k.class c
changed_class _ b c = c

-- the class of the last Class record of the block since its last FormatBlock, or Fs4
abbrev pub kept_class : List Record → ℕ → BlockClass
kept_class [] b = Fs4
kept_class (r ∷ R) b = changed_class r b (kept_class R b)

-- each formatted block of the table under its high mark has its class as its kept class
abbrev pub IsExact : Shape → List Record → ℕ → Type 0
IsExact sh R o = (b : ℕ) → IsRowBlock sh R o b → kept_class R b ≡ class_of_block R (pctfree_of R o) b

-- the entry of a block in its bitmap: 0 for a block that isn't formatted
abbrev pub code_of : Shape → List Record → ℕ → ℕ
code_of sh R b = cond (is_formatted sh R b) (class_code (kept_class R b)) 0

-- a code from 2 on, else 0: a full or unformatted block is no good
abbrev pub good_code : ℕ → ℕ
good_code c = cond (ltb c 2) 0 c

-- the best of the blocks
abbrev pub best_of : Shape → List Record → List ℕ → ℕ
best_of sh R [] = 0
best_of sh R (b ∷ bs) = max (good_code (code_of sh R b)) (best_of sh R bs)

-- the best of an extent's data blocks, which its L1 has
abbrev pub best_in_extent : Shape → List Record → ℕ → ℕ → ℕ
best_in_extent sh R index x = best_of sh R (extent_data sh index x)

-- the best of those extents of the list that the L2 of this group covers
abbrev pub best_in_group : Shape → List Record → ℕ → ℕ → List Extent → ℕ
best_in_group sh R start index [] = 0
best_in_group sh R start index (e ∷ es) =
    max (cond (eqb (group_start index) start) (best_in_extent sh R index e.number) 0) (best_in_group sh R start (suc index) es)

-- the best that the L2 of this group has, of table o
abbrev pub best_in_l2 : Shape → List Record → ℕ → ℕ → ℕ
best_in_l2 sh R o start = best_in_group sh R start 0 (extents_of R o)

abbrev pub best_of_found : Shape → List Record → ℕ → Option Extent → ℕ
best_of_found sh R index None = 0
best_of_found sh R index (Some e) = best_in_extent sh R index e.number

-- the best that the L1 of the extent at this index of table o has
abbrev pub best_in_l1 : Shape → List Record → ℕ → ℕ → ℕ
best_in_l1 sh R o index = best_of_found sh R index (extent_at (extents_of R o) index)
