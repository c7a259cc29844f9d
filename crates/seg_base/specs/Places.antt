-- Where things stand in the data file: logical storage structures (extents are sets of contiguous blocks). The places
-- themselves, the limits and what a bitmap covers are this engine's own.
use Rattle.std.specs.Prelude.{ℕ, ◌+◌, ◌*◌, Bool, ◌&&◌, ◌||◌, cond, eqb, ltb, leb, Option, Some, None, nat_le, if◌then◌else◌}
use Rattle.seg_base.specs.declared.limit.TheConstants.{EXTENTS_OF_L2, LEAST_BLOCKS, LEAST_EXTENT_BLOCKS, LEAST_UNDO_BLOCKS, MOST_BLOCKS, MOST_EXTENT_BLOCKS, MOST_EXTENTS, MOST_UNDO_BLOCKS, OWN_BLOCKS}
use Rattle.seg_base.specs.declared.shape.ShapeNumber.{ShapeNumber}
use Rattle.seg_base.specs.declared.shape.ShapeNumber.TheVariants.{Blocks, Extent, Undo}
use Rattle.seg_base.specs.declared.shape.Shape.{Shape}

-- within the limits of a store, which has room for at least one extent
abbrev pub is_shape : Shape → Bool
is_shape shape = leb LEAST_BLOCKS shape.blocks && leb shape.blocks MOST_BLOCKS && leb LEAST_EXTENT_BLOCKS shape.extent && leb shape.extent MOST_EXTENT_BLOCKS
    && leb LEAST_UNDO_BLOCKS shape.undo && leb shape.undo MOST_UNDO_BLOCKS && leb (OWN_BLOCKS + shape.undo + shape.extent) shape.blocks

-- the first of a shape's numbers that is out of its range: the undo blocks too where only the sum is too great
abbrev pub wrong_number : Shape → Option ShapeNumber
wrong_number shape =
    if nat_le LEAST_BLOCKS shape.blocks && nat_le shape.blocks MOST_BLOCKS
    then (if nat_le LEAST_EXTENT_BLOCKS shape.extent && nat_le shape.extent MOST_EXTENT_BLOCKS
    then (if nat_le LEAST_UNDO_BLOCKS shape.undo && nat_le shape.undo MOST_UNDO_BLOCKS && nat_le (OWN_BLOCKS + shape.undo + shape.extent) shape.blocks
    then None
    else Some Undo)
    else Some Extent)
    else Some Blocks

-- the first block of an extent: the store's own blocks and the undo blocks stand before it
abbrev pub first_block : Shape → ℕ → ℕ
first_block shape x = OWN_BLOCKS + shape.undo + x * shape.extent

-- a whole extent of the store
abbrev pub is_extent : Shape → ℕ → Bool
is_extent shape x = leb (first_block shape x + shape.extent) shape.blocks

-- The blocks of an extent that aren't data, by its place among its table's extents: three bitmap blocks and the header
-- in the first one, two bitmap blocks where a second level begins anew, one elsewhere.
abbrev pub head_blocks : ℕ → ℕ
head_blocks index = cond (eqb index 0) 4 (cond (eqb index EXTENTS_OF_L2 || eqb index (2 * EXTENTS_OF_L2)) 2 1)

-- the nth data block of the extent x that stands at this index in its table
abbrev pub data_place : Shape → ℕ → ℕ → ℕ → Option ℕ
data_place shape x index n = cond (is_extent shape x && ltb index MOST_EXTENTS && ltb (head_blocks index + n) shape.extent)
    (Some (first_block shape x + head_blocks index + n)) None
