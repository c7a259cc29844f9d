-- Where the data blocks of a table stand, by the count of its extents. Oracle Database Concepts, "Logical Storage Structures":
-- an extent is a set of contiguous blocks; which of them are data is this engine's own.
use Rattle.std.specs.Prelude.{◌≡◌, ℕ, zero, suc, ◌+◌, ◌-◌, ◌<◌, ◌≤◌, cond, ltb, List, length, slice_get, Option, Some, None}
use Rattle.seg_words.specs.Types.{Shape, first_block, head_blocks}
use Rattle.redo_model.specs.Model.{Extent, data_of, extent_at}
use Rattle.data_places.specs.declared.place.Place.{Place}

-- how many data blocks the first n extents of a table have
abbrev pub data_count : Shape → ℕ → ℕ
data_count sh zero = 0
data_count sh (suc n) = data_count sh n + (sh.extent - head_blocks n)

-- how many of their blocks are bitmaps and the header
abbrev pub head_count : ℕ → ℕ
head_count zero = 0
head_count (suc n) = head_count n + head_blocks n

abbrev pub block_or_none : Shape → ℕ → ℕ → Option ℕ
block_or_none sh x n = cond (ltb (first_block sh x + n) sh.blocks) (Some (first_block sh x + n)) None

-- the place is that of the data block at this position, in a table with so many extents
pub record IsPlace (sh : Shape) (extents : ℕ) (p : Place) (at : ℕ) : Type 0 where
  pub there : p.index < extents
  pub past : head_blocks p.index ≤ p.nth
  pub within : p.nth < sh.extent
  pub position : at ≡ data_count sh p.index + (p.nth - head_blocks p.index)

-- the count of a table's data blocks is that by its count of extents
abbrev pub CountsAreTold : Type 0
CountsAreTold = (sh : Shape) (es : List Extent) → length (data_of sh 0 es) ≡ data_count sh (length es)

-- the data block at a position stands in its extent where its place says
abbrev pub PlacesAreTold : Type 0
PlacesAreTold = (sh : Shape) (es : List Extent) (p : Place) (position : ℕ) (e : Extent) → IsPlace sh (length es) p position → extent_at es p.index ≡ Some e → slice_get (data_of sh 0 es) position ≡ Some (first_block sh e.number + p.nth)
