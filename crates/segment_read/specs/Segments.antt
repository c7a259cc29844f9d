-- What is known of a table's segment.
use Rattle.std.specs.Prelude.{◌≡◌, ℕ, Bool, false, List, length, Option, Some, None}
use Rattle.seg_words.specs.Types.{Shape}
use Rattle.redo_model.specs.Records.{Record}
use Rattle.redo_model.specs.Model.{Extent, extents_of, extent_at, in_extent, header_of, pctfree_of, has_movement, low_mark, high_mark}
use Rattle.segment_read.specs.declared.segment.Segment.{Segment}

-- the segment of table o after the records R
pub record IsSegment (sh : Shape) (R : List Record) (o : ℕ) (s : Segment) : Type 0 where
  pub obj : s.obj ≡ o
  pub header : s.header ≡ header_of sh (extents_of R o)
  pub pctfree : s.pctfree ≡ pctfree_of R o
  pub movement : s.movement ≡ has_movement R o
  pub low : s.low ≡ low_mark R o
  pub high : s.high ≡ high_mark R o
  pub extents : s.extents ≡ length (extents_of R o)

-- the number of the extent at this index, where there is one
abbrev pub number_at : List Extent → ℕ → Option ℕ
number_at es index = number_of (extent_at es index)
  where
    number_of : Option Extent → Option ℕ
    number_of None = None
    number_of (Some e) = Some e.number

-- the block stands in the extent, where there is one
abbrev pub has_it : Shape → Option ℕ → ℕ → Bool
has_it sh None b = false
has_it sh (Some x) b = in_extent sh x b
