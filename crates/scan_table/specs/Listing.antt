-- The blocks that a scan reads, by the position of a table's data blocks. Oracle Database Concepts, "Segment Space and the High
-- Water Mark": a full scan reads the formatted blocks under the high mark.
use Rattle.std.specs.Prelude.{◌≡◌, ℕ, ◌+◌, true, cond, List, [], ◌∷◌, ◌++◌, filter, slice_get, Option, Some, None}
use Rattle.seg_words.specs.Types.{Shape, first_block, is_shape}
use Rattle.redo_model.specs.Records.{Record}
use Rattle.redo_model.specs.Model.{data_blocks, is_formatted, IsTable, IsLawful}
use Rattle.segment_read.specs.Segments.{IsSegment}
use Rattle.scan_table.specs.declared.listing.Listing.{Listing}
use Rattle.scan_table.specs.declared.listing.FoundBlock.{FoundBlock}

-- table o of a lawful list in a store of this shape, with its segment
pub record IsListing (sh : Shape) (R : List Record) (o : ℕ) (q : Listing) : Type 0 where
  pub shape_is : q.shape ≡ sh
  pub within : is_shape q.shape ≡ true
  pub lawful : IsLawful q.shape R
  pub there : IsTable R o
  pub segment_is : IsSegment q.shape R o q.segment

-- the nth block of extent x, and the extent's first one
pub record IsFound (sh : Shape) (x nth : ℕ) (f : FoundBlock) : Type 0 where
  pub first_is : f.first ≡ first_block sh x
  pub block_is : f.dba ≡ first_block sh x + nth

-- the data block at a position, where it is formatted
abbrev pub FormattedAt : Shape → List Record → ℕ → ℕ → Option ℕ → Type 0
FormattedAt sh R o n x = (b : ℕ) → slice_get (data_blocks sh R o) n ≡ Some b → x ≡ cond (is_formatted sh R b) (Some b) None

-- it was added, where it is formatted
abbrev pub AddsFormatted : Shape → List Record → ℕ → ℕ → List ℕ → List ℕ → Type 0
AddsFormatted sh R o n old new = (b : ℕ) → slice_get (data_blocks sh R o) n ≡ Some b → new ≡ old ++ filter (λ c. is_formatted sh R c) (b ∷ [])
