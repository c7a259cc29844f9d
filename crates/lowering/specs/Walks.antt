-- What is found of the data blocks of an extent.
use Rattle.std.specs.Prelude.{◌≡◌, ℕ, ◌+◌, ◌<◌, ◌≤◌, Bool, true, false, not, ◌||◌, List, Some}
use Rattle.seg_words.specs.Types.{Shape, first_block, head_blocks}
use Rattle.redo_model.specs.Records.{Record}
use Rattle.redo_model.specs.Model.{Extent, extents_of, extent_at, is_formatted, is_vacant_block}

-- the block isn't formatted, or is vacant
abbrev pub is_free : Shape → List Record → ℕ → Bool
is_free sh R b = not (is_formatted sh R b) || is_vacant_block R b

-- the extent at an index of table o begins at this block
pub record BeginsAt (sh : Shape) (R : List Record) (o index : ℕ) (e : Extent) (first : ℕ) : Type 0 where
  pub at : extent_at (extents_of R o) index ≡ Some e
  pub block : first ≡ first_block sh e.number

-- its nth block is a data block
pub record IsData (sh : Shape) (index nth : ℕ) : Type 0 where
  pub past : head_blocks index ≤ nth
  pub within : nth < sh.extent

-- its blocks from one number on and below another are data blocks
pub record AreData (sh : Shape) (index from to : ℕ) : Type 0 where
  pub past : head_blocks index ≤ from
  pub within : to ≤ sh.extent

-- one of the blocks from one number on and below another fails a test
pub record OneFails (p : ℕ → Bool) (first from to : ℕ) : Type 0 where
  pub nth : ℕ
  pub past : from ≤ nth
  pub below : nth < to
  pub fails : p (first + nth) ≡ false

-- whether each passes it
abbrev pub DoPass : (ℕ → Bool) → ℕ → ℕ → ℕ → Bool → Type 0
DoPass p first from to true = (k : ℕ) → from ≤ k → k < to → p (first + k) ≡ true
DoPass p first from to false = OneFails p first from to
