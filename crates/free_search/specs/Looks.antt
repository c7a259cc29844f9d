-- What a search knows of its table, and what it wants of a block.
use Rattle.std.specs.Prelude.{◌≡◌, ◌<◌, ◌≤◌, ℕ, Bool, true, false, not, ◌&&◌, cond, eqb, List, Option, Some, None}
use Rattle.seg_words.specs.Types.{Shape, Taker, first_block}
use Rattle.redo_model.specs.Records.{Record}
use Rattle.redo_model.specs.Model.{Extent, extents_of, extent_at, extent_data, in_extent, ended_in, group_start, IsTable}
use Rattle.version_laws.specs.Types.{ended_by}
use Rattle.mark_laws.specs.Searches.{Sought, is_usable, is_good}
use Rattle.redo_laws.specs.Among.{is_in}
use Rattle.segment_read.specs.Segments.{IsSegment}
use Rattle.segment_read.specs.declared.segment.Segment.{Segment}
use Rattle.free_search.specs.declared.look.Look.{Look}
use Rattle.free_search.specs.declared.look.Row.{Row}
use Rattle.free_search.specs.declared.look.Wanted.{Wanted}
use Rattle.free_search.specs.declared.look.Wanted.TheVariants as wanted

-- the shape k and the segment of one of its tables are read of a store of shape sh with the records R
pub record HasSegment (sh : Shape) (R : List Record) (k : Shape) (s : Segment) : Type 0 where
  pub shape : k ≡ sh
  pub table : IsTable R s.obj
  pub segment : IsSegment k R s.obj s

-- what is read of a store of this shape with the records R
pub record Knows (sh : Shape) (R : List Record) (l : Look) : Type 0 where
  pub shape : l.shape ≡ sh
  pub table : IsTable R l.segment.obj
  pub segment : IsSegment l.shape R l.segment.obj l.segment
  pub ended : ended_by l.table ≡ ended_in R

-- the same of table o and this row
pub record IsLook (sh : Shape) (R : List Record) (o : ℕ) (row_is : Row) (l : Look) : Type 0 where
  pub knows : Knows sh R l
  pub obj : l.segment.obj ≡ o
  pub row : l.row ≡ row_is

abbrev pub sought : ℕ → ℕ → Taker → List (Option ℕ) → Sought
sought o len taker but = record { obj = o; len = len; taker = taker; but = but }

abbrev pub row_sought : Look → Sought
row_sought l = sought l.segment.obj l.row.len l.row.taker l.row.but

-- the block is what is wanted
abbrev pub passes : Shape → List Record → Sought → Wanted → ℕ → Bool
passes sh R q wanted.Usable b = is_usable sh R q b
passes sh R q wanted.Good b = is_good sh R q b

-- none of the data blocks of the extent, which has this index in its table, is what is wanted
abbrev pub NoneIn : Shape → List Record → Sought → Wanted → ℕ → Extent → Type 0
NoneIn sh R q w index e = (b : ℕ) → is_in b (extent_data sh index e.number) ≡ true → passes sh R q w b ≡ false

-- none of the data blocks of those extents of the table that a second level covers, the first of which has this index
abbrev pub NoneInGroup : Shape → List Record → Sought → Wanted → ℕ → Type 0
NoneInGroup sh R q w start = (index : ℕ) (e : Extent) → extent_at (extents_of R q.obj) index ≡ Some e → group_start index ≡ start → NoneIn sh R q w index e

-- none of those of the extents from one index on and below another
abbrev pub NoneInRun : Shape → List Record → Sought → Wanted → ℕ → ℕ → Type 0
NoneInRun sh R q w from to = (index : ℕ) (e : Extent) → extent_at (extents_of R q.obj) index ≡ Some e → from ≤ index → index < to → NoneIn sh R q w index e

abbrev pub NoneGoodInGroup : Shape → List Record → Sought → ℕ → Type 0
NoneGoodInGroup sh R q start = NoneInGroup sh R q wanted.Good start

-- it stands in this extent, where there is one
abbrev pub is_within : Shape → Option ℕ → ℕ → Bool
is_within sh None b = true
is_within sh (Some x) b = in_extent sh x b

abbrev pub passes_in : Shape → List Record → Sought → Wanted → Option ℕ → ℕ → Bool
passes_in sh R q w only b = is_within sh only b && passes sh R q w b

-- blocks of another extent alone are wanted
abbrev pub is_elsewhere : Option ℕ → ℕ → Bool
is_elsewhere None x = false
is_elsewhere (Some y) x = not (eqb y x)

abbrev pub found_if : Bool → ℕ → Option ℕ
found_if found b = cond found (Some b) None

-- block b is the first one of the extent at this index of table o
pub record IsFirstBlock (sh : Shape) (R : List Record) (o index : ℕ) (e : Extent) (b : ℕ) : Type 0 where
  pub extent : extent_at (extents_of R o) index ≡ Some e
  pub block : b ≡ first_block sh e.number
