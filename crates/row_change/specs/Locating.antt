-- What slots and blocks show of a row that is looked for, and where it is found.
use Rattle.std.specs.Prelude.{◌≡◌, ℕ, ◌<◌, ◌≤◌, true, List, slice_get, Option, Some, None}
use Rattle.seg_words.specs.Types.{Shape, Slot, Body, Rowid, UndoAddr, is_shape}
use Rattle.redo_model.specs.Records.{Record}
use Rattle.redo_model.specs.Model.{commit_count, holds_row, view, number_or_zero, at_place, Extent, extents_of, extent_at, in_extent, data_blocks, IsTable, IsLawful}
use Rattle.row_block.specs.Types.{RowPage}
use Rattle.version_laws.specs.Types.{HoldsTable}
use Rattle.page_set.specs.declared.page.Page.{Page}
use Rattle.page_set.specs.declared.page.Page.TheVariants.{Rows}
use Rattle.version_read.specs.Walking.{StepsTo}
use Rattle.change_laws.specs.Types.{IsOwn, row_now, HeadOf, WasFound}
use Rattle.place_laws.specs.Located.{GivesNone, IsHeadOf, IsSeenAt, IsLocated}
use Rattle.data_places.specs.declared.place.Place.{Place as DataPlace}
use Rattle.segment_read.specs.Segments.{IsSegment}
use Rattle.row_change.specs.declared.place.Place.{Place}
use Rattle.row_change.specs.declared.sight.Search.{Search}
use Rattle.row_change.specs.declared.sight.Sight.{Sight}
use Rattle.row_change.specs.declared.sight.Shown as showns
use Rattle.row_change.specs.declared.sight.Shown.TheVariants as shown

-- a page of rows
abbrev pub rows_of : Page → Option RowPage
rows_of (Rows b) = Some b
rows_of _ = None

-- The search is over table o of a store with this shape, in a lawful list of which it has the table's segment, the transaction
-- table and the number of commits.
pub record IsSearch (sh : Shape) (R : List Record) (o : ℕ) (q : Search) : Type 0 where
  pub shape_is : q.shape ≡ sh
  pub within : is_shape q.shape ≡ true
  pub lawful : IsLawful q.shape R
  pub there : IsTable R o
  pub own_is : IsOwn R q.own
  pub txns : HoldsTable R q.table
  pub start_is : q.start ≡ commit_count R
  pub segment_is : IsSegment q.shape R o q.segment

-- and sees what own does
pub record IsSearchFor (sh : Shape) (R : List Record) (o : ℕ) (own : Option ℕ) (q : Search) : Type 0 where
  pub search : IsSearch sh R o q
  pub own_is : q.own ≡ own

-- the data block at this position of table o, in an extent that the table has at the index of the place
pub record IsBlockAt (sh : Shape) (R : List Record) (o : ℕ) (p : DataPlace) (position b : ℕ) : Type 0 where
  pub extent : Extent
  pub at : extent_at (extents_of R o) p.index ≡ Some extent
  pub has : in_extent sh extent.number b ≡ true
  pub block : slice_get (data_blocks sh R o) position ≡ Some b

-- an image that holds a row, at p
pub record IsSight (i : Slot) (p : Rowid) (x : Sight) : Type 0 where
  pub at_is : x.at ≡ p
  pub holds : holds_row i.kind ≡ true
  pub row : i.row ≡ x.row
  pub undo_is : i.undo ≡ Some x.undo
  pub head_is : IsHeadOf i x.head

-- what is shown of an image that counts: its row, or that it holds none
abbrev pub SightOf : Slot → Rowid → Option Sight → Type 0
SightOf i p None = holds_row i.kind ≡ true → ⊥
SightOf i p (Some x) = IsSight i p x

-- an image has all that is shown of it
pub record HasSight (i : Slot) : Type 0 where
  pub undo : UndoAddr
  pub undo_is : i.undo ≡ Some undo
  pub head : i.kind ≡ Body → HeadOf i

-- the row that is seen now at p
pub record IsSeen (R : List Record) (own : Option ℕ) (p : Rowid) (x : Sight) : Type 0 where
  pub at_is : x.at ≡ p
  pub seen : IsSeenAt R own x.row p x.undo x.head

-- what is seen there: a row or none
abbrev pub Sees : List Record → Option ℕ → Rowid → Option Sight → Type 0
Sees R own p None = (n : ℕ) (bytes : List ℕ) → row_now R own p ≡ Some (n, bytes) → ⊥
Sees R own p (Some x) = IsSeen R own p x

-- row n, or not
pub record IsSeenFor (R : List Record) (own : Option ℕ) (n : ℕ) (p : Rowid) (x : Sight) : Type 0 where
  pub at_is : x.at ≡ p
  pub seen : IsSeenAt R own n p x.undo x.head

abbrev pub SeesFor : List Record → Option ℕ → ℕ → Rowid → Option Sight → Type 0
SeesFor R own n p None = (bytes : List ℕ) → row_now R own p ≡ Some (n, bytes) → ⊥
SeesFor R own n p (Some x) = IsSeenFor R own n p x

-- what a search sees, by the page alone
abbrev pub Shows : List Record → Search → Rowid → showns.Shown → Type 0
Shows R q p (shown.Here x) = Sees R q.own p x
Shows R q p (shown.Below a) = StepsTo q.shape R p.dba p.slot q.start q.own a

-- no slot of the block from this number on gives a row
abbrev pub NoneFrom : List Record → Search → ℕ → ℕ → Type 0
NoneFrom R q b from = (k : ℕ) → from ≤ k → Sees R q.own (at_place b k) None

-- no slot before it gives row n
abbrev pub NoneBelow : List Record → Search → ℕ → ℕ → ℕ → Type 0
NoneBelow R q n b end = (k : ℕ) → k < end → SeesFor R q.own n (at_place b k) None

-- what a whole block shows
pub record IsSeenIn (R : List Record) (own : Option ℕ) (n b : ℕ) (x : Sight) : Type 0 where
  pub block : x.at.dba ≡ b
  pub seen : IsSeenAt R own n x.at x.undo x.head

abbrev pub SeesIn : List Record → Search → ℕ → ℕ → Option Sight → Type 0
SeesIn R q n b None = GivesNone R q.own n b
SeesIn R q n b (Some x) = IsSeenIn R q.own n b x

-- row n of table o stands at the place now, which is what a change of the row takes
pub record IsPlaceOf (sh : Shape) (R : List Record) (own : Option ℕ) (o n : ℕ) (p : Place) : Type 0 where
  pub located : IsLocated sh R own o n p.at p.born p.undo p.start p.head
  pub found : WasFound sh R own o n p.at p.born p.undo p.start

-- what a data block of table o gives of the row
abbrev pub FindsIn : List Record → Search → ℕ → ℕ → ℕ → Option Place → Type 0
FindsIn R q o n b None = GivesNone R q.own n b
FindsIn R q o n b (Some p) = IsPlaceOf q.shape R q.own o n p

-- so the block at a position, where there is one
abbrev pub FindsAt : List Record → Search → ℕ → ℕ → ℕ → Option Place → Type 0
FindsAt R q o n position None = (b : ℕ) → slice_get (data_blocks q.shape R o) position ≡ Some b → GivesNone R q.own n b
FindsAt R q o n position (Some p) = IsPlaceOf q.shape R q.own o n p

-- and the whole table
abbrev pub Locates : Shape → List Record → Option ℕ → ℕ → ℕ → Option Place → Type 0
Locates sh R own o n None = view R o (commit_count R) (number_or_zero own) n ≡ None
Locates sh R own o n (Some p) = IsPlaceOf sh R own o n p
