-- What the place of a row tells when it is looked at later. A statement that finds its row changed since it began starts again
-- (Oracle Database Concepts, "Multiversion Read Consistency"); that the undo address of the image there tells it, and that a
-- block which was released since does, is this engine's own.
use Rattle.std.specs.Prelude.{◌≡◌, ◌≢◌, ℕ, true, false, List, Option, Some, None}
use Rattle.seg_words.specs.Types.{Shape, Kind, Empty, Row, Head, Body, Rowid, UndoAddr, Slot, By}
use Rattle.redo_model.specs.Records.{Record}
use Rattle.redo_model.specs.Model.{commit_count, image, image_at, row_at, Extent, extents_of, extent_at, in_extent, IsTable, IsRowBlock, view, number_or_zero, AreAllowed}
use Rattle.redo_laws.specs.Stays.{Later, IsNotOf}
use Rattle.redo_laws.specs.Views.{IsOpen}
use Rattle.scan_laws.specs.Changes.{changed_above}
use Rattle.change_laws.specs.Drafts.{Stand, Whole, Apart}
use Rattle.change_laws.specs.Ready.{IsOwn, MayWrite}
use Rattle.change_laws.specs.Causes.{IsBusy, IsChanged}

-- where the row of an image stands: a body names its head
abbrev pub stand_of : Kind → Option Rowid → Rowid → Stand
stand_of Body (Some head) p = Apart head p
stand_of Body None p = Whole p
stand_of Empty link p = Whole p
stand_of Row link p = Whole p
stand_of Head link p = Whole p

abbrev pub stand_in : Slot → Rowid → Stand
stand_in i p = stand_of i.kind i.link p

-- slot p as own sees it at all commits
abbrev pub now_at : List Record → Option ℕ → Rowid → Slot
now_at R own p = image_at R p.dba p.slot (commit_count R) (number_or_zero own)

abbrev pub row_now : List Record → Option ℕ → Rowid → Option (ℕ × List ℕ)
row_now R own p = row_at R p.dba p.slot (commit_count R) (number_or_zero own)

-- an extent of table o with this incarnation has block b
pub record IsBornAt (sh : Shape) (R : List Record) (o b born : ℕ) : Type 0 where
  pub index : ℕ
  pub extent : Extent
  pub at : extent_at (extents_of R o) index ≡ Some extent
  pub has : in_extent sh extent.number b ≡ true
  pub born_is : extent.incarnation ≡ born

-- Row n was found at p in a row block of table o for own, in this list or in an earlier one after which own added nothing:
-- the incarnation of the block's extent, the undo address of the image and the number of commits then. Where own has not begun
-- it stays so from then to the change: the place is looked at before the Begin.
pub record WasFound (sh : Shape) (R : List Record) (own : Option ℕ) (o n : ℕ) (p : Rowid) (born : ℕ) (undo : UndoAddr) (start : ℕ) : Type 0 where
  pub list : List Record
  pub later : Later (λ e. IsNotOf e (number_or_zero own)) list R
  pub open_then : IsOpen list (number_or_zero own)
  pub table : IsTable list o
  pub here : IsRowBlock sh list o p.dba
  pub born_then : IsBornAt sh list o p.dba born
  pub start_is : start ≡ commit_count list
  pub bytes : List ℕ
  pub row : row_now list own p ≡ Some (n, bytes)
  pub undo_is : (now_at list own p).undo ≡ Some undo

-- the row stands there, nothing changed it since, and it may be changed
pub record IsFreeNow (R : List Record) (own : Option ℕ) (o n : ℕ) (p : Rowid) (start : ℕ) : Type 0 where
  pub unchanged : changed_above R start n ≡ false
  pub write : MayWrite R own o n (stand_in (image R p.dba p.slot) p)

-- the row is in the view at all commits, nothing changed it since, and the writer of the newest image there is another active
-- transaction, which keeps it busy
pub record IsBusyNow (R : List Record) (own : Option ℕ) (o n : ℕ) (p : Rowid) (start : ℕ) : Type 0 where
  pub unchanged : changed_above R start n ≡ false
  pub was : List ℕ
  pub there : view R o (commit_count R) (number_or_zero own) n ≡ Some was
  pub txn : ℕ
  pub writer : (image R p.dba p.slot).writer ≡ By txn
  pub busy : IsBusy R own n txn

-- Where the block was not released since: the image that own sees has another undo address exactly where a commit or a move
-- since changed or moved the row; and where it has the same one, the newest image has it exactly where the row is free.
pub record PlaceShows (sh : Shape) (R : List Record) (own : Option ℕ) (o n : ℕ) (p : Rowid) (undo : UndoAddr) (start : ℕ) : Type 0 where
  pub here : IsRowBlock sh R o p.dba
  pub changed : (now_at R own p).undo ≢ Some undo → IsChanged R start n (commit_count R)
  pub free : (now_at R own p).undo ≡ Some undo → (image R p.dba p.slot).undo ≡ Some undo → IsFreeNow R own o n p start
  pub busy : (now_at R own p).undo ≡ Some undo → (image R p.dba p.slot).undo ≢ Some undo → IsBusyNow R own o n p start

abbrev pub PlacesShow : Type 0
PlacesShow =
    (sh : Shape) (R : List Record) (own : Option ℕ) (o n : ℕ) (p : Rowid) (born : ℕ) (undo : UndoAddr) (start : ℕ) → AreAllowed sh R → IsOwn R own → WasFound sh R own o n p born undo start → IsBornAt sh R o p.dba born
    → PlaceShows sh R own o n p undo start

-- where the block was released since, a commit or a move changed or moved the row
abbrev pub ReleasedAreChanged : Type 0
ReleasedAreChanged =
    (sh : Shape) (R : List Record) (own : Option ℕ) (o n : ℕ) (p : Rowid) (born : ℕ) (undo : UndoAddr) (start : ℕ) → AreAllowed sh R → IsOwn R own → WasFound sh R own o n p born undo start → (IsBornAt sh R o p.dba born → ⊥)
    → IsChanged R start n (commit_count R)

-- an image that holds a row has an undo address, whichever commits and whichever transaction it is seen by
pub record UndoOfRow (R : List Record) (b k s t : ℕ) : Type 0 where
  pub undo : UndoAddr
  pub undo_is : (image_at R b k s t).undo ≡ Some undo

abbrev pub RowsHaveUndo : Type 0
RowsHaveUndo = (sh : Shape) (R : List Record) (b k s t n : ℕ) (bytes : List ℕ) → AreAllowed sh R → row_at R b k s t ≡ Some (n, bytes) → UndoOfRow R b k s t

-- an image that holds a body names the body's head, whichever commits and whichever transaction it is seen by
pub record HeadOf (i : Slot) : Type 0 where
  pub head : Rowid
  pub link_is : i.link ≡ Some head

abbrev pub BodiesNameHeads : Type 0
BodiesNameHeads = (sh : Shape) (R : List Record) (b k s t : ℕ) → AreAllowed sh R → (image_at R b k s t).kind ≡ Body → HeadOf (image_at R b k s t)
