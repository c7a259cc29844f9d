-- Where a row of a table stands now for a transaction, or for none: at all commits, the one slot whose version has its number.
use Rattle.std.specs.Prelude.{◌≡◌, ℕ, ◌<◌, ◌≤◌, min, List, length, slice_get, Option, Some, None}
use Rattle.seg_words.specs.Types.{Shape, Slot, Row, Body, Rowid, UndoAddr}
use Rattle.redo_model.specs.Records.{Record}
use Rattle.redo_model.specs.Model.{commit_count, view, data_blocks, high_mark, at_place, IsTable, IsRowBlock, number_or_zero, AreAllowed}
use Rattle.change_laws.specs.Types.{IsOwn, now_at, row_now, IsBornAt, WasFound}

-- no slot of the block gives row n now
abbrev pub GivesNone : List Record → Option ℕ → ℕ → ℕ → Type 0
GivesNone R own n b = (k : ℕ) (bytes : List ℕ) → row_now R own (at_place b k) ≡ Some (n, bytes) → ⊥

-- no data block of table o before this position does
abbrev pub NoneBefore : Shape → List Record → Option ℕ → ℕ → ℕ → ℕ → Type 0
NoneBefore sh R own o n end = (i b : ℕ) → i < end → slice_get (data_blocks sh R o) i ≡ Some b → GivesNone R own n b

-- The head of a row whose version this image is: none of one that stands whole.
abbrev pub IsHeadOf : Slot → Option Rowid → Type 0
IsHeadOf i None = i.kind ≡ Row
IsHeadOf i (Some head) = (i.kind ≡ Body) × (i.link ≡ Some head)

-- slot p gives row n now: the undo address of that version, and the row's head
pub record IsSeenAt (R : List Record) (own : Option ℕ) (n : ℕ) (p : Rowid) (undo : UndoAddr) (head : Option Rowid) : Type 0 where
  pub bytes : List ℕ
  pub row : row_now R own p ≡ Some (n, bytes)
  pub undo_is : (now_at R own p).undo ≡ Some undo
  pub head_is : IsHeadOf (now_at R own p) head

-- Row n of table o stands there now: the incarnation of the block's extent, and the number of commits.
pub record IsLocated (sh : Shape) (R : List Record) (own : Option ℕ) (o n : ℕ) (p : Rowid) (born : ℕ) (undo : UndoAddr) (start : ℕ) (head : Option Rowid) : Type 0 where
  pub here : IsRowBlock sh R o p.dba
  pub born_now : IsBornAt sh R o p.dba born
  pub seen : IsSeenAt R own n p undo head
  pub start_is : start ≡ commit_count R

abbrev pub SearchesEnd : Type 0
SearchesEnd =
    (sh : Shape) (R : List Record) (own : Option ℕ) (o n end : ℕ) → AreAllowed sh R → IsOwn R own → IsTable R o → NoneBefore sh R own o n end → min (high_mark R o) (length (data_blocks sh R o)) ≤ end
    → view R o (commit_count R) (number_or_zero own) n ≡ None

abbrev pub GivenAreAtHome : Type 0
GivenAreAtHome =
    (sh : Shape) (R : List Record) (own : Option ℕ) (o n i : ℕ) (p : Rowid) (bytes : List ℕ) → AreAllowed sh R → IsTable R o → slice_get (data_blocks sh R o) i ≡ Some p.dba → row_now R own p ≡ Some (n, bytes) → IsRowBlock sh R o p.dba

-- a place that is located
pub record LocatedIs (sh : Shape) (R : List Record) (own : Option ℕ) (o n : ℕ) (p : Rowid) (born : ℕ) (undo : UndoAddr) (start : ℕ) (bytes : List ℕ) : Type 0 where
  pub found : WasFound sh R own o n p born undo start
  pub viewed : view R o (commit_count R) (number_or_zero own) n ≡ Some bytes
  pub only : (q : Rowid) (x : List ℕ) → row_now R own q ≡ Some (n, x) → q ≡ p

abbrev pub LocatedAreFound : Type 0
LocatedAreFound =
    (sh : Shape) (R : List Record) (own : Option ℕ) (o n : ℕ) (p : Rowid) (born : ℕ) (undo : UndoAddr) (start : ℕ) (head : Option Rowid) → AreAllowed sh R → IsOwn R own → IsTable R o → (is : IsLocated sh R own o n p born undo start head)
    → LocatedIs sh R own o n p born undo start is.seen.bytes
