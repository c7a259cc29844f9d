-- A row that was located in an earlier list, and where it stands now. An update may go to another block than the row's own ones,
-- and whoever asks for one knows these from the place alone: its slot, and the head that it had when it was located.
use Rattle.std.specs.Prelude.{◌≡◌, ℕ, true, false, List, [], ◌∷◌, Option, Some, None}
use Rattle.seg_words.specs.Types.{Shape, Rowid, UndoAddr, is_shape}
use Rattle.redo_model.specs.Records.{Record}
use Rattle.redo_model.specs.Model.{effect_of, image, IsTable, number_or_zero, AreAllowed}
use Rattle.redo_laws.specs.Stays.{Later, IsNotOf}
use Rattle.mark_laws.specs.Searches.{Sought, is_left_out, find_of}
use Rattle.mark_laws.specs.declared.step.Found.TheVariants as found
use Rattle.change_laws.specs.Types.{Stand, Whole, Apart, IsOwn, IsOtherThan, now_at, WasFound, IsFreeNow, stand_at, taker_of, MayBeTarget}
use Rattle.place_laws.specs.Located.{IsLocated}

-- Row n of table o was located at p with this head for own, in this list or in an earlier one after which own added nothing.
pub record WasLocated (sh : Shape) (R : List Record) (own : Option ℕ) (o n : ℕ) (p : Rowid) (born : ℕ) (undo : UndoAddr) (start : ℕ) (head : Option Rowid) : Type 0 where
  pub list : List Record
  pub later : Later (λ e. IsNotOf e (number_or_zero own)) list R
  pub own_then : IsOwn list own
  pub table : IsTable list o
  pub located : IsLocated sh list own o n p born undo start head

-- where a row stands whose slot and head these are
abbrev pub stand_by : Option Rowid → Rowid → Stand
stand_by None p = Whole p
stand_by (Some head) p = Apart head p

abbrev pub block_in : Option Rowid → Option ℕ
block_in None = None
block_in (Some p) = Some p.dba

-- the blocks of such a row, which a search for another one leaves out
abbrev pub blocks_by : Option Rowid → Rowid → List (Option ℕ)
blocks_by head p = block_in head ∷ Some p.dba ∷ []

-- what an update of the row looks for where it needs another block
abbrev pub sought_by : Option ℕ → ℕ → ℕ → Option Rowid → Rowid → Sought
sought_by own o len head p = record { obj = o; len = len; taker = taker_of own; but = blocks_by head p }

abbrev pub LocatedPlacesStay : Type 0
LocatedPlacesStay =
    (sh : Shape) (R : List Record) (r : Record) (own : Option ℕ) (o n : ℕ) (p : Rowid) (born : ℕ) (undo : UndoAddr) (start : ℕ) (head : Option Rowid) → WasLocated sh R own o n p born undo start head → IsNotOf (effect_of r) (number_or_zero own)
    → WasLocated sh (r ∷ R) own o n p born undo start head

abbrev pub LocatedWereFound : Type 0
LocatedWereFound =
    (sh : Shape) (R : List Record) (own : Option ℕ) (o n : ℕ) (p : Rowid) (born : ℕ) (undo : UndoAddr) (start : ℕ) (head : Option Rowid) → WasLocated sh R own o n p born undo start head
    → WasFound sh R own o n p born undo start

-- the newest image at a place is the one that own sees there, and has the undo address that was found
pub record IsNewest (R : List Record) (own : Option ℕ) (p : Rowid) (undo : UndoAddr) : Type 0 where
  pub seen : now_at R own p ≡ image R p.dba p.slot
  pub undo_is : (image R p.dba p.slot).undo ≡ Some undo

abbrev pub FreeAreNewest : Type 0
FreeAreNewest =
    (sh : Shape) (R : List Record) (own : Option ℕ) (o n : ℕ) (p : Rowid) (born : ℕ) (undo : UndoAddr) (start : ℕ) → AreAllowed sh R → IsOwn R own → WasFound sh R own o n p born undo start → IsFreeNow R own o n p start
    → IsNewest R own p undo

abbrev pub HeadsStay : Type 0
HeadsStay =
    (sh : Shape) (R : List Record) (own : Option ℕ) (o n : ℕ) (p : Rowid) (born : ℕ) (undo : UndoAddr) (start : ℕ) (head : Option Rowid) → AreAllowed sh R → IsOwn R own → WasLocated sh R own o n p born undo start head → IsFreeNow R own o n p start
    → stand_at R p ≡ stand_by head p

-- a block is left out exactly where it is one of the row's own
pub record TargetsTell (R : List Record) (p : Rowid) (head : Option Rowid) (b : ℕ) : Type 0 where
  pub other : is_left_out (blocks_by head p) b ≡ false → IsOtherThan (stand_at R p) b
  pub left_out : IsOtherThan (stand_at R p) b → is_left_out (blocks_by head p) b ≡ false

abbrev pub TargetsAreOther : Type 0
TargetsAreOther =
    (sh : Shape) (R : List Record) (own : Option ℕ) (o n : ℕ) (p : Rowid) (born : ℕ) (undo : UndoAddr) (start : ℕ) (head : Option Rowid) (b : ℕ) → AreAllowed sh R → IsOwn R own → WasLocated sh R own o n p born undo start head → IsFreeNow R own o n p start
    → TargetsTell R p head b

abbrev pub FoundAreTargets : Type 0
FoundAreTargets =
    (sh : Shape) (R : List Record) (own : Option ℕ) (o n : ℕ) (p : Rowid) (born : ℕ) (undo : UndoAddr) (start : ℕ) (head : Option Rowid) (len : ℕ) (hint : Option ℕ) (b : ℕ) → is_shape sh ≡ true → AreAllowed sh R → IsOwn R own
    → WasLocated sh R own o n p born undo start head → IsFreeNow R own o n p start → find_of sh R (sought_by own o len head p) hint ≡ Some (found.Block b)
    → MayBeTarget sh R own o (stand_at R p) len (Some b)

-- for a row that stands whole the search is the one that leaves out its only block
abbrev pub WholeRowsAreSought : Type 0
WholeRowsAreSought = (sh : Shape) (R : List Record) (own : Option ℕ) (o len : ℕ) (p : Rowid) (hint : Option ℕ) → find_of sh R (sought_by own o len None p) hint ≡ find_of sh R (record { obj = o; len = len; taker = taker_of own; but = Some p.dba ∷ [] }) hint
