-- The record that moves a row, as a function of the list and of what was chosen, with every field given, and the list with it: a
-- Reuse stands before it where its undo asks for one. That a move is a commit of its own without changes is this engine's own.
use Rattle.std.specs.Prelude.{ℕ, suc, ◌≤◌, List, [], ◌∷◌, length, Option, Some, None}
use Rattle.seg_words.specs.Types.{Shape, Kind, Empty, Row, Head, Body, Rowid, UndoAddr, At, BLOCK_ROOM}
use Rattle.redo_model.specs.Records.{Record, Move, Reuse, RowPart, MoveRecord, ReuseRecord}
use Rattle.redo_model.specs.Model.{IsLawful, MoveAllowed, StatesUndo, commit_count, image, image_with, nothing, part_addr, plain_row}
use Rattle.change_laws.specs.Types.{Fill, Stand, Whole, Apart, fill, fills_size, spot_for, undo_start, Spot, Here, Next, Full, IsFull}

-- the part at place i: written at the move's commit number, with no list entry
abbrev pub moved_part : List Record → ℕ → UndoAddr → ℕ → Fill → RowPart
moved_part R number a i f = record {
  dba = f.at.dba;
  slot = f.at.slot;
  entry = None;
  new = image_with f.content (At number) (part_addr a i) (length f.content.bytes);
  old = image R f.at.dba f.at.slot;
}

-- the first at place i
abbrev pub moved_parts : List Record → ℕ → UndoAddr → ℕ → List Fill → List RowPart
moved_parts R number a i [] = []
moved_parts R number a i (f ∷ fs) = moved_part R number a i f ∷ moved_parts R number a (suc i) fs

-- of row n of table o, with its undo from a on
abbrev pub move_of : List Record → ℕ → ℕ → UndoAddr → List Fill → MoveRecord
move_of R o n a fs = record { obj = o; row = n; undo = a; number = suc (commit_count R); parts = moved_parts R (suc (commit_count R)) a 0 fs }

-- where the row of a slot stands
abbrev pub row_stand : Kind → Option Rowid → Rowid → Stand
row_stand Empty link at = Whole at
row_stand Row link at = Whole at
row_stand Head None at = Whole at
row_stand Head (Some body) at = Apart at body
row_stand Body None at = Whole at
row_stand Body (Some head) at = Apart head at

-- what becomes of the slots of row n: the body becomes the row, or all of them become Empty and the row goes to another place
abbrev pub to_body_fills : ℕ → Rowid → Rowid → List ℕ → List Fill
to_body_fills n head body bytes = fill head nothing ∷ fill body (plain_row n bytes) ∷ []

abbrev pub to_block_fills : ℕ → Stand → Rowid → List ℕ → List Fill
to_block_fills n (Whole p) target bytes = fill p nothing ∷ fill target (plain_row n bytes) ∷ []
to_block_fills n (Apart head body) target bytes = fill head nothing ∷ fill body nothing ∷ fill target (plain_row n bytes) ∷ []

-- the list with the Move, none where undo is full
abbrev pub moved_at : List Record → ℕ → ℕ → List Fill → Spot → Option (List Record)
moved_at R o n fs (Here a) = Some (Move (move_of R o n a fs) ∷ R)
moved_at R o n fs (Next q) = Some (Move (move_of (Reuse q ∷ R) o n (undo_start q) fs) ∷ Reuse q ∷ R)
moved_at R o n fs (Full hs) = None

abbrev pub list_moved : Shape → List Record → ℕ → ℕ → List Fill → Option (List Record)
list_moved sh R o n fs = moved_at R o n fs (spot_for sh R (fills_size R fs))

-- wherever its undo goes, the Move is allowed, now and after a Reuse
pub record MoveReady (sh : Shape) (R : List Record) (o n : ℕ) (fs : List Fill) : Type 0 where
  pub small : fills_size R fs ≤ BLOCK_ROOM
  pub now : (a : UndoAddr) → StatesUndo R a (moved_parts R (suc (commit_count R)) a 0 fs) → MoveAllowed sh R (move_of R o n a fs)
  pub after : (q : ReuseRecord) (a : UndoAddr) → StatesUndo (Reuse q ∷ R) a (moved_parts (Reuse q ∷ R) (suc (commit_count (Reuse q ∷ R))) a 0 fs) → MoveAllowed sh (Reuse q ∷ R) (move_of (Reuse q ∷ R) o n a fs)

-- so the list with it is lawful, and where undo is full for it no such record is
abbrev pub MovedAt : Shape → List Record → ℕ → ℕ → List Fill → Spot → Type 0
MovedAt sh R o n fs (Here a) = IsLawful sh (Move (move_of R o n a fs) ∷ R)
MovedAt sh R o n fs (Next q) = IsLawful sh (Move (move_of (Reuse q ∷ R) o n (undo_start q) fs) ∷ Reuse q ∷ R)
MovedAt sh R o n fs (Full hs) = IsFull sh R (fills_size R fs) hs
