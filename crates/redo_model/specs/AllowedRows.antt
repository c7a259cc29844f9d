-- When a row record or a Back may follow the records R, and what its fields must be. Rows that outgrow their block are
-- migrated whole and keep their rowid (Oracle Database Concepts, "Chained and Migrated Rows"); the return of a migrated
-- row to its first slot, rooms, and the order of parts (head, old body, target) are this engine's own.
use Rattle.std.specs.Prelude.{◌≡◌, ◌≢◌, ℕ, suc, ◌≤◌, true, false, List, [], ◌∷◌, length, Option, Some, None, MatchOption}
use Rattle.seg_words.specs.Types.{Shape, Kind, Empty, Row, Head, Body, Writer, By, At, Rowid, UndoAddr, UndoPlace, Slot, Open, next_room, slot_to_use, entry_for, LONGEST_ROW}
use Rattle.redo_model.specs.Records.{Record, RowPart, BackPart, RowBody, BackRecord}
use Rattle.redo_model.specs.Effects.{Step, part_addr}
use Rattle.redo_model.specs.Ordinals.{commit_count, row_count}
use Rattle.redo_model.specs.Transactions.{is_active, ended_in, entry_of}
use Rattle.redo_model.specs.Steps.{standing, newest_of, newest_on, undo_of_step, last_undo, without_step}
use Rattle.redo_model.specs.Tables.{holds_row, view}
use Rattle.redo_model.specs.Slots.{image}
use Rattle.redo_model.specs.Blocks.{block_of, fits_in, Fits, Takes}
use Rattle.redo_model.specs.Segments.{IsTable, IsRowBlock, pctfree_of}
use Rattle.redo_model.specs.Undo.{current_undo, undo_sequence, undo_parts, fits_undo}

-- what a slot is to hold
pub record Content : Type 0 where
  pub kind : Kind
  pub row : ℕ
  pub link : Option Rowid
  pub bytes : List ℕ

abbrev pub at_place : ℕ → ℕ → Rowid
at_place b k = record { dba = b; slot = k }

abbrev pub nothing : Content
nothing = record { kind = Empty; row = 0; link = None; bytes = [] }

abbrev pub plain_row : ℕ → List ℕ → Content
plain_row n bytes = record { kind = Row; row = n; link = None; bytes = bytes }

-- the pointer to the body of a migrated row
abbrev pub head_to : ℕ → Rowid → Content
head_to n body = record { kind = Head; row = n; link = Some body; bytes = [] }

-- the body of a migrated row, with its head
abbrev pub body_of : ℕ → Rowid → List ℕ → Content
body_of n head bytes = record { kind = Body; row = n; link = Some head; bytes = bytes }

-- an image with this content
abbrev pub image_with : Content → Writer → UndoAddr → ℕ → Slot
image_with c w a room = record { kind = c.kind; writer = w; undo = Some a; row = c.row; link = c.link; bytes = c.bytes; room = room }

-- The part at place i of a record of a transaction: the old image is the one that stands there, the new one has the
-- part's own undo address, and the greatest length since before the transaction's first change as its room.
abbrev pub txn_part : List Record → RowBody → ℕ → ℕ → ℕ → ℕ → Content → RowPart
txn_part R w i entry b k c = record {
  dba = b;
  slot = k;
  entry = Some entry;
  new = image_with c (By w.txn) (part_addr w.undo i) (next_room (ended_in R) (image R b k) (length c.bytes));
  old = image R b k;
}

-- a record states the current undo block, its sequence, and as its first place the number of parts there, and fits
pub record StatesUndo (R : List Record) (a : UndoAddr) (ps : List RowPart) : Type 0 where
  pub current : current_undo R ≡ Some a.block
  pub sequence : a.seq ≡ undo_sequence R a.block
  pub place : a.nth ≡ length (undo_parts R a.block)
  pub fits : fits_undo R ps a.block ≡ true

abbrev pub place_of_undo : Option UndoAddr → Option UndoPlace
place_of_undo None = None
place_of_undo (Some a) = Some (record { block = a.block; nth = a.nth })

-- what every row record of a transaction needs
pub record MayChange (R : List Record) (w : RowBody) : Type 0 where
  pub table : IsTable R w.obj
  pub active : is_active R w.txn ≡ true
  pub entry : entry_of R w.txn ≡ Some w.entry
  pub undo : StatesUndo R w.undo w.parts
  pub previous : w.previous ≡ place_of_undo (last_undo R w.txn)

-- a row has 1 to 1,800 bytes
pub record IsRowSize (bytes : List ℕ) : Type 0 where
  pub least : 1 ≤ length bytes
  pub most : length bytes ≤ LONGEST_ROW

-- the list entry that a transaction uses in a block
pub record Enters (R : List Record) (t b entry : ℕ) : Type 0 where
  pub entry_is : entry_for (ended_in R) (block_of R b) t ≡ Some entry

-- the slot that a new row takes in a block
abbrev pub next_slot : List Record → ℕ → ℕ
next_slot R b = slot_to_use (ended_in R) (block_of R b)

pub record InsertAllowed (sh : Shape) (R : List Record) (w : RowBody) : Type 0 where
  pub change : MayChange R w
  pub number : w.row ≡ suc (row_count R)
  pub bytes : List ℕ
  pub size : IsRowSize bytes
  pub block : ℕ
  pub here : IsRowBlock sh R w.obj block
  pub takes : Takes R (pctfree_of R w.obj) block (length bytes) (Open w.txn)
  pub entry : ℕ
  pub enters : Enters R w.txn block entry
  pub parts : w.parts ≡ txn_part R w 0 entry block (next_slot R block) (plain_row w.row bytes) ∷ []

-- what t writes over isn't another active transaction's
abbrev pub IsFreeFor : List Record → ℕ → Writer → Type 0
IsFreeFor R t (By u) = is_active R u ≡ true → u ≡ t
IsFreeFor R t (At c) = Unit {0}

-- a row may be changed: it is in the transaction's view at all commits, and its last record not taken back isn't another
-- active transaction's
pub record MayChangeRow (R : List Record) (w : RowBody) : Type 0 where
  pub change : MayChange R w
  pub was : List ℕ
  pub there : view R w.obj (commit_count R) w.txn w.row ≡ Some was
  pub free : MatchOption (newest_on (standing R) w.row) (Unit {0}) (λ st. IsFreeFor R w.txn st.by)

-- row n stands whole in a slot
pub record IsPlain (R : List Record) (n b k : ℕ) : Type 0 where
  pub kind : (image R b k).kind ≡ Row
  pub row : (image R b k).row ≡ n

-- row n is migrated: its head and its body name each other
pub record IsMigrated (R : List Record) (n head_block head_slot body_block body_slot : ℕ) : Type 0 where
  pub head_kind : (image R head_block head_slot).kind ≡ Head
  pub head_row : (image R head_block head_slot).row ≡ n
  pub head_link : (image R head_block head_slot).link ≡ Some (at_place body_block body_slot)
  pub body_kind : (image R body_block body_slot).kind ≡ Body
  pub body_row : (image R body_block body_slot).row ≡ n
  pub body_link : (image R body_block body_slot).link ≡ Some (at_place head_block head_slot)

-- the content of a slot with other bytes
abbrev pub with_bytes : Slot → List ℕ → Content
with_bytes i bytes = record { kind = i.kind; row = i.row; link = i.link; bytes = bytes }

-- in place, where the row or the body of the row stands and the new bytes fit
pub record UpdateAllowed (sh : Shape) (R : List Record) (w : RowBody) : Type 0 where
  pub change : MayChangeRow R w
  pub bytes : List ℕ
  pub size : IsRowSize bytes
  pub block : ℕ
  pub slot : ℕ
  pub holds : holds_row (image R block slot).kind ≡ true
  pub row : (image R block slot).row ≡ w.row
  pub fits : Fits R block slot (length bytes) (Open w.txn)
  pub entry : ℕ
  pub enters : Enters R w.txn block entry
  pub parts : w.parts ≡ txn_part R w 0 entry block slot (with_bytes (image R block slot) bytes) ∷ []

-- the block to which a row is migrated
pub record TargetAllowed (sh : Shape) (R : List Record) (w : RowBody) (len target entry : ℕ) : Type 0 where
  pub here : IsRowBlock sh R w.obj target
  pub takes : Takes R (pctfree_of R w.obj) target len (Open w.txn)
  pub enters : Enters R w.txn target entry

-- a row that stands whole leaves a head, and has its body in another block
pub record MigratePlain (sh : Shape) (R : List Record) (w : RowBody) : Type 0 where
  pub change : MayChangeRow R w
  pub bytes : List ℕ
  pub size : IsRowSize bytes
  pub block : ℕ
  pub slot : ℕ
  pub plain : IsPlain R w.row block slot
  pub no_room : fits_in R block slot (length bytes) (Open w.txn) ≡ false
  pub entry : ℕ
  pub enters : Enters R w.txn block entry
  pub target : ℕ
  pub target_entry : ℕ
  pub target_allowed : TargetAllowed sh R w (length bytes) target target_entry
  pub other : target ≢ block
  pub parts : w.parts ≡ txn_part R w 0 entry block slot (head_to w.row (at_place target (next_slot R target)))
      ∷ txn_part R w 1 target_entry target (next_slot R target) (body_of w.row (at_place block slot) bytes) ∷ []

-- a row that is migrated, and fits neither at its body nor at its head, has its body in a third block
pub record MigrateAgain (sh : Shape) (R : List Record) (w : RowBody) : Type 0 where
  pub change : MayChangeRow R w
  pub bytes : List ℕ
  pub size : IsRowSize bytes
  pub head_block : ℕ
  pub head_slot : ℕ
  pub body_block : ℕ
  pub body_slot : ℕ
  pub migrated : IsMigrated R w.row head_block head_slot body_block body_slot
  pub no_room : fits_in R body_block body_slot (length bytes) (Open w.txn) ≡ false
  pub no_room_at_head : fits_in R head_block head_slot (length bytes) (Open w.txn) ≡ false
  pub head_entry : ℕ
  pub head_enters : Enters R w.txn head_block head_entry
  pub body_entry : ℕ
  pub body_enters : Enters R w.txn body_block body_entry
  pub target : ℕ
  pub target_entry : ℕ
  pub target_allowed : TargetAllowed sh R w (length bytes) target target_entry
  pub not_head : target ≢ head_block
  pub not_body : target ≢ body_block
  pub parts : w.parts ≡ txn_part R w 0 head_entry head_block head_slot (head_to w.row (at_place target (next_slot R target)))
      ∷ txn_part R w 1 body_entry body_block body_slot nothing
      ∷ txn_part R w 2 target_entry target (next_slot R target) (body_of w.row (at_place head_block head_slot) bytes) ∷ []

pub data MigrateAllowed (sh : Shape) (R : List Record) (w : RowBody) : Type 0 where
  migrates_plain : MigratePlain sh R w → MigrateAllowed sh R w
  migrates_again : MigrateAgain sh R w → MigrateAllowed sh R w

-- a migrated row that doesn't fit at its body, and fits at its head, stands whole there again
pub record ReturnAllowed (sh : Shape) (R : List Record) (w : RowBody) : Type 0 where
  pub change : MayChangeRow R w
  pub bytes : List ℕ
  pub size : IsRowSize bytes
  pub head_block : ℕ
  pub head_slot : ℕ
  pub body_block : ℕ
  pub body_slot : ℕ
  pub migrated : IsMigrated R w.row head_block head_slot body_block body_slot
  pub no_room : fits_in R body_block body_slot (length bytes) (Open w.txn) ≡ false
  pub fits : Fits R head_block head_slot (length bytes) (Open w.txn)
  pub head_entry : ℕ
  pub head_enters : Enters R w.txn head_block head_entry
  pub body_entry : ℕ
  pub body_enters : Enters R w.txn body_block body_entry
  pub parts : w.parts ≡ txn_part R w 0 head_entry head_block head_slot (plain_row w.row bytes)
      ∷ txn_part R w 1 body_entry body_block body_slot nothing ∷ []

pub record DeletePlain (sh : Shape) (R : List Record) (w : RowBody) : Type 0 where
  pub change : MayChangeRow R w
  pub block : ℕ
  pub slot : ℕ
  pub plain : IsPlain R w.row block slot
  pub entry : ℕ
  pub enters : Enters R w.txn block entry
  pub parts : w.parts ≡ txn_part R w 0 entry block slot nothing ∷ []

pub record DeleteMigrated (sh : Shape) (R : List Record) (w : RowBody) : Type 0 where
  pub change : MayChangeRow R w
  pub head_block : ℕ
  pub head_slot : ℕ
  pub body_block : ℕ
  pub body_slot : ℕ
  pub migrated : IsMigrated R w.row head_block head_slot body_block body_slot
  pub head_entry : ℕ
  pub head_enters : Enters R w.txn head_block head_entry
  pub body_entry : ℕ
  pub body_enters : Enters R w.txn body_block body_entry
  pub parts : w.parts ≡ txn_part R w 0 head_entry head_block head_slot nothing
      ∷ txn_part R w 1 body_entry body_block body_slot nothing ∷ []

pub data DeleteAllowed (sh : Shape) (R : List Record) (w : RowBody) : Type 0 where
  deletes_plain : DeletePlain sh R w → DeleteAllowed sh R w
  deletes_migrated : DeleteMigrated sh R w → DeleteAllowed sh R w

-- the parts of a Back: the old images of the record that it takes back are its new ones
abbrev pub taken_back : List RowPart → List BackPart
taken_back [] = []
taken_back (p ∷ ps) = record { dba = p.dba; slot = p.slot; entry = p.entry; new = p.old } ∷ taken_back ps

-- the newest row record of the transaction that isn't taken back, taken back
pub record BackAllowed (R : List Record) (k : BackRecord) : Type 0 where
  pub active : is_active R k.txn ≡ true
  pub entry : entry_of R k.txn ≡ Some k.entry
  pub step : Step
  pub newest : newest_of (standing R) k.txn ≡ Some step
  pub obj : k.obj ≡ step.obj
  pub row : k.row ≡ step.row
  pub undo : k.undo ≡ step.undo
  pub previous : k.previous ≡ step.previous
  pub parts : k.parts ≡ taken_back step.parts
  pub last : k.last ≡ undo_of_step (newest_of (without_step k.undo (standing R)) k.txn)
