-- The records of a change of a row, as functions of the list and of what was chosen, with every field given. That a change
-- begins its transaction where none is active, and takes an undo block into use where its undo asks for one, is this
-- engine's own; that rows are migrated whole is Oracle Database Concepts, "Chained and Migrated Rows".
use Rattle.std.specs.Prelude.{ℕ, suc, ◌+◌, List, [], ◌∷◌, length, Option, Some, None}
use Rattle.seg_words.specs.Types.{Rowid, UndoAddr, By, Taker, New, Open, next_room, entry_for, other_entry, UNDO_PART_SIZE}
use Rattle.redo_model.specs.Records.{Record, Insert, Update, Migrate, Return, Delete, RowPart, RowBody, BeginRecord, ReuseRecord}
use Rattle.redo_model.specs.Model.{part_addr, row_count, ended_in, entry_of, last_undo, image, block_of, undo_sequence, Content, nothing, plain_row, head_to, body_of, image_with, with_bytes, next_slot, place_of_undo, at_place, number_or_zero}

-- the Reuse of an undo block
abbrev pub reuse_of : List Record → ℕ → ReuseRecord
reuse_of R u = record { block = u; sequence = suc (undo_sequence R u) }

-- the kinds of records that change a row
pub data RowKind : Type 0 where
  Inserts : RowKind
  Updates : RowKind
  Migrates : RowKind
  Returns : RowKind
  Deletes : RowKind

abbrev pub as_record : RowKind → RowBody → Record
as_record Inserts w = Insert w
as_record Updates w = Update w
as_record Migrates w = Migrate w
as_record Returns w = Return w
as_record Deletes w = Delete w

-- what a change puts into a slot
pub record Fill : Type 0 where
  pub at : Rowid
  pub content : Content

-- a change: of which row of which table, by which kind of record, and what it puts where
pub record Change : Type 0 where
  pub kind : RowKind
  pub obj : ℕ
  pub row : ℕ
  pub fills : List Fill

-- the transaction of a change, or none where it has not begun: as a block is asked, and the list entry that it uses there
abbrev pub taker_of : Option ℕ → Taker
taker_of None = New
taker_of (Some t) = Open t

abbrev pub entry_by : List Record → Option ℕ → ℕ → Option ℕ
entry_by R None b = other_entry (ended_in R) (block_of R b)
entry_by R (Some t) b = entry_for (ended_in R) (block_of R b) t

-- the part at place i of a change by t
abbrev pub part_of : List Record → ℕ → UndoAddr → ℕ → Fill → RowPart
part_of R t a i f = record {
  dba = f.at.dba;
  slot = f.at.slot;
  entry = Some (number_or_zero (entry_by R (Some t) f.at.dba));
  new = image_with f.content (By t) (part_addr a i) (next_room (ended_in R) (image R f.at.dba f.at.slot) (length f.content.bytes));
  old = image R f.at.dba f.at.slot;
}

-- its parts, the first at place i
abbrev pub parts_of : List Record → ℕ → UndoAddr → ℕ → List Fill → List RowPart
parts_of R t a i [] = []
parts_of R t a i (f ∷ fs) = part_of R t a i f ∷ parts_of R t a (suc i) fs

-- the bytes of undo that a change needs: the same whoever makes it and wherever its undo goes
abbrev pub fills_size : List Record → List Fill → ℕ
fills_size R [] = 0
fills_size R (f ∷ fs) = (UNDO_PART_SIZE + length (image R f.at.dba f.at.slot).bytes) + fills_size R fs

abbrev pub change_size : List Record → Change → ℕ
change_size R c = fills_size R c.fills

-- the record of a change by t whose undo begins at a
abbrev pub body_at : List Record → ℕ → UndoAddr → Change → RowBody
body_at R t a c = record {
  txn = t;
  entry = number_or_zero (entry_of R t);
  obj = c.obj;
  row = c.row;
  undo = a;
  previous = place_of_undo (last_undo R t);
  parts = parts_of R t a 0 c.fills;
}

abbrev pub record_of : List Record → ℕ → UndoAddr → Change → Record
record_of R t a c = as_record c.kind (body_at R t a c)

-- the same as it is drafted before the Begin of its transaction, from the list so far
abbrev pub new_part : List Record → ℕ → UndoAddr → ℕ → Fill → RowPart
new_part R t a i f = record {
  dba = f.at.dba;
  slot = f.at.slot;
  entry = Some (number_or_zero (entry_by R None f.at.dba));
  new = image_with f.content (By t) (part_addr a i) (next_room (ended_in R) (image R f.at.dba f.at.slot) (length f.content.bytes));
  old = image R f.at.dba f.at.slot;
}

abbrev pub new_parts : List Record → ℕ → UndoAddr → ℕ → List Fill → List RowPart
new_parts R t a i [] = []
new_parts R t a i (f ∷ fs) = new_part R t a i f ∷ new_parts R t a (suc i) fs

abbrev pub new_body : List Record → BeginRecord → UndoAddr → Change → RowBody
new_body R g a c = record { txn = g.txn; entry = g.entry; obj = c.obj; row = c.row; undo = a; previous = None; parts = new_parts R g.txn a 0 c.fills }

-- where a row stands: whole in one slot, or with its head in one and its body in another
pub data Stand : Type 0 where
  Whole : Rowid → Stand
  Apart : Rowid → Rowid → Stand

-- the slot that holds the row
abbrev pub holder_of : Stand → Rowid
holder_of (Whole p) = p
holder_of (Apart head body) = body

-- the slot that a new row takes in a block
abbrev pub free_place : List Record → ℕ → Rowid
free_place R b = at_place b (next_slot R b)

abbrev pub fill : Rowid → Content → Fill
fill p c = record { at = p; content = c }

-- a new row of table o into block b
abbrev pub insert_of : List Record → ℕ → ℕ → List ℕ → Change
insert_of R o b bytes = record { kind = Inserts; obj = o; row = suc (row_count R); fills = fill (free_place R b) (plain_row (suc (row_count R)) bytes) ∷ [] }

-- row n in place
abbrev pub update_of : List Record → ℕ → ℕ → Stand → List ℕ → Change
update_of R o n x bytes = record { kind = Updates; obj = o; row = n; fills = fill (holder_of x) (with_bytes (image R (holder_of x).dba (holder_of x).slot) bytes) ∷ [] }

abbrev pub migrate_fills : ℕ → Stand → Rowid → List ℕ → List Fill
migrate_fills n (Whole p) target bytes = fill p (head_to n target) ∷ fill target (body_of n p bytes) ∷ []
migrate_fills n (Apart head body) target bytes = fill head (head_to n target) ∷ fill body nothing ∷ fill target (body_of n head bytes) ∷ []

-- row n into block b, with a head where it stood first
abbrev pub migrate_of : List Record → ℕ → ℕ → Stand → ℕ → List ℕ → Change
migrate_of R o n x b bytes = record { kind = Migrates; obj = o; row = n; fills = migrate_fills n x (free_place R b) bytes }

-- row n back to its head
abbrev pub return_of : ℕ → ℕ → Rowid → Rowid → List ℕ → Change
return_of o n head body bytes = record { kind = Returns; obj = o; row = n; fills = fill head (plain_row n bytes) ∷ fill body nothing ∷ [] }

abbrev pub delete_fills : Stand → List Fill
delete_fills (Whole p) = fill p nothing ∷ []
delete_fills (Apart head body) = fill head nothing ∷ fill body nothing ∷ []

-- row n away, with its head
abbrev pub delete_of : ℕ → ℕ → Stand → Change
delete_of o n x = record { kind = Deletes; obj = o; row = n; fills = delete_fills x }
