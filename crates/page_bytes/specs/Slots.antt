-- What the 40 bytes of a slot read as. The row of a slot stands elsewhere.
use Rattle.std.specs.Prelude.{◌≡◌, ℕ, zero, suc, ◌<◌, ◌^◌, List, length, max, slice_index, Option, Some, None}
use Rattle.seg_words.specs.Types.{w16, w32, w64, Slot, UndoAddr, Rowid, Kind, Empty, Row, Head, Body, Writer, By, At, number_in, writer_number}
use Rattle.page_bytes.specs.declared.slot.SlotFields.{SlotFields}

-- the fields as they stand in 40 bytes
abbrev pub fields_in : List ℕ → SlotFields
fields_in g = record {
  kind = slice_index g 0;
  tag = slice_index g 1;
  writer = number_in w64 g 2;
  undo_block = number_in w32 g 10;
  undo_seq = number_in w64 g 14;
  undo_nth = slice_index g 22;
  row = number_in w64 g 23;
  link_block = number_in w32 g 31;
  link_slot = slice_index g 35;
  len = number_in w16 g 36;
  room = number_in w16 g 38;
}

-- What they read as: an unknown code as the first one, block 0 as none.
abbrev pub kind_as : ℕ → Kind
kind_as zero = Empty
kind_as (suc zero) = Row
kind_as (suc (suc zero)) = Head
kind_as (suc (suc (suc zero))) = Body
kind_as (suc (suc (suc (suc n)))) = Empty

abbrev pub writer_as : ℕ → ℕ → Writer
writer_as zero n = At n
writer_as (suc zero) n = By n
writer_as (suc (suc k)) n = At n

abbrev pub undo_as : ℕ → ℕ → ℕ → Option UndoAddr
undo_as zero seq nth = None
undo_as (suc b) seq nth = Some (record { block = suc b; seq = seq; nth = nth })

abbrev pub link_as : ℕ → ℕ → Option Rowid
link_as zero slot = None
link_as (suc d) slot = Some (record { dba = suc d; slot = slot })

-- an Empty slot and a Head have no row
abbrev pub len_as : Kind → ℕ → ℕ
len_as Empty n = 0
len_as Row n = n
len_as Head n = 0
len_as Body n = n

-- the room is at least the row's length, and just that where the writer's commit number is known
abbrev pub room_as : Writer → ℕ → ℕ → ℕ
room_as (At c) len room = len
room_as (By t) len room = max len room

abbrev pub row_len : SlotFields → ℕ
row_len f = len_as (kind_as f.kind) f.len

-- the slot with these fields and this row
abbrev pub slot_as : SlotFields → List ℕ → Slot
slot_as f row = record {
  kind = kind_as f.kind;
  writer = writer_as f.tag f.writer;
  undo = undo_as f.undo_block f.undo_seq f.undo_nth;
  row = f.row;
  link = link_as f.link_block f.link_slot;
  bytes = row;
  room = room_as (writer_as f.tag f.writer) (length row) f.room;
}

-- the slots that have a spelling
abbrev pub UndoFits : Option UndoAddr → Type 0
UndoFits None = Unit {0}
UndoFits (Some a) = (0 < a.block) × (a.block < 2 ^ 32) × (a.seq < 2 ^ 64) × (a.nth < 2 ^ 8)

abbrev pub LinkFits : Option Rowid → Type 0
LinkFits None = Unit {0}
LinkFits (Some r) = (0 < r.dba) × (r.dba < 2 ^ 32) × (r.slot < 2 ^ 8)

pub record IsSlot (s : Slot) : Type 0 where
  pub writer : writer_number s.writer < 2 ^ 64
  pub undo : UndoFits s.undo
  pub row : s.row < 2 ^ 64
  pub link : LinkFits s.link
  pub bytes : length s.bytes < 2 ^ 16
  pub len : len_as s.kind (length s.bytes) ≡ length s.bytes
  pub room_fits : s.room < 2 ^ 16
  pub room : room_as s.writer (length s.bytes) s.room ≡ s.room

-- The form of the slots that have a spelling, as far as the types of their numbers don't say it: what is there doesn't stand
-- at block 0, which is written for none, an Empty slot and a Head have no row, and the room is as the writer asks.
abbrev pub UndoIsThere : Option UndoAddr → Type 0
UndoIsThere None = Unit {0}
UndoIsThere (Some a) = 0 < a.block

abbrev pub LinkIsThere : Option Rowid → Type 0
LinkIsThere None = Unit {0}
LinkIsThere (Some r) = 0 < r.dba

pub record HasSlotForm (s : Slot) : Type 0 where
  pub undo : UndoIsThere s.undo
  pub link : LinkIsThere s.link
  pub len : len_as s.kind (length s.bytes) ≡ length s.bytes
  pub room : room_as s.writer (length s.bytes) s.room ≡ s.room
