-- A slot that is spelled is read.
use Rattle.std.proofs.Common.{◌≡◌, ℕ, zero, suc, ◌<◌, ◌^◌, length, Option, Some, None, refl, arith, w16, w32, w64}
use Rattle.seg_words.proofs.Lemmas.{from_be_bytes-to_be_bytes_2, from_be_bytes-to_be_bytes_4, from_be_bytes-to_be_bytes_8}
use Rattle.seg_words.specs.Types.{Slot, Kind, Empty, Row, Head, Body, Writer, By, At, UndoAddr, Rowid, number_in, kind_code, writer_tag, writer_number, undo_or_zeros, link_or_zeros, slot_bytes}
use Rattle.page_bytes.specs.Types.{SlotFields, fields_in, kind_as, writer_as, undo_as, link_as, row_len, slot_as, UndoFits, LinkFits, IsSlot}

-- the fields of a slot
abbrev pub fields_of : Slot → SlotFields
fields_of s = record {
  kind = kind_code s.kind;
  tag = writer_tag s.writer;
  writer = writer_number s.writer;
  undo_block = (undo_or_zeros s.undo).block;
  undo_seq = (undo_or_zeros s.undo).seq;
  undo_nth = (undo_or_zeros s.undo).nth;
  row = s.row;
  link_block = (link_or_zeros s.link).dba;
  link_slot = (link_or_zeros s.link).slot;
  len = length s.bytes;
  room = s.room;
}

pub length-slot_bytes : (s : Slot) → length (slot_bytes s) ≡ 40
length-slot_bytes s = refl

undo_block_fits : (o : Option UndoAddr) → UndoFits o → (undo_or_zeros o).block < 2 ^ 32
undo_block_fits None h = omega arith
undo_block_fits (Some a) h = h.1

undo_seq_fits : (o : Option UndoAddr) → UndoFits o → (undo_or_zeros o).seq < 2 ^ 64
undo_seq_fits None h = omega arith
undo_seq_fits (Some a) h = h.2

link_fits : (o : Option Rowid) → LinkFits o → (link_or_zeros o).dba < 2 ^ 32
link_fits None h = omega arith
link_fits (Some r) h = h.1

pub fields_again : (s : Slot) → IsSlot s → fields_in (slot_bytes s) ≡ fields_of s
fields_again s fits =
    let e1 : number_in w64 (slot_bytes s) 2 ≡ writer_number s.writer = from_be_bytes-to_be_bytes_8 (writer_number s.writer) fits.writer in
    let e2 : number_in w32 (slot_bytes s) 10 ≡ (undo_or_zeros s.undo).block = from_be_bytes-to_be_bytes_4 (undo_or_zeros s.undo).block (undo_block_fits s.undo fits.undo) in
    let e3 : number_in w64 (slot_bytes s) 14 ≡ (undo_or_zeros s.undo).seq = from_be_bytes-to_be_bytes_8 (undo_or_zeros s.undo).seq (undo_seq_fits s.undo fits.undo) in
    let e4 : number_in w64 (slot_bytes s) 23 ≡ s.row = from_be_bytes-to_be_bytes_8 s.row fits.row in
    let e5 : number_in w32 (slot_bytes s) 31 ≡ (link_or_zeros s.link).dba = from_be_bytes-to_be_bytes_4 (link_or_zeros s.link).dba (link_fits s.link fits.link) in
    let e6 : number_in w16 (slot_bytes s) 36 ≡ length s.bytes = from_be_bytes-to_be_bytes_2 (length s.bytes) fits.bytes in
    let e7 : number_in w16 (slot_bytes s) 38 ≡ s.room = from_be_bytes-to_be_bytes_2 s.room fits.room_fits in
    rw (e1, e2, e3, e4, e5, e6, e7) refl

some_undo : (b seq nth : ℕ) → 0 < b → undo_as b seq nth ≡ Some (record { block = b; seq = seq; nth = nth })
some_undo zero seq nth h = absurd (omega arith)
some_undo (suc b) seq nth h = refl

some_link : (d slot : ℕ) → 0 < d → link_as d slot ≡ Some (record { dba = d; slot = slot })
some_link zero slot h = absurd (omega arith)
some_link (suc d) slot h = refl

undo_again : (o : Option UndoAddr) → UndoFits o → undo_as (undo_or_zeros o).block (undo_or_zeros o).seq (undo_or_zeros o).nth ≡ o
undo_again None h = refl
undo_again (Some a) h = some_undo a.block a.seq a.nth h.0

link_again : (o : Option Rowid) → LinkFits o → link_as (link_or_zeros o).dba (link_or_zeros o).slot ≡ o
link_again None h = refl
link_again (Some r) h = some_link r.dba r.slot h.0

kind_again : (k : Kind) → kind_as (kind_code k) ≡ k
kind_again Empty = refl
kind_again Row = refl
kind_again Head = refl
kind_again Body = refl

writer_again : (w : Writer) → writer_as (writer_tag w) (writer_number w) ≡ w
writer_again (By t) = refl
writer_again (At c) = refl

pub slot_again : (s : Slot) → IsSlot s → slot_as (fields_of s) s.bytes ≡ s
slot_again s fits = rw (kind_again s.kind, writer_again s.writer, undo_again s.undo fits.undo, link_again s.link fits.link, fits.room) refl

pub row_len_again : (s : Slot) → IsSlot s → row_len (fields_of s) ≡ length s.bytes
row_len_again s fits = rw (kind_again s.kind) fits.len
