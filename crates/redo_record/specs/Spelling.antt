-- The spelling of a redo record: its kind, then its fields; numbers are big-endian. A redo record describes changes, block
-- by block (Oracle Database Concepts: redo records and change vectors). The bytes are this engine's own.
use Rattle.std.specs.Prelude.{ℕ, Bool, true, false, List, [], ◌∷◌, ◌++◌, length, slice_index_or, Option, Some, None, flat_map}
use Rattle.seg_words.specs.Types.{Width, w16, w32, w64, to_be_bytes, Slot, UndoAddr, UndoPlace, class_code, slot_bytes, undo_or_zeros}
use Rattle.redo_record.specs.OwnTypes.{RowPart, BackPart, RowBody, BackRecord, MoveRecord, TableRecord, MovementRecord, ExtendRecord, FormatBlockRecord, ClassRecord, AdvanceRecord, LowerRecord, BeginRecord, ReuseRecord, CommitRecord, EndedRecord, CleanRecord, Record, Table, Movement, Extend, FormatBlock, Class, Advance, Lower, Begin, Reuse, Insert, Update, Migrate, Return, Delete, Commit, Back, Ended, Move, Clean}

-- ---- fields

-- a number in so many bytes, the highest first
unfoldable pub big_endian : Width → ℕ → List ℕ
big_endian w n = to_be_bytes w n

-- 1 is on
abbrev pub flag : Bool → ℕ
flag true = 1
flag false = 0

-- a list entry, or 255 for none
abbrev pub entry_code : Option ℕ → ℕ
entry_code None = 255
entry_code (Some i) = i

-- a block, or 0 for none
abbrev pub block_or_zero : Option ℕ → ℕ
block_or_zero None = 0
block_or_zero (Some b) = b

abbrev pub address : UndoAddr → List ℕ
address a = big_endian w32 a.block ++ (big_endian w64 a.seq ++ (a.nth ∷ []))

-- an undo place, or zeros for none
abbrev pub place_or_zeros : Option UndoPlace → UndoPlace
place_or_zeros None = record { block = 0; nth = 0 }
place_or_zeros (Some p) = p

abbrev pub place_bytes : UndoPlace → List ℕ
place_bytes p = big_endian w32 p.block ++ (p.nth ∷ [])

-- the slot and its row
unfoldable pub image : Slot → List ℕ
image s = slot_bytes s ++ s.bytes

-- ---- rows

abbrev pub part_head : ℕ → ℕ → Option ℕ → List ℕ
part_head dba slot entry = big_endian w32 dba ++ (slot ∷ entry_code entry ∷ [])

abbrev pub row_part : RowPart → List ℕ
row_part p = part_head p.dba p.slot p.entry ++ (image p.new ++ image p.old)

abbrev pub back_part : BackPart → List ℕ
back_part p = part_head p.dba p.slot p.entry ++ image p.new

-- what a row record, a Back and a Move begin with
abbrev pub row_head : ℕ → ℕ → ℕ → ℕ → UndoAddr → Option UndoPlace → List ℕ
row_head txn entry obj row undo previous =
    big_endian w64 txn ++ (entry ∷ obj ∷ big_endian w64 row ++ (address undo ++ place_bytes (place_or_zeros previous)))

abbrev pub row_parts : List RowPart → List ℕ
row_parts ps = length ps ∷ flat_map row_part ps

abbrev pub back_parts : List BackPart → List ℕ
back_parts ps = length ps ∷ flat_map back_part ps

abbrev pub row_body : RowBody → List ℕ
row_body b = row_head b.txn b.entry b.obj b.row b.undo b.previous ++ row_parts b.parts

abbrev pub back : BackRecord → List ℕ
back b = row_head b.txn b.entry b.obj b.row b.undo b.previous ++ (back_parts b.parts ++ address (undo_or_zeros b.last))

-- a move has transaction 0, entry 255 and no earlier undo
abbrev pub moved : MoveRecord → List ℕ
moved m = row_head 0 255 m.obj m.row m.undo None ++ (row_parts m.parts ++ big_endian w64 m.number)

-- ---- tables and their space

abbrev pub table : TableRecord → List ℕ
table t = t.obj ∷ big_endian w32 t.header ++ (t.pctfree ∷ length t.name ∷ t.name)

abbrev pub movement : MovementRecord → List ℕ
movement m = m.obj ∷ big_endian w32 m.header ++ (flag m.on ∷ [])

abbrev pub extend : ExtendRecord → List ℕ
extend e = e.obj ∷ big_endian w32 e.header ++ (big_endian w16 e.index ++ (big_endian w32 e.extent ++ (big_endian w32 e.l2 ++ big_endian w32 e.l3)))

-- where a block's code stands in the bitmaps, and the best codes there
abbrev pub in_bitmaps : ℕ → ℕ → ℕ → ℕ → ℕ → List ℕ
in_bitmaps l2 l3 index best_of_l1 best_of_l2 = big_endian w32 l2 ++ (big_endian w32 l3 ++ (big_endian w16 index ++ (best_of_l1 ∷ best_of_l2 ∷ [])))

abbrev pub format_block : FormatBlockRecord → List ℕ
format_block f = f.obj ∷ big_endian w32 f.dba ++ in_bitmaps f.l2 f.l3 f.index f.best_of_l1 f.best_of_l2

abbrev pub class : ClassRecord → List ℕ
class c = c.obj ∷ big_endian w32 c.dba ++ (class_code c.class ∷ in_bitmaps c.l2 c.l3 c.index c.best_of_l1 c.best_of_l2)

abbrev pub advance : AdvanceRecord → List ℕ
advance a = a.obj ∷ big_endian w32 a.header ++ (big_endian w32 a.low ++ big_endian w32 a.high)

abbrev pub three_blocks : List (Option ℕ) → List ℕ
three_blocks bs = big_endian w32 (block_or_zero (slice_index_or bs 0 None)) ++ (big_endian w32 (block_or_zero (slice_index_or bs 1 None)) ++ big_endian w32 (block_or_zero (slice_index_or bs 2 None)))

abbrev pub three_codes : List ℕ → List ℕ
three_codes cs = slice_index_or cs 0 0 ∷ slice_index_or cs 1 0 ∷ slice_index_or cs 2 0 ∷ []

abbrev pub extents : List ℕ → List ℕ
extents xs = big_endian w16 (length xs) ++ flat_map (big_endian w32) xs

-- what a Lower says of the kept bitmap blocks and of the released extents
abbrev pub lowered : LowerRecord → List ℕ
lowered l = three_blocks l.l2 ++ (big_endian w32 l.l3 ++ (three_codes l.bests ++ extents l.released))

abbrev pub lower : LowerRecord → List ℕ
lower l = l.obj ∷ big_endian w32 l.header ++ (big_endian w64 l.lowering ++ (big_endian w16 l.kept ++ (big_endian w32 l.low ++ (big_endian w32 l.high ++ lowered l))))

-- ---- transactions

abbrev pub begin : BeginRecord → List ℕ
begin b = big_endian w64 b.txn ++ (b.session ∷ b.entry ∷ big_endian w64 b.control)

abbrev pub reuse : ReuseRecord → List ℕ
reuse r = big_endian w32 r.block ++ big_endian w64 r.sequence

abbrev pub commit : CommitRecord → List ℕ
commit c = big_endian w64 c.txn ++ (big_endian w64 c.number ++ (c.entry ∷ []))

abbrev pub ended : EndedRecord → List ℕ
ended e = big_endian w64 e.txn ++ (e.entry ∷ [])

abbrev pub ended_transaction : ℕ × ℕ → List ℕ
ended_transaction t = big_endian w64 t.0 ++ big_endian w64 t.1

abbrev pub clean : CleanRecord → List ℕ
clean c = big_endian w32 c.dba ++ (length c.ended ∷ flat_map ended_transaction c.ended)

-- ---- records

-- the number of a record's kind
abbrev pub kind_of : Record → ℕ
kind_of (Table t) = 1
kind_of (Movement m) = 2
kind_of (Extend e) = 3
kind_of (FormatBlock f) = 4
kind_of (Class c) = 5
kind_of (Advance a) = 6
kind_of (Lower l) = 7
kind_of (Begin b) = 8
kind_of (Reuse r) = 9
kind_of (Insert b) = 10
kind_of (Update b) = 11
kind_of (Migrate b) = 12
kind_of (Return b) = 13
kind_of (Delete b) = 14
kind_of (Commit c) = 15
kind_of (Back b) = 16
kind_of (Ended e) = 17
kind_of (Move m) = 18
kind_of (Clean c) = 19

-- what stands behind it
abbrev pub fields : Record → List ℕ
fields (Table t) = table t
fields (Movement m) = movement m
fields (Extend e) = extend e
fields (FormatBlock f) = format_block f
fields (Class c) = class c
fields (Advance a) = advance a
fields (Lower l) = lower l
fields (Begin b) = begin b
fields (Reuse r) = reuse r
fields (Insert b) = row_body b
fields (Update b) = row_body b
fields (Migrate b) = row_body b
fields (Return b) = row_body b
fields (Delete b) = row_body b
fields (Commit c) = commit c
fields (Back b) = back b
fields (Ended e) = ended e
fields (Move m) = moved m
fields (Clean c) = clean c

abbrev pub spelling : Record → List ℕ
spelling rec = kind_of rec ∷ fields rec
