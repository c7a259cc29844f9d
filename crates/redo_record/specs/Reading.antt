-- Reading redo records.
use Rattle.std.specs.Prelude.{ℕ, zero, suc, Bool, true, false, ◌==◌, ◌&&◌, nat_le, List, [], ◌∷◌, Option, Some, None, is_none, if◌then◌else◌}
use Rattle.seg_words.specs.Types.{w16, w32, w64, Slot, Kind, Writer, UndoAddr, Rowid, UndoPlace, class_from, kind_from, writer_from, is_name, MOST_PCTFREE, MOST_TABLES}
use Rattle.redo_record.specs.OwnTypes.{RowPart, BackPart, RowBody, BackRecord, MoveRecord, TableRecord, MovementRecord, ExtendRecord, FormatBlockRecord, ClassRecord, AdvanceRecord, LowerRecord, BeginRecord, ReuseRecord, CommitRecord, EndedRecord, CleanRecord, Record, Table, Movement, Extend, FormatBlock, Class, Advance, Lower, Begin, Reuse, Insert, Update, Migrate, Return, Delete, Commit, Back, Ended, Move, Clean}
use Rattle.redo_record.specs.Forms.{Reader, ◌>>=◌, byte, number, text, both, chosen, made, tested, many}
use Rattle.seg_base.specs.declared.class.Class as the

-- ---- fields

abbrev pub is_obj : ℕ → Bool
is_obj n = nat_le 1 n && nat_le n MOST_TABLES

unfoldable pub obj_at : Reader ℕ
obj_at = tested is_obj byte

abbrev pub is_code : ℕ → Bool
is_code n = nat_le n 5

unfoldable pub code_at : Reader ℕ
code_at = tested is_code byte

abbrev pub flag_from : ℕ → Option Bool
flag_from zero = Some false
flag_from (suc zero) = Some true
flag_from (suc (suc n)) = None

unfoldable pub flag_at : Reader Bool
flag_at = chosen flag_from byte

abbrev pub entry_from : ℕ → Option ℕ
entry_from n = if n == 255 then None else Some n

unfoldable pub entry_at : Reader (Option ℕ)
entry_at = made entry_from byte

abbrev pub block_from : ℕ → Option ℕ
block_from n = if n == 0 then None else Some n

unfoldable pub block_at : Reader (Option ℕ)
block_at = made block_from (number w32)

abbrev pub address_of : ℕ × (ℕ × ℕ) → UndoAddr
address_of a = record { block = a.0; seq = a.1.0; nth = a.1.1 }

unfoldable pub address_at : Reader UndoAddr
address_at = made address_of (both (number w32) (λ _. both (number w64) (λ _. byte)))

-- zeros are none, and there is no other none
abbrev pub undo_from : UndoAddr → Option (Option UndoAddr)
undo_from a = if a.block == 0 then (if (a.seq == 0) && (a.nth == 0) then Some None else None) else Some (Some a)

unfoldable pub undo_at : Reader (Option UndoAddr)
undo_at = chosen undo_from address_at

abbrev pub place_from : ℕ × ℕ → Option (Option UndoPlace)
place_from p = if p.0 == 0 then (if p.1 == 0 then Some None else None) else Some (Some (record { block = p.0; nth = p.1 }))

unfoldable pub place_at : Reader (Option UndoPlace)
place_at = chosen place_from (both (number w32) (λ _. byte))

abbrev pub link_from : ℕ × ℕ → Option (Option Rowid)
link_from p = if p.0 == 0 then (if p.1 == 0 then Some None else None) else Some (Some (record { dba = p.0; slot = p.1 }))

unfoldable pub link_at : Reader (Option Rowid)
link_at = chosen link_from (both (number w32) (λ _. byte))

unfoldable pub kind_at : Reader Kind
kind_at = chosen kind_from byte

unfoldable pub writer_at : Reader Writer
writer_at = chosen (λ p. writer_from p.0 p.1) (both byte (λ _. number w64))

abbrev pub slot_of : Kind × (Writer × (Option UndoAddr × (ℕ × (Option Rowid × ((ℕ × ℕ) × List ℕ))))) → Slot
slot_of v = record { kind = v.0; writer = v.1.0; undo = v.1.1.0; row = v.1.1.1.0; link = v.1.1.1.1.0; bytes = v.1.1.1.1.1.1; room = v.1.1.1.1.1.0.1 }

unfoldable pub image_at : Reader Slot
image_at = made slot_of (both kind_at (λ _. both writer_at (λ _. both undo_at (λ _. both (number w64) (λ _. both link_at (λ _. both (both (number w16) (λ _. number w16)) (λ sizes. text sizes.0)))))))

-- ---- rows

abbrev pub row_part_of : ℕ × (ℕ × (Option ℕ × (Slot × Slot))) → RowPart
row_part_of v = record { dba = v.0; slot = v.1.0; entry = v.1.1.0; new = v.1.1.1.0; old = v.1.1.1.1 }

unfoldable pub row_part_at : Reader RowPart
row_part_at = made row_part_of (both (number w32) (λ _. both byte (λ _. both entry_at (λ _. both image_at (λ _. image_at)))))

abbrev pub back_part_of : ℕ × (ℕ × (Option ℕ × Slot)) → BackPart
back_part_of v = record { dba = v.0; slot = v.1.0; entry = v.1.1.0; new = v.1.1.1 }

unfoldable pub back_part_at : Reader BackPart
back_part_at = made back_part_of (both (number w32) (λ _. both byte (λ _. both entry_at (λ _. image_at))))

abbrev pub is_part_count : ℕ → Bool
is_part_count n = nat_le 1 n && nat_le n 3

unfoldable pub part_count_at : Reader ℕ
part_count_at = tested is_part_count byte

abbrev pub second : {A : Type 0} → ℕ × List A → List A
second p = p.1

unfoldable pub row_parts_at : Reader (List RowPart)
row_parts_at = made second (both part_count_at (many row_part_at))

unfoldable pub back_parts_at : Reader (List BackPart)
back_parts_at = made second (both part_count_at (many back_part_at))

abbrev pub row_body_of : ℕ × (ℕ × (ℕ × (ℕ × (UndoAddr × (Option UndoPlace × List RowPart))))) → RowBody
row_body_of v = record { txn = v.0; entry = v.1.0; obj = v.1.1.0; row = v.1.1.1.0; undo = v.1.1.1.1.0; previous = v.1.1.1.1.1.0; parts = v.1.1.1.1.1.1 }

unfoldable pub row_body_at : Reader RowBody
row_body_at = made row_body_of (both (number w64) (λ _. both byte (λ _. both obj_at (λ _. both (number w64) (λ _. both address_at (λ _. both place_at (λ _. row_parts_at)))))))

abbrev pub back_of : ℕ × (ℕ × (ℕ × (ℕ × (UndoAddr × (Option UndoPlace × (List BackPart × Option UndoAddr)))))) → BackRecord
back_of v = record { txn = v.0; entry = v.1.0; obj = v.1.1.0; row = v.1.1.1.0; undo = v.1.1.1.1.0; previous = v.1.1.1.1.1.0; parts = v.1.1.1.1.1.1.0; last = v.1.1.1.1.1.1.1 }

unfoldable pub back_at : Reader BackRecord
back_at = made back_of (both (number w64) (λ _. both byte (λ _. both obj_at (λ _. both (number w64) (λ _. both address_at (λ _. both place_at (λ _. both back_parts_at (λ _. undo_at))))))))

-- a move is a row body without a transaction, and its commit number
abbrev pub move_from : RowBody × ℕ → Option MoveRecord
move_from v = if (v.0.txn == 0) && ((v.0.entry == 255) && is_none v.0.previous) then Some (record { obj = v.0.obj; row = v.0.row; undo = v.0.undo; parts = v.0.parts; number = v.1 }) else None

unfoldable pub move_at : Reader MoveRecord
move_at = chosen move_from (both row_body_at (λ _. number w64))

-- ---- tables and their space

abbrev pub is_pctfree : ℕ → Bool
is_pctfree n = nat_le n MOST_PCTFREE

abbrev pub name_from : ℕ × List ℕ → Option (List ℕ)
name_from v = if is_name v.1 then Some v.1 else None

unfoldable pub name_at : Reader (List ℕ)
name_at = chosen name_from (both byte text)

abbrev pub table_of : ℕ × (ℕ × (ℕ × List ℕ)) → TableRecord
table_of v = record { obj = v.0; header = v.1.0; pctfree = v.1.1.0; name = v.1.1.1 }

unfoldable pub table_at : Reader TableRecord
table_at = made table_of (both obj_at (λ _. both (number w32) (λ _. both (tested is_pctfree byte) (λ _. name_at))))

abbrev pub movement_of : ℕ × (ℕ × Bool) → MovementRecord
movement_of v = record { obj = v.0; header = v.1.0; on = v.1.1 }

unfoldable pub movement_at : Reader MovementRecord
movement_at = made movement_of (both obj_at (λ _. both (number w32) (λ _. flag_at)))

abbrev pub extend_of : ℕ × (ℕ × (ℕ × (ℕ × (ℕ × ℕ)))) → ExtendRecord
extend_of v = record { obj = v.0; header = v.1.0; index = v.1.1.0; extent = v.1.1.1.0; l2 = v.1.1.1.1.0; l3 = v.1.1.1.1.1 }

unfoldable pub extend_at : Reader ExtendRecord
extend_at = made extend_of (both obj_at (λ _. both (number w32) (λ _. both (number w16) (λ _. both (number w32) (λ _. both (number w32) (λ _. number w32))))))

abbrev pub format_block_of : ℕ × (ℕ × (ℕ × (ℕ × (ℕ × (ℕ × ℕ))))) → FormatBlockRecord
format_block_of v = record { obj = v.0; dba = v.1.0; l2 = v.1.1.0; l3 = v.1.1.1.0; index = v.1.1.1.1.0; best_of_l1 = v.1.1.1.1.1.0; best_of_l2 = v.1.1.1.1.1.1 }

unfoldable pub format_block_at : Reader FormatBlockRecord
format_block_at = made format_block_of (both obj_at (λ _. both (number w32) (λ _. both (number w32) (λ _. both (number w32) (λ _. both (number w16) (λ _. both code_at (λ _. code_at)))))))

unfoldable pub class_code_at : Reader the.Class
class_code_at = chosen class_from byte

abbrev pub class_of : ℕ × (ℕ × (the.Class × (ℕ × (ℕ × (ℕ × (ℕ × ℕ)))))) → ClassRecord
class_of v = record { obj = v.0; dba = v.1.0; class = v.1.1.0; l2 = v.1.1.1.0; l3 = v.1.1.1.1.0; index = v.1.1.1.1.1.0; best_of_l1 = v.1.1.1.1.1.1.0; best_of_l2 = v.1.1.1.1.1.1.1 }

unfoldable pub class_at : Reader ClassRecord
class_at = made class_of (both obj_at (λ _. both (number w32) (λ _. both class_code_at (λ _. both (number w32) (λ _. both (number w32) (λ _. both (number w16) (λ _. both code_at (λ _. code_at))))))))

abbrev pub advance_of : ℕ × (ℕ × (ℕ × ℕ)) → AdvanceRecord
advance_of v = record { obj = v.0; header = v.1.0; low = v.1.1.0; high = v.1.1.1 }

unfoldable pub advance_at : Reader AdvanceRecord
advance_at = made advance_of (both obj_at (λ _. both (number w32) (λ _. both (number w32) (λ _. number w32))))

abbrev pub three : {A : Type 0} → A × (A × A) → List A
three v = v.0 ∷ v.1.0 ∷ v.1.1 ∷ []

unfoldable pub three_blocks_at : Reader (List (Option ℕ))
three_blocks_at = made three (both block_at (λ _. both block_at (λ _. block_at)))

unfoldable pub three_codes_at : Reader (List ℕ)
three_codes_at = made three (both code_at (λ _. both code_at (λ _. code_at)))

unfoldable pub extents_at : Reader (List ℕ)
extents_at = made second (both (number w16) (many (number w32)))

abbrev pub lower_of : ℕ × (ℕ × (ℕ × (ℕ × (ℕ × (ℕ × (List (Option ℕ) × (ℕ × (List ℕ × List ℕ)))))))) → LowerRecord
lower_of v = record { obj = v.0; header = v.1.0; lowering = v.1.1.0; kept = v.1.1.1.0; low = v.1.1.1.1.0; high = v.1.1.1.1.1.0; l2 = v.1.1.1.1.1.1.0; l3 = v.1.1.1.1.1.1.1.0; bests = v.1.1.1.1.1.1.1.1.0; released = v.1.1.1.1.1.1.1.1.1 }

unfoldable pub lower_at : Reader LowerRecord
lower_at = made lower_of (both obj_at (λ _. both (number w32) (λ _. both (number w64) (λ _. both (number w16) (λ _. both (number w32) (λ _. both (number w32) (λ _. both three_blocks_at (λ _. both (number w32) (λ _. both three_codes_at (λ _. extents_at))))))))))

-- ---- transactions

abbrev pub begin_of : ℕ × (ℕ × (ℕ × ℕ)) → BeginRecord
begin_of v = record { txn = v.0; session = v.1.0; entry = v.1.1.0; control = v.1.1.1 }

unfoldable pub begin_at : Reader BeginRecord
begin_at = made begin_of (both (number w64) (λ _. both byte (λ _. both byte (λ _. number w64))))

abbrev pub reuse_of : ℕ × ℕ → ReuseRecord
reuse_of v = record { block = v.0; sequence = v.1 }

unfoldable pub reuse_at : Reader ReuseRecord
reuse_at = made reuse_of (both (number w32) (λ _. number w64))

abbrev pub commit_of : ℕ × (ℕ × ℕ) → CommitRecord
commit_of v = record { txn = v.0; number = v.1.0; entry = v.1.1 }

unfoldable pub commit_at : Reader CommitRecord
commit_at = made commit_of (both (number w64) (λ _. both (number w64) (λ _. byte)))

abbrev pub ended_of : ℕ × ℕ → EndedRecord
ended_of v = record { txn = v.0; entry = v.1 }

unfoldable pub ended_at : Reader EndedRecord
ended_at = made ended_of (both (number w64) (λ _. byte))

unfoldable pub ended_transaction_at : Reader (ℕ × ℕ)
ended_transaction_at = both (number w64) (λ _. number w64)

unfoldable pub ended_transactions_at : Reader (List (ℕ × ℕ))
ended_transactions_at = made second (both byte (many ended_transaction_at))

abbrev pub clean_of : ℕ × List (ℕ × ℕ) → CleanRecord
clean_of v = record { dba = v.0; ended = v.1 }

unfoldable pub clean_at : Reader CleanRecord
clean_at = made clean_of (both (number w32) (λ _. ended_transactions_at))

-- ---- records

abbrev pub no_record : Reader Record
no_record bytes = None

-- what a record of a kind has behind it
abbrev pub fields_at : ℕ → Reader Record
fields_at k =
    if k == 1 then made Table table_at else
    if k == 2 then made Movement movement_at else
    if k == 3 then made Extend extend_at else
    if k == 4 then made FormatBlock format_block_at else
    if k == 5 then made Class class_at else
    if k == 6 then made Advance advance_at else
    if k == 7 then made Lower lower_at else
    if k == 8 then made Begin begin_at else
    if k == 9 then made Reuse reuse_at else
    if k == 10 then made Insert row_body_at else
    if k == 11 then made Update row_body_at else
    if k == 12 then made Migrate row_body_at else
    if k == 13 then made Return row_body_at else
    if k == 14 then made Delete row_body_at else
    if k == 15 then made Commit commit_at else
    if k == 16 then made Back back_at else
    if k == 17 then made Ended ended_at else
    if k == 18 then made Move move_at else
    if k == 19 then made Clean clean_at else no_record

unfoldable pub record_at : Reader Record
record_at bytes = byte bytes >>= λ k. fields_at k.0 k.1
