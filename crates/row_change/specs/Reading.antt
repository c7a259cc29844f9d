-- What a change of a row asks of a page; none of a page that can't be asked so.
use Rattle.std.specs.Prelude.{ℕ, ◌+◌, Bool, cond, ltb, length, slice_index_or, Option, Some, None}
use Rattle.seg_words.specs.Types.{LONGEST_ROW, UNDO_PART_SIZE, Block, Slot, new_slot, entry_for, slot_to_use, next_room}
use Rattle.redo_model.specs.Model.{number_or_zero}
use Rattle.txn_block.specs.Types.{TxnTable}
use Rattle.undo_block.specs.Types.{used_by, holder_of}
use Rattle.version_laws.specs.Types.{ended_by}
use Rattle.page_set.specs.declared.page.Page.{Page}
use Rattle.page_set.specs.declared.page.Page.TheVariants.{Zero, Undo, Rows}
use Rattle.row_change.specs.declared.replaced.Replaced.{Replaced}
use Rattle.row_change.specs.declared.ring.UndoState.{UndoState}

abbrev pub slot_or : (ℕ → Bool) → Block → Option ℕ → ℕ
slot_or ended b None = slot_to_use ended b
slot_or ended b (Some k) = k

abbrev pub replaced_by : (ℕ → Bool) → Block → ℕ → ℕ → ℕ → Slot → Replaced
replaced_by ended b t k len old = record { slot = k; entry = number_or_zero (entry_for ended b t); room = next_room ended old len; size = UNDO_PART_SIZE + length old.bytes; old = old }

abbrev pub replaced_at : (ℕ → Bool) → Block → ℕ → ℕ → ℕ → Option Replaced
replaced_at ended b t k len = cond (ltb LONGEST_ROW (length (slice_index_or b.slots k new_slot).bytes)) None (Some (replaced_by ended b t k len (slice_index_or b.slots k new_slot)))

-- what transaction t writes over with so long a row, in slot k or where a new row goes
abbrev pub replaced_in : TxnTable → ℕ → Option ℕ → ℕ → Page → Option Replaced
replaced_in q t k len (Rows rows) = replaced_at (ended_by q) rows.block t (slot_or (ended_by q) rows.block k) len
replaced_in q t k len _ = None

-- how an undo block is used: it was never, where it was never written
abbrev pub state_in : TxnTable → Page → Option UndoState
state_in q (Zero d) = Some (record { sequence = 0; count = 0; used = 0; holder = None })
state_in q (Undo block) = Some (record { sequence = block.sequence; count = length block.parts; used = used_by block.parts; holder = holder_of (ended_by q) block.parts })
state_in q _ = None
