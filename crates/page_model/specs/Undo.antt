-- The undo of a redo list, as its blocks keep it.
use Rattle.std.specs.Prelude.{ℕ}
use Rattle.seg_words.specs.Types.{Writer, By, At}
use Rattle.undo_block.specs.declared.part.Part.{Part}
use Rattle.redo_model.specs.Model.{HeldPart}

-- the transaction of a part: a move has none
abbrev pub txn_of : Writer → ℕ
txn_of (By t) = t
txn_of (At c) = 0

-- a part that the list says an undo block holds, as the block keeps it
abbrev pub as_kept : HeldPart → Part
as_kept h = record { txn = txn_of h.by; previous = h.previous; dba = h.part.dba; slot = h.part.slot; parts = h.count; old = h.part.old }
