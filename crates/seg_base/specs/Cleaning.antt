-- What a clean does to a row block: a delayed block cleanout (Oracle Database Concepts). It is told of ended transactions
-- and their commit numbers, 0 for one whose number is forgotten and for one that was rolled back.
use Rattle.std.specs.Prelude.{ℕ, zero, suc, ◌==◌, if◌then◌else◌, List, [], ◌∷◌, length, map, Option, Some, None}
use Rattle.seg_base.specs.declared.slot.Slot.{Slot}
use Rattle.seg_base.specs.declared.slot.ListEntry.{ListEntry}
use Rattle.seg_base.specs.declared.slot.Writer.{Writer}
use Rattle.seg_base.specs.declared.slot.Writer.TheVariants.{By, At}
use Rattle.seg_base.specs.Blocks.{Block, new_entry}

-- the number that a clean is told of a transaction
abbrev pub number_of : List (ℕ × ℕ) → ℕ → Option ℕ
number_of [] t = None
number_of (c ∷ cs) t = if c.0 == t then Some c.1 else number_of cs t

abbrev pub number_of_writer : List (ℕ × ℕ) → Writer → Option ℕ
number_of_writer cs (By t) = number_of cs t
number_of_writer cs (At c) = None

-- a forgotten writer keeps its name; the room is given back
abbrev pub as_committed : Slot → ℕ → Slot
as_committed s zero = record { kind = s.kind; writer = s.writer; undo = s.undo; row = s.row; link = s.link; bytes = s.bytes; room = length s.bytes }
as_committed s (suc c) = record { kind = s.kind; writer = At (suc c); undo = s.undo; row = s.row; link = s.link; bytes = s.bytes; room = length s.bytes }

abbrev pub as_told : Slot → Option ℕ → Slot
as_told s None = s
as_told s (Some c) = as_committed s c

abbrev pub clean_slot : List (ℕ × ℕ) → Slot → Slot
clean_slot cs s = as_told s (number_of_writer cs s.writer)

abbrev pub entry_as_told : ListEntry → Option ℕ → ListEntry
entry_as_told e None = e
entry_as_told e (Some c) = new_entry

abbrev pub clean_entry : List (ℕ × ℕ) → ListEntry → ListEntry
clean_entry cs e = entry_as_told e (number_of cs e.txn)

abbrev pub clean_block : List (ℕ × ℕ) → Block → Block
clean_block cs b = record { slots = map (clean_slot cs) b.slots; entries = map (clean_entry cs) b.entries }
