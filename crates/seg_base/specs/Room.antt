-- How full a row block is and what goes into it: free space, PCTFREE, INITRANS and MAXTRANS (Oracle Database Concepts).
-- The sizes of slots and entries, and the order in which they are used, are this engine's own.
-- `ended` tells which transactions have ended.
use Rattle.std.specs.Prelude.{ℕ, ◌+◌, ◌-◌, ◌*◌, Bool, true, false, ◌&&◌, ◌||◌, ◌==◌, nat_lt, nat_le, if◌then◌else◌, max, length, slice_index_or, Option, Some, None, option_map}
use Rattle.std.specs.List.{sum_by, position_or_len}
use Rattle.seg_base.specs.declared.limit.TheConstants.{BLOCK_ROOM, SLOT_SIZE, MOST_SLOTS, LIST_ENTRY_SIZE, LEAST_LIST_ENTRIES, MOST_LIST_ENTRIES}
use Rattle.seg_base.specs.declared.slot.Slot.{Slot}
use Rattle.seg_base.specs.declared.slot.Kind.{Kind}
use Rattle.seg_base.specs.declared.slot.Kind.TheVariants.{Empty, Row, Head, Body}
use Rattle.seg_base.specs.declared.slot.Writer.{Writer}
use Rattle.seg_base.specs.declared.slot.Writer.TheVariants.{By, At}
use Rattle.seg_base.specs.declared.slot.Taker.{Taker}
use Rattle.seg_base.specs.declared.slot.Taker.TheVariants.{New, Open, Shrink}
use Rattle.seg_base.specs.declared.slot.ListEntry.{ListEntry}
use Rattle.seg_base.specs.declared.class.Class.{Class}
use Rattle.seg_base.specs.Classes.{class_of}
use Rattle.seg_base.specs.Blocks.{Block, new_slot}

-- who wrote at a commit number has ended
abbrev pub writer_has_ended : (ℕ → Bool) → Writer → Bool
writer_has_ended ended (By t) = ended t
writer_has_ended ended (At c) = true

-- what a slot counts for its row: the length, and for an active writer the room that it may need again
abbrev pub row_size : (ℕ → Bool) → Slot → ℕ
row_size ended s = if writer_has_ended ended s.writer then length s.bytes else s.room

abbrev pub slot_size : (ℕ → Bool) → Slot → ℕ
slot_size ended s = SLOT_SIZE + row_size ended s

-- the room of the image that an active writer puts over the slot s with so long a row
abbrev pub next_room : (ℕ → Bool) → Slot → ℕ → ℕ
next_room ended s len = max (row_size ended s) len

-- what the slots count, and an entry's bytes for each list entry past the second
abbrev pub used_of : (ℕ → Bool) → Block → ℕ
used_of ended b = sum_by (slot_size ended) b.slots + LIST_ENTRY_SIZE * (length b.entries - LEAST_LIST_ENTRIES)

abbrev pub free_of : (ℕ → Bool) → Block → ℕ
free_of ended b = BLOCK_ROOM - used_of ended b

abbrev pub class_of_block : (ℕ → Bool) → ℕ → Block → Class
class_of_block ended pctfree b = class_of (free_of ended b) pctfree

abbrev pub is_empty : Kind → Bool
is_empty Empty = true
is_empty Row = false
is_empty Head = false
is_empty Body = false

-- an Empty slot whose last writer has ended
abbrev pub is_reusable : (ℕ → Bool) → Slot → Bool
is_reusable ended s = is_empty s.kind && writer_has_ended ended s.writer

-- the least reusable slot, else the number of slots
abbrev pub slot_to_use : (ℕ → Bool) → Block → ℕ
slot_to_use ended b = position_or_len (is_reusable ended) b.slots

abbrev pub names : ℕ → ListEntry → Bool
names t e = e.txn == t

-- an entry that is empty or names an ended transaction
abbrev pub is_spare : (ℕ → Bool) → ListEntry → Bool
is_spare ended e = e.txn == 0 || ended e.txn

-- a new entry, where there are fewer than the most and its bytes are free
abbrev pub made_entry : (ℕ → Bool) → Block → Option ℕ
made_entry ended b = if nat_lt (length b.entries) MOST_LIST_ENTRIES && nat_le LIST_ENTRY_SIZE (free_of ended b) then Some (length b.entries) else None

-- the least spare entry, else a new one
abbrev pub other_entry : (ℕ → Bool) → Block → Option ℕ
other_entry ended b =
    if nat_lt (position_or_len (is_spare ended) b.entries) (length b.entries) then Some (position_or_len (is_spare ended) b.entries)
    else made_entry ended b

-- the entry that transaction t uses: its own, else another; the number of entries stands for a new one
abbrev pub entry_for : (ℕ → Bool) → Block → ℕ → Option ℕ
entry_for ended b t =
    if nat_lt (position_or_len (names t) b.entries) (length b.entries) then Some (position_or_len (names t) b.entries)
    else other_entry ended b

abbrev pub entry_size : Block → ℕ → ℕ
entry_size b i = if nat_lt i (length b.entries) then 0 else LIST_ENTRY_SIZE

-- what a taker needs for its list entry, None where none can be had; a transaction that has not begun has none yet
abbrev pub entry_need : (ℕ → Bool) → Block → Taker → Option ℕ
entry_need ended b New = option_map (entry_size b) (other_entry ended b)
entry_need ended b (Open t) = option_map (entry_size b) (entry_for ended b t)
entry_need ended b Shrink = Some 0

-- a new slot, where none is reusable
abbrev pub slot_need : (ℕ → Bool) → Block → ℕ
slot_need ended b = if nat_lt (slot_to_use ended b) (length b.slots) then 0 else SLOT_SIZE

-- need bytes can be had, and PCTFREE is left free
abbrev pub has_room : ℕ → ℕ → ℕ → Bool
has_room pctfree free need = nat_le need free && nat_le (pctfree * BLOCK_ROOM) ((free - need) * 100)

abbrev pub takes_beside : (ℕ → Bool) → ℕ → Block → ℕ → Option ℕ → Bool
takes_beside ended pctfree b len None = false
takes_beside ended pctfree b len (Some entry) =
    nat_lt (slot_to_use ended b) MOST_SLOTS && has_room pctfree (free_of ended b) (len + slot_need ended b + entry)

-- the block takes a row of this length
abbrev pub takes : (ℕ → Bool) → ℕ → Block → ℕ → Taker → Bool
takes ended pctfree b len taker = takes_beside ended pctfree b len (entry_need ended b taker)

-- what a row of this length in slot k needs beyond what the slot counts
abbrev pub row_growth : (ℕ → Bool) → Block → ℕ → ℕ → ℕ
row_growth ended b k len = len - row_size ended (slice_index_or b.slots k new_slot)

abbrev pub fits_beside : (ℕ → Bool) → Block → ℕ → ℕ → Option ℕ → Bool
fits_beside ended b k len None = false
fits_beside ended b k len (Some entry) = nat_le (row_growth ended b k len + entry) (free_of ended b)

-- a row of this length fits into slot k, PCTFREE aside
abbrev pub fits : (ℕ → Bool) → Block → ℕ → ℕ → Taker → Bool
fits ended b k len taker = fits_beside ended b k len (entry_need ended b taker)
