-- In a lawful list what a block counts fits in the block, now and when any of its transactions end, so taking back always
-- fits. The sizes are this engine's own.
use Rattle.std.specs.Prelude.{◌≡◌, ℕ, ◌+◌, ◌-◌, ◌*◌, ◌≤◌, Bool, true, List, length, sum_by}
use Rattle.seg_words.specs.Types.{Shape, Slot, used_of as used_by, BLOCK_ROOM, LONGEST_ROW, SLOT_SIZE, MOST_SLOTS, LIST_ENTRY_SIZE, LEAST_LIST_ENTRIES, MOST_LIST_ENTRIES}
use Rattle.redo_model.specs.Records.{Record}
use Rattle.redo_model.specs.Model.{ended_in, image, slot_count, entry_count, block_of, slots_of, entries_of, used_of, AreAllowed}

-- what the page of a block holds behind its header: slots, rows, list entries past the second
abbrev pub page_size : List Record → ℕ → ℕ
page_size R b = sum_by (λ (s : Slot). SLOT_SIZE + length s.bytes) (slots_of R b) + LIST_ENTRY_SIZE * (length (entries_of R b) - LEAST_LIST_ENTRIES)

pub record RoomOf (R : List Record) (b : ℕ) : Type 0 where
  pub counted : used_of R b ≤ BLOCK_ROOM
  pub when_more_end : (ended : ℕ → Bool) → ((t : ℕ) → ended_in R t ≡ true → ended t ≡ true) → used_by ended (block_of R b) ≤ BLOCK_ROOM
  pub page : page_size R b ≤ BLOCK_ROOM
  pub entries_from : LEAST_LIST_ENTRIES ≤ entry_count R b
  pub entries_to : entry_count R b ≤ MOST_LIST_ENTRIES
  pub slots : slot_count R b ≤ MOST_SLOTS
  pub rows : (k : ℕ) → length (image R b k).bytes ≤ LONGEST_ROW

abbrev pub BlocksHaveRoom : Type 0
BlocksHaveRoom = (sh : Shape) (R : List Record) (b : ℕ) → AreAllowed sh R → RoomOf R b
