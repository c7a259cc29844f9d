-- A row block's page as contracts see it.
use Rattle.std.specs.Prelude.{ℕ, ◌≡◌, ◌-◌, ◌<◌, ◌≤◌, Bool, true, List, sum_by, if◌then◌else◌, nat_lt, nat_le, length, slice_index_or, All}
use Rattle.seg_words.specs.Types.{Slot, Block, new_slot, new_entry, put_slot, put_entry, slot_size, used_of, BLOCK_ROOM, MOST_SLOTS, MOST_LIST_ENTRIES}
use Rattle.page_bytes.specs.Types.{HasSlotForm}

pub record RowPage : Type 0 where
  pub dba : ℕ
  pub lsn : ℕ
  pub block : Block

abbrev pub with_block : RowPage → Block → RowPage
with_block p b = record { dba = p.dba; lsn = p.lsn; block = b }

-- The bytes that a block takes on its page, where each row takes its length: room that is kept for active writers is not
-- on the page.
abbrev pub laid_out : Block → ℕ
laid_out b = used_of (λ t. true) b

-- of that, what the slots take
abbrev pub laid_slots : List Slot → ℕ
laid_slots ss = sum_by (slot_size (λ t. true)) ss

-- an image whose row fits its room, and whose room fits a block
pub record IsImage (s : Slot) : Type 0 where
  pub bytes : length s.bytes ≤ s.room
  pub room : s.room ≤ BLOCK_ROOM

-- a block that fits its page: so many slots and list entries (INITRANS to MAXTRANS) at most, each row within its room, each
-- slot of the form that has a spelling
pub record IsHeld (b : Block) : Type 0 where
  pub slots : length b.slots ≤ MOST_SLOTS
  pub least : 2 ≤ length b.entries
  pub entries : length b.entries ≤ MOST_LIST_ENTRIES
  pub rooms : All (λ s. length s.bytes ≤ s.room) b.slots
  pub forms : All HasSlotForm b.slots
  pub size : laid_out b ≤ BLOCK_ROOM

-- a block that fits its page, of which the slots take so many bytes
pub record IsLaid (bytes : ℕ) (b : Block) : Type 0 where
  pub held : IsHeld b
  pub slots : bytes ≡ laid_slots b.slots

-- an image can be put into slot k, or behind the last slot: it has a spelling, and the block then fits its page
pub record CanPut (b : Block) (k : ℕ) (image : Slot) : Type 0 where
  pub at : k ≤ length b.slots
  pub most : k < MOST_SLOTS
  pub bytes : length image.bytes ≤ image.room
  pub form : HasSlotForm image
  pub size : laid_out (put_slot k image b) ≤ BLOCK_ROOM

-- a transaction can be put into list entry i, or behind the last entry
pub record CanEnter (b : Block) (i : ℕ) : Type 0 where
  pub at : i ≤ length b.entries
  pub most : i < MOST_LIST_ENTRIES
  pub size : laid_out (put_entry i new_entry b) ≤ BLOCK_ROOM

-- what slot k counts now, 0 where it isn't there yet
abbrev pub counted : (ℕ → Bool) → Block → ℕ → ℕ
counted ended b k = if nat_lt k (length b.slots) then slot_size ended (slice_index_or b.slots k new_slot) else 0

-- what an image counts in slot k beyond what the slot counts now
abbrev pub growth_of : (ℕ → Bool) → Block → ℕ → Slot → ℕ
growth_of ended b k image = slot_size ended image - counted ended b k

-- What an image needs in slot k. Where a block counts more than it has, which no allowed change leads to, this is what
-- the image takes on the page beyond what the slot takes now.
abbrev pub need_of : (ℕ → Bool) → Block → ℕ → Slot → ℕ
need_of ended b k image =
    if nat_le (used_of ended b) BLOCK_ROOM then growth_of ended b k image else growth_of (λ t. true) b k image
