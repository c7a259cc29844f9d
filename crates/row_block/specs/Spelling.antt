-- The one spelling of a row block's page, and what the fields of any page read as.
use Rattle.std.specs.Prelude.{◌≡◌, ℕ, zero, suc, ◌+◌, ◌-◌, ◌*◌, ◌/◌, ◌<◌, ◌^◌, min, max, List, [], ◌∷◌, ◌++◌, length, slice_index, take, drop, Result, Ok, Err, flat_map}
use Rattle.seg_words.specs.Types.{w32, w64, AllByRecursion, Slot, number_in, slot_bytes, BLOCK_SIZE, PAGE_HEAD_SIZE, SLOT_SIZE, MOST_SLOTS, LIST_ENTRY_SIZE}
use Rattle.page_bytes.specs.Types.{page_of, head_bytes, first_wrong, pieces_in, fields_in, row_len, slot_as, IsSlot, entry_bytes, entry_from, IsListEntry}
use Rattle.row_block.specs.declared.fault.BlockFault.{BlockFault}
use Rattle.row_block.specs.declared.fault.BlockFault.TheVariants.{NoRoom, NoSlot, BadPage, NoMemory}
use Rattle.row_block.specs.RowPage.{RowPage, IsHeld}

abbrev pub row_bytes : Slot → List ℕ
row_bytes s = s.bytes

-- the head with the numbers of entries and slots, the entries, the slots, the rows in order of slots
abbrev pub front_of : RowPage → List ℕ
front_of p = head_bytes 11 (length p.block.entries) (length p.block.slots) p.dba p.lsn
    ++ flat_map entry_bytes p.block.entries ++ flat_map slot_bytes p.block.slots ++ flat_map row_bytes p.block.slots

unfoldable pub spelling : RowPage → List ℕ
spelling p = page_of (front_of p)

-- the pages that have a spelling of their own
pub record IsRowPage (p : RowPage) : Type 0 where
  pub dba : p.dba < 2 ^ 32
  pub lsn : p.lsn < 2 ^ 64
  pub held : IsHeld p.block
  pub entries : AllByRecursion IsListEntry p.block.entries
  pub slots : AllByRecursion IsSlot p.block.slots

-- the counts as a page can have them: list entries within INITRANS and MAXTRANS, no more slots than there is room for
abbrev pub entry_count : ℕ → ℕ
entry_count n = max 2 (min n 8)

abbrev pub slot_count : ℕ → ℕ → ℕ
slot_count entries n = min n (min MOST_SLOTS ((BLOCK_SIZE - PAGE_HEAD_SIZE - LIST_ENTRY_SIZE * entries) / SLOT_SIZE))

-- n slots from their groups of bytes, and from the rows one behind the other; of a row that the page's end cuts, what is
-- there
unfoldable pub slots_in : ℕ → List ℕ → List ℕ → List Slot
slots_in zero groups rows = []
slots_in (suc n) groups rows =
    slot_as (fields_in (take SLOT_SIZE groups)) (take (row_len (fields_in (take SLOT_SIZE groups))) rows)
    ∷ slots_in n (drop SLOT_SIZE groups) (drop (row_len (fields_in (take SLOT_SIZE groups))) rows)

abbrev pub page_with : ℕ → ℕ → List ℕ → RowPage
page_with entries slots bytes = record {
  dba = number_in w32 bytes 4;
  lsn = number_in w64 bytes 8;
  block = record {
    slots = slots_in slots (drop (PAGE_HEAD_SIZE + LIST_ENTRY_SIZE * entries) bytes) (drop (PAGE_HEAD_SIZE + LIST_ENTRY_SIZE * entries + SLOT_SIZE * slots) bytes);
    entries = pieces_in entry_from LIST_ENTRY_SIZE entries (drop PAGE_HEAD_SIZE bytes);
  };
}

unfoldable pub page_in : List ℕ → RowPage
page_in bytes = page_with (entry_count (slice_index bytes 1)) (slot_count (entry_count (slice_index bytes 1)) (slice_index bytes 2)) bytes

-- The result of decoding a page: the block that it spells, or the first byte that differs from the spelling of what its
-- fields read as.
abbrev pub Decodes : List ℕ → Result RowPage BlockFault → Type 0
Decodes bytes (Ok p) = (p ≡ page_in bytes) × (bytes ≡ spelling p)
Decodes bytes (Err (BadPage at)) = (at ≡ first_wrong bytes (spelling (page_in bytes))) × (at < BLOCK_SIZE)
Decodes bytes (Err NoMemory) = Unit {0}
Decodes bytes (Err (NoRoom n f)) = ⊥
Decodes bytes (Err (NoSlot ts)) = ⊥

-- the result of decoding the spelling of p: p, unless memory was refused
abbrev pub IsReadAs : RowPage → Result RowPage BlockFault → Type 0
IsReadAs p (Ok q) = q ≡ p
IsReadAs p (Err (BadPage at)) = ⊥
IsReadAs p (Err NoMemory) = Unit {0}
IsReadAs p (Err (NoRoom n f)) = ⊥
IsReadAs p (Err (NoSlot ts)) = ⊥
