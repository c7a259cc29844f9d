-- What a page reads as has a spelling.
use Rattle.std.proofs.Common.{◌≡◌, ℕ, zero, suc, ◌+◌, ◌*◌, ◌≤◌, List, length, get_or, take, drop, refl, arith, length-take}
use Rattle.seg_words.proofs.Lemmas.{AllByRecursion}
use Rattle.seg_words.specs.Types.{BLOCK_SIZE, PAGE_HEAD_SIZE, SLOT_SIZE, MOST_SLOTS, LIST_ENTRY_SIZE, LEAST_LIST_ENTRIES, MOST_LIST_ENTRIES}
use Rattle.page_bytes.specs.Types.{pieces_in, fields_in, row_len, IsSlot, entry_from, IsListEntry}
use Rattle.page_bytes.proofs.Ranges.{IsBytes, bytes_take, bytes_drop, number_32, number_64, pieces_fit, entry_fits, slot_fits}
use Rattle.row_block.specs.Types.{RowPage, IsRowPage, entry_count, slot_count, slots_in, page_with, page_in}
use Rattle.row_block.proofs.Reading.{read_fits}

slots_fit : (n : ℕ) (groups rows : List ℕ) → IsBytes groups → AllByRecursion IsSlot (slots_in n groups rows)
unfolding slots_in
slots_fit zero groups rows h = tt
slots_fit (suc n) groups rows h = (
  slot_fits (take SLOT_SIZE groups) (take (row_len (fields_in (take SLOT_SIZE groups))) rows) (bytes_take SLOT_SIZE groups h) (omega (arith, length-take (row_len (fields_in (take SLOT_SIZE groups))) rows)),
  slots_fit n (drop SLOT_SIZE groups) (drop (row_len (fields_in (take SLOT_SIZE groups))) rows) (bytes_drop SLOT_SIZE groups h),
)

page_with_fits : (e s : ℕ) (bytes : List ℕ) → length bytes ≡ BLOCK_SIZE → IsBytes bytes → LEAST_LIST_ENTRIES ≤ e → e ≤ MOST_LIST_ENTRIES → s ≤ MOST_SLOTS → PAGE_HEAD_SIZE + LIST_ENTRY_SIZE * e + SLOT_SIZE * s ≤ BLOCK_SIZE → IsRowPage (page_with e s bytes)
page_with_fits e s bytes long h least most count room = record {
  dba = number_32 bytes 4 h;
  lsn = number_64 bytes 8 h;
  held = read_fits e s bytes (drop PAGE_HEAD_SIZE bytes) (drop (PAGE_HEAD_SIZE + LIST_ENTRY_SIZE * e) bytes) (drop (PAGE_HEAD_SIZE + LIST_ENTRY_SIZE * e + SLOT_SIZE * s) bytes) (pieces_in entry_from LIST_ENTRY_SIZE e (drop PAGE_HEAD_SIZE bytes)) (slots_in s (drop (PAGE_HEAD_SIZE + LIST_ENTRY_SIZE * e) bytes) (drop (PAGE_HEAD_SIZE + LIST_ENTRY_SIZE * e + SLOT_SIZE * s) bytes)) long least most count room refl refl refl;
  entries = pieces_fit entry_from IsListEntry LIST_ENTRY_SIZE e (drop PAGE_HEAD_SIZE bytes) entry_fits (bytes_drop PAGE_HEAD_SIZE bytes h);
  slots = slots_fit s (drop (PAGE_HEAD_SIZE + LIST_ENTRY_SIZE * e) bytes) (drop (PAGE_HEAD_SIZE + LIST_ENTRY_SIZE * e + SLOT_SIZE * s) bytes) (bytes_drop (PAGE_HEAD_SIZE + LIST_ENTRY_SIZE * e) bytes h);
}

counts_fit : (n m : ℕ) → (2 ≤ entry_count n) × (entry_count n ≤ 8) × (slot_count (entry_count n) m ≤ MOST_SLOTS) × (PAGE_HEAD_SIZE + LIST_ENTRY_SIZE * entry_count n + SLOT_SIZE * slot_count (entry_count n) m ≤ BLOCK_SIZE)
counts_fit n m = (omega arith, omega arith, omega arith, omega arith)

pub page_fits : (bytes : List ℕ) (p : RowPage) → length bytes ≡ BLOCK_SIZE → IsBytes bytes → p ≡ page_in bytes → IsRowPage p
unfolding page_in
page_fits bytes p long h is =
    let c = counts_fit (get_or bytes 1 0) (get_or bytes 2 0) in
    rw is (page_with_fits (entry_count (get_or bytes 1 0)) (slot_count (entry_count (get_or bytes 1 0)) (get_or bytes 2 0)) bytes long h c.0 c.1 c.2 c.3)
