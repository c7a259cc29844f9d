-- Slots read one after the other; their rows take no more than was there.
use Rattle.std.proofs.Common.{◌≡◌, ℕ, zero, suc, ◌+◌, ◌-◌, ◌*◌, ◌<◌, ◌≤◌, List, [], ◌∷◌, ◌++◌, length, take, drop, refl, sym, ap, ◌∙◌, append_assoc, arith, flat_map, append-nil, length-drop, length-take, length-append}
use Rattle.seg_words.proofs.Lemmas.{AllByRecursion, flat_map-cons, All-from_recursion}
use Rattle.seg_words.specs.Types.{Slot, ListEntry, Writer, By, At, BLOCK_SIZE, PAGE_HEAD_SIZE, SLOT_SIZE, MOST_SLOTS, LIST_ENTRY_SIZE, LEAST_LIST_ENTRIES, MOST_LIST_ENTRIES}
use Rattle.page_bytes.specs.declared.slot.SlotFields.{SlotFields}
use Rattle.page_bytes.specs.Types.{pieces_in, fields_in, row_len, slot_as, room_as, writer_as, HasSlotForm, entry_from}
use Rattle.page_bytes.proofs.PiecesIn.{length-pieces_in}
use Rattle.page_bytes.proofs.Ranges.{slot_formed}
use Rattle.row_block.specs.Types.{IsHeld, row_bytes, slots_in}
use Rattle.row_block.specs.Again.{laid_sizes}

-- a loop that has read the first i slots
pub record Reads (count i : ℕ) (front : List Slot) (groups rows : List ℕ) (all : List Slot) : Type 0 where
  pub long : SLOT_SIZE * (count - i) ≤ length groups
  pub same : front ++ slots_in (count - i) groups rows ≡ all

step : (n k : ℕ) (groups rows : List ℕ) → k ≡ suc n
    → slots_in k groups rows ≡ slot_as (fields_in (take SLOT_SIZE groups)) (take (row_len (fields_in (take SLOT_SIZE groups))) rows) ∷ slots_in n (drop SLOT_SIZE groups) (drop (row_len (fields_in (take SLOT_SIZE groups))) rows)
unfolding slots_in
step n k groups rows e = rw e refl

pub one_read : (count i : ℕ) (front front' : List Slot) (groups group more rows row others : List ℕ) (f : SlotFields) (len : ℕ) (s : Slot) (all : List Slot) → i < count → group ≡ take SLOT_SIZE groups → more ≡ drop SLOT_SIZE groups → f ≡ fields_in group → len ≡ row_len f → row ≡ take len rows → others ≡ drop len rows
    → s ≡ slot_as f row → front' ≡ front ++ s ∷ [] → Reads count i front groups rows all → Reads count (i + 1) front' more others all
one_read count i front front' groups group more rows row others f len s all lt g m r n w d v p h =
    let fields : f ≡ fields_in (take SLOT_SIZE groups) = r ∙ ap fields_in g in
    let len_is : len ≡ row_len (fields_in (take SLOT_SIZE groups)) = n ∙ ap (λ (x : SlotFields). row_len x) fields in
    let row_is : row ≡ take (row_len (fields_in (take SLOT_SIZE groups))) rows = w ∙ ap (λ (x : ℕ). take x rows) len_is in
    let slot_is : s ≡ slot_as (fields_in (take SLOT_SIZE groups)) (take (row_len (fields_in (take SLOT_SIZE groups))) rows) = v ∙ ap (slot_as f) row_is ∙ ap (λ (x : SlotFields). slot_as x (take (row_len (fields_in (take SLOT_SIZE groups))) rows)) fields in
    let rest_is : others ≡ drop (row_len (fields_in (take SLOT_SIZE groups))) rows = d ∙ ap (λ (x : ℕ). drop x rows) len_is in
    let rest : List Slot = slots_in (count - (i + 1)) (drop SLOT_SIZE groups) (drop (row_len (fields_in (take SLOT_SIZE groups))) rows) in
    rw (p, m, rest_is) (record {
      long = omega (arith, length-drop SLOT_SIZE groups, h.long);
      same = append_assoc front (s ∷ []) rest ∙ ap (λ (x : Slot). front ++ x ∷ rest) slot_is
          ∙ ap (λ (x : List Slot). front ++ x) (sym (step (count - (i + 1)) (count - i) groups rows (omega arith))) ∙ h.same;
    })

pub all_read : (count i : ℕ) (front : List Slot) (groups rows : List ℕ) (all : List Slot) → count ≤ i → Reads count i front groups rows all → front ≡ all
unfolding slots_in
all_read count i front groups rows all le h =
    let none : count - i ≡ 0 = omega arith in
    sym (append-nil front) ∙ sym (ap (λ (n : ℕ). front ++ slots_in n groups rows) none) ∙ h.same

-- what is read fits a page
length-slots_in : (n : ℕ) (groups rows : List ℕ) → length (slots_in n groups rows) ≡ n
unfolding slots_in
length-slots_in zero groups rows = refl
length-slots_in (suc n) groups rows = ap suc (length-slots_in n (drop SLOT_SIZE groups) (drop (row_len (fields_in (take SLOT_SIZE groups))) rows))

rows_fit : (n : ℕ) (groups rows : List ℕ) → length (flat_map row_bytes (slots_in n groups rows)) ≤ length rows
unfolding slots_in
rows_fit zero groups rows = omega arith
rows_fit (suc n) groups rows =
    let f : SlotFields = fields_in (take SLOT_SIZE groups) in
    let rest : List Slot = slots_in n (drop SLOT_SIZE groups) (drop (row_len f) rows) in
    let one : length (flat_map row_bytes (slot_as f (take (row_len f) rows) ∷ rest)) ≡ length (take (row_len f) rows) + length (flat_map row_bytes rest)
    = ap (λ (x : List ℕ). length x) (flat_map-cons row_bytes (slot_as f (take (row_len f) rows)) rest) ∙ length-append (take (row_len f) rows) (flat_map row_bytes rest) in
    omega (arith, one, rows_fit n (drop SLOT_SIZE groups) (drop (row_len f) rows), length-take (row_len f) rows, length-drop (row_len f) rows)

room-ge-len : (w : Writer) (len room : ℕ) → len ≤ room_as w len room
room-ge-len (By t) len room = omega arith
room-ge-len (At c) len room = omega arith

roomy : (n : ℕ) (groups rows : List ℕ) → AllByRecursion (λ (s : Slot). length s.bytes ≤ s.room) (slots_in n groups rows)
unfolding slots_in
roomy zero groups rows = tt
roomy (suc n) groups rows =
    let f : SlotFields = fields_in (take SLOT_SIZE groups) in
    (room-ge-len (writer_as f.tag f.writer) (length (take (row_len f) rows)) f.room, roomy n (drop SLOT_SIZE groups) (drop (row_len f) rows))

formed : (n : ℕ) (groups rows : List ℕ) → AllByRecursion HasSlotForm (slots_in n groups rows)
unfolding slots_in
formed zero groups rows = tt
formed (suc n) groups rows =
    let f : SlotFields = fields_in (take SLOT_SIZE groups) in
    (slot_formed f (take (row_len f) rows) (omega (arith, length-take (row_len f) rows)), formed n (drop SLOT_SIZE groups) (drop (row_len f) rows))

pub read_fits : (e s : ℕ) (bytes body groups rows : List ℕ) (es : List ListEntry) (ss : List Slot) → length bytes ≡ BLOCK_SIZE → LEAST_LIST_ENTRIES ≤ e → e ≤ MOST_LIST_ENTRIES → s ≤ MOST_SLOTS → PAGE_HEAD_SIZE + LIST_ENTRY_SIZE * e + SLOT_SIZE * s ≤ BLOCK_SIZE
    → rows ≡ drop (PAGE_HEAD_SIZE + LIST_ENTRY_SIZE * e + SLOT_SIZE * s) bytes → es ≡ pieces_in entry_from LIST_ENTRY_SIZE e body → ss ≡ slots_in s groups rows → IsHeld (record { slots = ss; entries = es })
read_fits e s bytes body groups rows es ss long least most count room r is_e is_s =
    let entries : length es ≡ e = ap (λ (x : List ListEntry). length x) is_e ∙ length-pieces_in entry_from LIST_ENTRY_SIZE e body in
    let slots : length ss ≡ s = ap (λ (x : List Slot). length x) is_s ∙ length-slots_in s groups rows in
    let fits : length (flat_map row_bytes ss) ≤ length rows = rw is_s (rows_fit s groups rows) in
    let left : length rows ≡ length bytes - (PAGE_HEAD_SIZE + LIST_ENTRY_SIZE * e + SLOT_SIZE * s) = ap (λ (x : List ℕ). length x) r ∙ length-drop (PAGE_HEAD_SIZE + LIST_ENTRY_SIZE * e + SLOT_SIZE * s) bytes in
    record {
      slots = omega arith;
      least = omega arith;
      entries = omega arith;
      rooms = rw is_s (All-from_recursion (λ (s : Slot). length s.bytes ≤ s.room) (slots_in s groups rows) (roomy s groups rows));
      forms = rw is_s (All-from_recursion HasSlotForm (slots_in s groups rows) (formed s groups rows));
      size = omega (arith, laid_sizes ss);
    }
