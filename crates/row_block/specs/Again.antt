-- A row block's page that is spelled is read.
use Rattle.std.proofs.Common.{◌≡◌, ℕ, suc, ◌+◌, ◌-◌, ◌*◌, ◌≤◌, List, [], ◌∷◌, ◌++◌, length, take, drop, refl, sym, ap, ◌∙◌, append_assoc, arith, true, replicate, w32, w64, flat_map, sum_by, length-append}
use Rattle.seg_words.proofs.Lemmas.{AllByRecursion, flat_map-cons, sum_by-cons, from_be_bytes-to_be_bytes_4, from_be_bytes-to_be_bytes_8}
use Rattle.seg_words.specs.Types.{Slot, ListEntry, Writer, By, At, number_in, writer_has_ended, slot_size, slot_bytes, BLOCK_SIZE, PAGE_HEAD_SIZE, SLOT_SIZE, MOST_SLOTS, LIST_ENTRY_SIZE, LEAST_LIST_ENTRIES, MOST_LIST_ENTRIES}
use Rattle.page_bytes.specs.declared.slot.SlotFields.{SlotFields}
use Rattle.page_bytes.specs.Types.{head_bytes, pieces_in, fields_in, row_len, slot_as, IsSlot, entry_bytes, entry_from, IsListEntry}
use Rattle.page_bytes.specs.EntriesAgain.{length-entry_bytes, entry_again}
use Rattle.page_bytes.proofs.Fronts.{take_front, drop_front}
use Rattle.page_bytes.proofs.PiecesIn.{length-spelled, pieces_again}
use Rattle.page_bytes.proofs.SlotsAgain.{fields_of, length-slot_bytes, fields_again, slot_again, row_len_again}
use Rattle.row_block.specs.RowPage.{RowPage}
use Rattle.row_block.specs.Spelling.{row_bytes, front_of, spelling, IsRowPage, entry_count, slot_count, slots_in, page_with, page_in}

-- how long the parts of a page are
pub length-entries : (es : List ListEntry) → length (flat_map entry_bytes es) ≡ length es * LIST_ENTRY_SIZE
length-entries es = length-spelled entry_bytes LIST_ENTRY_SIZE es length-entry_bytes

pub length-slots : (ss : List Slot) → length (flat_map slot_bytes ss) ≡ length ss * SLOT_SIZE
length-slots ss = length-spelled slot_bytes SLOT_SIZE ss length-slot_bytes

all_ended : (w : Writer) → writer_has_ended (λ t. true) w ≡ true
all_ended (By t) = refl
all_ended (At c) = refl

laid_size : (s : Slot) → slot_size (λ t. true) s ≡ SLOT_SIZE + length s.bytes
laid_size s = rw (all_ended s.writer) refl

pub laid_sizes : (ss : List Slot) → sum_by (slot_size (λ t. true)) ss ≡ length ss * SLOT_SIZE + length (flat_map row_bytes ss)
laid_sizes [] = omega arith
laid_sizes (s ∷ ss) =
    let one : length (flat_map row_bytes (s ∷ ss)) ≡ length s.bytes + length (flat_map row_bytes ss) = ap (λ (x : List ℕ). length x) (flat_map-cons row_bytes s ss) ∙ length-append s.bytes (flat_map row_bytes ss) in
    omega (arith, one, sum_by-cons (slot_size (λ t. true)) s ss, laid_size s, laid_sizes ss)

-- slots, whatever follows them and their rows
one_slot : (s : Slot) (ss : List Slot) (g r : List ℕ) → IsSlot s → slots_in (length ss) g r ≡ ss → slots_in (suc (length ss)) (slot_bytes s ++ g) (s.bytes ++ r) ≡ s ∷ ss
unfolding slots_in
one_slot s ss g r fits others =
    let head : fields_in (take SLOT_SIZE (slot_bytes s ++ g)) ≡ fields_of s = ap fields_in (take_front (slot_bytes s) g SLOT_SIZE (length-slot_bytes s)) ∙ fields_again s fits in
    let rest : drop SLOT_SIZE (slot_bytes s ++ g) ≡ g = drop_front (slot_bytes s) g SLOT_SIZE (length-slot_bytes s) in
    let len : row_len (fields_of s) ≡ length s.bytes = row_len_again s fits in
    ap (λ (f : SlotFields). slot_as f (take (row_len f) (s.bytes ++ r)) ∷ slots_in (length ss) (drop SLOT_SIZE (slot_bytes s ++ g)) (drop (row_len f) (s.bytes ++ r))) head
    ∙ ap (λ (n : ℕ). slot_as (fields_of s) (take n (s.bytes ++ r)) ∷ slots_in (length ss) (drop SLOT_SIZE (slot_bytes s ++ g)) (drop n (s.bytes ++ r))) len
    ∙ ap (λ (x : List ℕ). slot_as (fields_of s) x ∷ slots_in (length ss) (drop SLOT_SIZE (slot_bytes s ++ g)) (drop (length s.bytes) (s.bytes ++ r))) (take_front s.bytes r (length s.bytes) refl)
    ∙ ap (λ (x : List ℕ). slot_as (fields_of s) s.bytes ∷ slots_in (length ss) (drop SLOT_SIZE (slot_bytes s ++ g)) x) (drop_front s.bytes r (length s.bytes) refl)
    ∙ ap (λ (x : List ℕ). slot_as (fields_of s) s.bytes ∷ slots_in (length ss) x r) rest
    ∙ ap (λ (x : Slot). x ∷ slots_in (length ss) g r) (slot_again s fits)
    ∙ ap (λ (xs : List Slot). s ∷ xs) others

slots_again : (ss : List Slot) (g r : List ℕ) → AllByRecursion IsSlot ss → slots_in (length ss) (flat_map slot_bytes ss ++ g) (flat_map row_bytes ss ++ r) ≡ ss
unfolding slots_in
slots_again [] g r fits = refl
slots_again (s ∷ ss) g r fits =
    let groups : flat_map slot_bytes (s ∷ ss) ++ g ≡ slot_bytes s ++ (flat_map slot_bytes ss ++ g) = ap (λ (x : List ℕ). x ++ g) (flat_map-cons slot_bytes s ss) ∙ append_assoc (slot_bytes s) (flat_map slot_bytes ss) g in
    let rows : flat_map row_bytes (s ∷ ss) ++ r ≡ s.bytes ++ (flat_map row_bytes ss ++ r) = ap (λ (x : List ℕ). x ++ r) (flat_map-cons row_bytes s ss) ∙ append_assoc s.bytes (flat_map row_bytes ss) r in
    ap (λ (x : List ℕ). slots_in (suc (length ss)) x (flat_map row_bytes (s ∷ ss) ++ r)) groups
    ∙ ap (λ (x : List ℕ). slots_in (suc (length ss)) (slot_bytes s ++ (flat_map slot_bytes ss ++ g)) x) rows
    ∙ one_slot s ss (flat_map slot_bytes ss ++ g) (flat_map row_bytes ss ++ r) fits.0 (slots_again ss g r fits.1)

-- a page in four parts and the zeros
whole : (dba lsn : ℕ) (es : List ListEntry) (ss : List Slot) (z : List ℕ) → List ℕ
whole dba lsn es ss z = head_bytes 11 (length es) (length ss) dba lsn ++ (flat_map entry_bytes es ++ (flat_map slot_bytes ss ++ (flat_map row_bytes ss ++ z)))

parts : (head E S R z : List ℕ) → (((head ++ E) ++ S) ++ R) ++ z ≡ head ++ (E ++ (S ++ (R ++ z)))
parts head E S R z = simp append_assoc

after_entries : (head E rest : List ℕ) (at : ℕ) → at ≡ length head + length E → drop at (head ++ (E ++ rest)) ≡ rest
after_entries head E rest at e = ap (drop at) (sym (append_assoc head E rest)) ∙ drop_front (head ++ E) rest at (omega (arith, e, length-append head E))

after_slots : (head E S rest : List ℕ) (at : ℕ) → at ≡ length head + length E + length S → drop at (head ++ (E ++ (S ++ rest))) ≡ rest
after_slots head E S rest at e = ap (λ (x : List ℕ). drop at (head ++ x)) (sym (append_assoc E S rest)) ∙ after_entries head (E ++ S) rest at (omega (arith, e, length-append E S))

counted_again : (e : ℕ) → LEAST_LIST_ENTRIES ≤ e → e ≤ MOST_LIST_ENTRIES → entry_count e ≡ e
counted_again e least most = omega arith

slots_counted_again : (e s : ℕ) → s ≤ MOST_SLOTS → PAGE_HEAD_SIZE + LIST_ENTRY_SIZE * e + SLOT_SIZE * s ≤ BLOCK_SIZE → slot_count e s ≡ s
slots_counted_again e s most room = omega arith

page_with_again : (p : RowPage) (z : List ℕ) → IsRowPage p → page_with (length p.block.entries) (length p.block.slots) (whole p.dba p.lsn p.block.entries p.block.slots z) ≡ p
unfolding whole
page_with_again p z is =
    let es : List ListEntry = p.block.entries in
    let ss : List Slot = p.block.slots in
    let head : List ℕ = head_bytes 11 (length es) (length ss) p.dba p.lsn in
    let rows : List ℕ = flat_map row_bytes ss ++ z in
    let groups : List ℕ = flat_map slot_bytes ss ++ rows in
    let d : number_in w32 (whole p.dba p.lsn es ss z) 4 ≡ p.dba = from_be_bytes-to_be_bytes_4 p.dba is.dba in
    let l : number_in w64 (whole p.dba p.lsn es ss z) 8 ≡ p.lsn = from_be_bytes-to_be_bytes_8 p.lsn is.lsn in
    let g : drop (PAGE_HEAD_SIZE + LIST_ENTRY_SIZE * length es) (whole p.dba p.lsn es ss z) ≡ groups = after_entries head (flat_map entry_bytes es) groups (PAGE_HEAD_SIZE + LIST_ENTRY_SIZE * length es) (omega (arith, length-entries es)) in
    let r : drop (PAGE_HEAD_SIZE + LIST_ENTRY_SIZE * length es + SLOT_SIZE * length ss) (whole p.dba p.lsn es ss z) ≡ rows = after_slots head (flat_map entry_bytes es) (flat_map slot_bytes ss) rows (PAGE_HEAD_SIZE + LIST_ENTRY_SIZE * length es + SLOT_SIZE * length ss) (omega (arith, length-entries es, length-slots ss)) in
    let e : pieces_in entry_from LIST_ENTRY_SIZE (length es) (drop PAGE_HEAD_SIZE (whole p.dba p.lsn es ss z)) ≡ es = pieces_again entry_bytes entry_from IsListEntry LIST_ENTRY_SIZE es groups length-entry_bytes entry_again is.entries in
    let s : slots_in (length ss) (drop (PAGE_HEAD_SIZE + LIST_ENTRY_SIZE * length es) (whole p.dba p.lsn es ss z)) (drop (PAGE_HEAD_SIZE + LIST_ENTRY_SIZE * length es + SLOT_SIZE * length ss) (whole p.dba p.lsn es ss z)) ≡ ss
    = ap (λ (x : List ℕ). slots_in (length ss) x (drop (PAGE_HEAD_SIZE + LIST_ENTRY_SIZE * length es + SLOT_SIZE * length ss) (whole p.dba p.lsn es ss z))) g ∙ ap (λ (x : List ℕ). slots_in (length ss) groups x) r ∙ slots_again ss rows z is.slots in
    rw (d, l, e, s) refl

whole_again : (p : RowPage) (z : List ℕ) → IsRowPage p → page_in (whole p.dba p.lsn p.block.entries p.block.slots z) ≡ p
unfolding whole page_in
whole_again p z is =
    let e : entry_count (length p.block.entries) ≡ length p.block.entries = counted_again (length p.block.entries) is.held.least is.held.entries in
    let s : slot_count (length p.block.entries) (length p.block.slots) ≡ length p.block.slots
    = slots_counted_again (length p.block.entries) (length p.block.slots) is.held.slots (omega (arith, laid_sizes p.block.slots, is.held.size, is.held.least)) in
    ap (λ (n : ℕ). page_with n (slot_count n (length p.block.slots)) (whole p.dba p.lsn p.block.entries p.block.slots z)) e
    ∙ ap (λ (n : ℕ). page_with (length p.block.entries) n (whole p.dba p.lsn p.block.entries p.block.slots z)) s
    ∙ page_with_again p z is

pub page_again : (p : RowPage) → IsRowPage p → page_in (spelling p) ≡ p
unfolding whole spelling
page_again p is =
    let z : List ℕ = replicate (BLOCK_SIZE - length (front_of p)) 0 in
    ap page_in (parts (head_bytes 11 (length p.block.entries) (length p.block.slots) p.dba p.lsn) (flat_map entry_bytes p.block.entries) (flat_map slot_bytes p.block.slots) (flat_map row_bytes p.block.slots) z)
    ∙ whole_again p z is
