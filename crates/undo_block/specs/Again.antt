-- An undo block's page that is spelled is read.
use Rattle.std.proofs.Common.{◌≡◌, ℕ, zero, suc, ◌+◌, ◌-◌, ◌*◌, ◌<◌, ◌≤◌, ◌^◌, false, List, [], ◌∷◌, ◌++◌, length, take, drop, refl, ap, ◌∙◌, append_assoc, arith, Option, Some, None, replicate, nat_lt, w16, w32, w64, flat_map, length-append, le-ltb}
use Rattle.seg_words.proofs.Lemmas.{AllByRecursion, flat_map-cons, sum_by-cons, from_be_bytes-to_be_bytes_2, from_be_bytes-to_be_bytes_4, from_be_bytes-to_be_bytes_8}
use Rattle.seg_words.specs.Types.{UndoPlace, number_in, slot_bytes, BLOCK_SIZE, UNDO_PART_SIZE}
use Rattle.page_bytes.specs.declared.slot.SlotFields.{SlotFields}
use Rattle.page_bytes.specs.Types.{fields_in, row_len, slot_as}
use Rattle.page_bytes.proofs.Fronts.{take_front, drop_front}
use Rattle.page_bytes.proofs.SlotsAgain.{fields_of as slot_fields, length-slot_bytes, fields_again, slot_again, row_len_again}
use Rattle.undo_block.specs.declared.part.Part.{Part}
use Rattle.undo_block.specs.Parts.{part_size, used_by}
use Rattle.undo_block.specs.UndoPage.{UndoPage, previous_or_zeros, previous_as, part_head, part_bytes, front_of, spelling, len_in, part_from, parts_in, page_in, PlaceFits, IsPart, IsUndoPage}

length-part_head : (p : Part) → length (part_head p) ≡ 24
length-part_head p = refl

-- the 64 bytes of a part
group : Part → List ℕ
group p = part_head p ++ slot_bytes p.old

length-group : (p : Part) → length (group p) ≡ UNDO_PART_SIZE
unfolding group
length-group p = length-append (part_head p) (slot_bytes p.old) ∙ ap (λ (n : ℕ). 24 + n) (length-slot_bytes p.old)

pub length-part_bytes : (p : Part) → length (part_bytes p) ≡ part_size p
unfolding part_bytes group
length-part_bytes p = length-append (group p) p.old.bytes ∙ ap (λ (n : ℕ). n + length p.old.bytes) (length-group p)

pub length-parts : (ps : List Part) → length (flat_map part_bytes ps) ≡ used_by ps
length-parts [] = refl
length-parts (p ∷ ps) =
    let one : length (flat_map part_bytes (p ∷ ps)) ≡ length (part_bytes p) + length (flat_map part_bytes ps) = ap (λ (x : List ℕ). length x) (flat_map-cons part_bytes p ps) ∙ length-append (part_bytes p) (flat_map part_bytes ps) in
    omega (arith, one, length-part_bytes p, length-parts ps, sum_by-cons part_size p ps)

-- each part takes 64 bytes at least
pub few_parts : (ps : List Part) → UNDO_PART_SIZE * length ps ≤ used_by ps
few_parts [] = omega arith
few_parts (p ∷ ps) = omega (arith, few_parts ps, sum_by-cons part_size p ps)

place_again : (o : Option UndoPlace) → PlaceFits o → previous_as (previous_or_zeros o).block (previous_or_zeros o).nth ≡ o
place_again None h = refl
place_again (Some p) h = some_place p.block p.nth h.0
  where
    some_place : (b nth : ℕ) → 0 < b → previous_as b nth ≡ Some (record { block = b; nth = nth })
    some_place zero nth h = absurd (omega arith)
    some_place (suc b) nth h = refl

place_block_fits : (o : Option UndoPlace) → PlaceFits o → (previous_or_zeros o).block < 2 ^ 32
place_block_fits None h = omega arith
place_block_fits (Some p) h = h.1

slot_of_group : (p : Part) → IsPart p → fields_in (drop 24 (group p)) ≡ slot_fields p.old
unfolding group
slot_of_group p fits = ap fields_in (drop_front (part_head p) (slot_bytes p.old) 24 (length-part_head p)) ∙ fields_again p.old fits.old

len_again : (p : Part) → IsPart p → len_in (group p) ≡ length p.old.bytes
len_again p fits = ap row_len (slot_of_group p fits) ∙ row_len_again p.old fits.old

part_again : (p : Part) → IsPart p → part_from (group p) p.old.bytes ≡ p
unfolding group
part_again p fits =
    let e1 : number_in w64 (group p) 0 ≡ p.txn = from_be_bytes-to_be_bytes_8 p.txn fits.txn in
    let e2 : number_in w32 (group p) 8 ≡ (previous_or_zeros p.previous).block = from_be_bytes-to_be_bytes_4 (previous_or_zeros p.previous).block (place_block_fits p.previous fits.previous) in
    let e3 : number_in w32 (group p) 13 ≡ p.dba = from_be_bytes-to_be_bytes_4 p.dba fits.dba in
    let e4 : slot_as (fields_in (drop 24 (group p))) p.old.bytes ≡ p.old = ap (λ (f : SlotFields). slot_as f p.old.bytes) (slot_of_group p fits) ∙ slot_again p.old fits.old in
    rw (e1, e2, e3, e4, place_again p.previous fits.previous) refl

pub next_parts : (n : ℕ) (bytes : List ℕ) → UNDO_PART_SIZE ≤ length bytes → parts_in (suc n) bytes ≡ part_from (take UNDO_PART_SIZE bytes) (take (len_in (take UNDO_PART_SIZE bytes)) (drop UNDO_PART_SIZE bytes)) ∷ parts_in n (drop (len_in (take UNDO_PART_SIZE bytes)) (drop UNDO_PART_SIZE bytes))
unfolding parts_in
next_parts n bytes le =
    let long : nat_lt (length bytes) UNDO_PART_SIZE ≡ false = le-ltb (length bytes) UNDO_PART_SIZE le in
    rw long refl

-- parts, whatever follows them
one_part : (p : Part) (n : ℕ) (ps : List Part) (behind : List ℕ) → IsPart p → parts_in n behind ≡ ps → parts_in (suc n) (part_bytes p ++ behind) ≡ p ∷ ps
unfolding part_bytes group
one_part p n ps behind fits others =
    let row : List ℕ = p.old.bytes in
    let whole : part_bytes p ++ behind ≡ group p ++ (row ++ behind) = append_assoc (group p) row behind in
    let long : UNDO_PART_SIZE ≤ length (group p ++ (row ++ behind)) = omega (arith, length-append (group p) (row ++ behind), length-group p) in
    let front : take UNDO_PART_SIZE (group p ++ (row ++ behind)) ≡ group p = take_front (group p) (row ++ behind) UNDO_PART_SIZE (length-group p) in
    let back : drop UNDO_PART_SIZE (group p ++ (row ++ behind)) ≡ row ++ behind = drop_front (group p) (row ++ behind) UNDO_PART_SIZE (length-group p) in
    ap (parts_in (suc n)) whole ∙ next_parts n (group p ++ (row ++ behind)) long
    ∙ ap (λ (g : List ℕ). part_from g (take (len_in g) (drop UNDO_PART_SIZE (group p ++ (row ++ behind)))) ∷ parts_in n (drop (len_in g) (drop UNDO_PART_SIZE (group p ++ (row ++ behind))))) front
    ∙ ap (λ (b : List ℕ). part_from (group p) (take (len_in (group p)) b) ∷ parts_in n (drop (len_in (group p)) b)) back
    ∙ ap (λ (k : ℕ). part_from (group p) (take k (row ++ behind)) ∷ parts_in n (drop k (row ++ behind))) (len_again p fits)
    ∙ ap (λ (r : List ℕ). part_from (group p) r ∷ parts_in n (drop (length row) (row ++ behind))) (take_front row behind (length row) refl)
    ∙ ap (λ (b : List ℕ). part_from (group p) row ∷ parts_in n b) (drop_front row behind (length row) refl)
    ∙ ap (λ (q : Part). q ∷ parts_in n behind) (part_again p fits) ∙ ap (λ (qs : List Part). p ∷ qs) others

pub parts_again : (ps : List Part) (rest : List ℕ) → AllByRecursion IsPart ps → parts_in (length ps) (flat_map part_bytes ps ++ rest) ≡ ps
unfolding parts_in
parts_again [] rest fits = refl
parts_again (p ∷ ps) rest fits =
    let behind : List ℕ = flat_map part_bytes ps ++ rest in
    let bytes : flat_map part_bytes (p ∷ ps) ++ rest ≡ part_bytes p ++ behind
    = ap (λ (x : List ℕ). x ++ rest) (flat_map-cons part_bytes p ps) ∙ append_assoc (part_bytes p) (flat_map part_bytes ps) rest in
    ap (parts_in (suc (length ps))) bytes ∙ one_part p (length ps) ps behind fits.0 (parts_again ps rest fits.1)

pub page_again : (u : UndoPage) → IsUndoPage u → page_in (spelling u) ≡ u
unfolding spelling page_in
page_again u fits =
    let zeros : List ℕ = replicate (BLOCK_SIZE - length (front_of u)) 0 in
    let e1 : number_in w32 (spelling u) 4 ≡ u.dba = from_be_bytes-to_be_bytes_4 u.dba fits.dba in
    let e2 : number_in w64 (spelling u) 8 ≡ u.lsn = from_be_bytes-to_be_bytes_8 u.lsn fits.lsn in
    let e3 : number_in w64 (spelling u) 16 ≡ u.sequence = from_be_bytes-to_be_bytes_8 u.sequence fits.sequence in
    let e4 : number_in w16 (spelling u) 26 ≡ length u.parts = from_be_bytes-to_be_bytes_2 (length u.parts) (omega (arith, fits.used, few_parts u.parts)) in
    let e5 : parts_in (length u.parts) (flat_map part_bytes u.parts ++ zeros) ≡ u.parts = parts_again u.parts zeros fits.parts in
    ap (λ (n : ℕ). parts_at n (spelling u)) e4 ∙ rw (e1, e2, e3, e5) refl
  where
    parts_at : ℕ → List ℕ → UndoPage
    parts_at n bytes = record { dba = number_in w32 bytes 4; lsn = number_in w64 bytes 8; sequence = number_in w64 bytes 16; parts = parts_in n (drop UNDO_PART_SIZE bytes) }
