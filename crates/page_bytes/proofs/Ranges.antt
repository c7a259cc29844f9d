-- What bytes read as is in the range of its field.
use Rattle.std.proofs.Common.{◌≡◌, ℕ, zero, suc, ◌<◌, ◌≤◌, ◌^◌, List, [], ◌∷◌, length, get_or, take, drop, refl, arith, w16, w32, w64}
use Rattle.seg_words.proofs.Lemmas.{from_be_bytes, AllByRecursion}
use Rattle.seg_words.specs.Types.{Kind, Empty, Row, Head, Body, Writer, By, At, number_in, writer_number}
use Rattle.page_bytes.specs.Types.{SlotFields, pieces_in, fields_in, kind_as, writer_as, undo_as, link_as, len_as, room_as, row_len, slot_as, UndoFits, LinkFits, IsSlot, UndoIsThere, LinkIsThere, HasSlotForm, entry_from, IsListEntry}

abbrev pub IsBytes : List ℕ → Type 0
IsBytes bytes = (i : ℕ) → get_or bytes i 0 < 256

pub bytes_take : (n : ℕ) (bytes : List ℕ) → IsBytes bytes → IsBytes (take n bytes)
bytes_take zero bytes h i = omega arith
bytes_take (suc n) [] h i = omega arith
bytes_take (suc n) (x ∷ xs) h zero = h 0
bytes_take (suc n) (x ∷ xs) h (suc i) = bytes_take n xs (λ j. h (suc j)) i

pub bytes_drop : (n : ℕ) (bytes : List ℕ) → IsBytes bytes → IsBytes (drop n bytes)
bytes_drop zero bytes h = h
bytes_drop (suc n) [] h = h
bytes_drop (suc n) (x ∷ xs) h = bytes_drop n xs (λ j. h (suc j))

below_16 : (b : List ℕ) → IsBytes b → from_be_bytes w16 b < 2 ^ 16
below_16 b h = omega (arith, h 0, h 1)

below_32 : (b : List ℕ) → IsBytes b → from_be_bytes w32 b < 2 ^ 32
below_32 b h = omega (arith, h 0, h 1, h 2, h 3)

below_64 : (b : List ℕ) → IsBytes b → from_be_bytes w64 b < 2 ^ 64
below_64 b h = omega (arith, h 0, h 1, h 2, h 3, h 4, h 5, h 6, h 7)

pub number_16 : (bytes : List ℕ) (at : ℕ) → IsBytes bytes → number_in w16 bytes at < 2 ^ 16
number_16 bytes at h = below_16 (take 2 (drop at bytes)) (bytes_take 2 (drop at bytes) (bytes_drop at bytes h))

pub number_32 : (bytes : List ℕ) (at : ℕ) → IsBytes bytes → number_in w32 bytes at < 2 ^ 32
number_32 bytes at h = below_32 (take 4 (drop at bytes)) (bytes_take 4 (drop at bytes) (bytes_drop at bytes h))

pub number_64 : (bytes : List ℕ) (at : ℕ) → IsBytes bytes → number_in w64 bytes at < 2 ^ 64
number_64 bytes at h = below_64 (take 8 (drop at bytes)) (bytes_take 8 (drop at bytes) (bytes_drop at bytes h))

-- pieces of bytes
pub pieces_fit : {A : Type 0} (meaning : List ℕ → A) (Fits : A → Type 0) (size n : ℕ) (bytes : List ℕ) → ((piece : List ℕ) → IsBytes piece → Fits (meaning piece)) → IsBytes bytes → AllByRecursion Fits (pieces_in meaning size n bytes)
unfolding pieces_in
pieces_fit meaning Fits size zero bytes each h = tt
pieces_fit meaning Fits size (suc n) bytes each h = (each (take size bytes) (bytes_take size bytes h), pieces_fit meaning Fits size n (drop size bytes) each (bytes_drop size bytes h))

pub entry_fits : (g : List ℕ) → IsBytes g → IsListEntry (entry_from g)
entry_fits g h = record { txn = number_64 g 0 h; number = number_64 g 8 h }

-- slots
undo_fits : (block seq nth : ℕ) → block < 2 ^ 32 → seq < 2 ^ 64 → nth < 2 ^ 8 → UndoFits (undo_as block seq nth)
undo_fits zero seq nth b s n = tt
undo_fits (suc b) seq nth h s n = (omega arith, h, s, n)

link_fits : (dba slot : ℕ) → dba < 2 ^ 32 → slot < 2 ^ 8 → LinkFits (link_as dba slot)
link_fits zero slot d s = tt
link_fits (suc d) slot h s = (omega arith, h, s)

writer_fits : (tag n : ℕ) → n < 2 ^ 64 → writer_number (writer_as tag n) < 2 ^ 64
writer_fits zero n h = h
writer_fits (suc zero) n h = h
writer_fits (suc (suc tag)) n h = h

len_twice : (k : Kind) (n len : ℕ) → len ≤ len_as k n → len_as k len ≡ len
len_twice Empty n len h = omega arith
len_twice Row n len h = refl
len_twice Head n len h = omega arith
len_twice Body n len h = refl

len_below : (k : Kind) (n : ℕ) → len_as k n ≤ n
len_below Empty n = omega arith
len_below Row n = omega arith
len_below Head n = omega arith
len_below Body n = omega arith

room_twice : (w : Writer) (len room : ℕ) → room_as w len (room_as w len room) ≡ room_as w len room
room_twice (By t) len room = omega arith
room_twice (At c) len room = refl

room_below : (w : Writer) (len room : ℕ) → len < 2 ^ 16 → room < 2 ^ 16 → room_as w len room < 2 ^ 16
room_below (By t) len room l r = omega arith
room_below (At c) len room l r = l

-- a slot is one that has a spelling, whatever its 40 bytes are, where its row is no longer than they say
pub slot_fits : (g row : List ℕ) → IsBytes g → length row ≤ row_len (fields_in g) → IsSlot (slot_as (fields_in g) row)
slot_fits g row h le =
    let f : SlotFields = fields_in g in
    let small : length row < 2 ^ 16 = omega (arith, le, len_below (kind_as f.kind) f.len, number_16 g 36 h) in
    record {
      writer = writer_fits f.tag f.writer (number_64 g 2 h);
      undo = undo_fits f.undo_block f.undo_seq f.undo_nth (number_32 g 10 h) (number_64 g 14 h) (h 22);
      row = number_64 g 23 h;
      link = link_fits f.link_block f.link_slot (number_32 g 31 h) (h 35);
      bytes = small;
      len = len_twice (kind_as f.kind) f.len (length row) le;
      room_fits = room_below (writer_as f.tag f.writer) (length row) f.room small (number_16 g 38 h);
      room = room_twice (writer_as f.tag f.writer) (length row) f.room;
    }

-- whatever the fields are, the slot that they read as is of the form that has a spelling
undo_there : (block seq nth : ℕ) → UndoIsThere (undo_as block seq nth)
undo_there zero seq nth = tt
undo_there (suc b) seq nth = omega arith

link_there : (dba slot : ℕ) → LinkIsThere (link_as dba slot)
link_there zero slot = tt
link_there (suc d) slot = omega arith

pub slot_formed : (f : SlotFields) (row : List ℕ) → length row ≤ row_len f → HasSlotForm (slot_as f row)
slot_formed f row le = record {
  undo = undo_there f.undo_block f.undo_seq f.undo_nth;
  link = link_there f.link_block f.link_slot;
  len = len_twice (kind_as f.kind) f.len (length row) le;
  room = room_twice (writer_as f.tag f.writer) (length row) f.room;
}
