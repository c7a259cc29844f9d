-- What keeps a block on its page.
use Rattle.std.proofs.Common.{◌≡◌, ℕ, suc, ◌+◌, ◌-◌, ◌*◌, ◌<◌, ◌≤◌, max, Bool, true, cond, ltb, leb, ◌&&◌, List, [], ◌∷◌, length, get_or, map, inl, inr, Option, Some, None, refl, sym, ap, ◌∙◌, arith, zero, sum_by, All, le-leb}
use Rattle.seg_words.proofs.Lemmas.{AllByRecursion, cases_Bool, cases_lt, nat_tests, length-map, All-set, All-push, recursion_from_All, All-from_recursion, sum_by-cons, sum_by-set, sum_by_push, get_or-le-sum_by}
use Rattle.seg_words.specs.Types.{Slot, ListEntry, Writer, By, At, Block, new_slot, new_entry, put, put_slot, put_entry, writer_has_ended, slot_size, used_of, free_of, entry_for, number_of_writer, as_told, clean_slot, clean_entry, clean_block, BLOCK_ROOM, SLOT_SIZE, MOST_SLOTS, LIST_ENTRY_SIZE, LEAST_LIST_ENTRIES, MOST_LIST_ENTRIES}
use Rattle.seg_base.proofs.Puts.{put_set, put_push, length-put}
use Rattle.seg_base.proofs.Rooms.{entry_for-within}
use Rattle.page_bytes.specs.Types.{room_as, HasSlotForm}
use Rattle.row_block.specs.Types.{RowPage, laid_out, IsImage, IsHeld, CanPut, CanEnter, counted, growth_of, need_of}

abbrev pub Roomy : Slot → Type 0
Roomy s = length s.bytes ≤ s.room

-- a slot of the form that has a spelling keeps its row within its room
pub roomy_form : (s : Slot) → HasSlotForm s → Roomy s
roomy_form s h = go s.writer (length s.bytes) s.room h.room
  where
    go : (w : Writer) (len room : ℕ) → room_as w len room ≡ room → len ≤ room
    go (By t) len room e = omega (arith, e)
    go (At c) len room e = omega (arith, e)

all_ended : (w : Writer) → writer_has_ended (λ t. true) w ≡ true
all_ended (By t) = refl
all_ended (At c) = refl

pub laid_size : (s : Slot) → slot_size (λ t. true) s ≡ SLOT_SIZE + length s.bytes
laid_size s = rw (all_ended s.writer) refl

-- a slot counts at least what it takes on the page
laid-le-size : (ended : ℕ → Bool) (s : Slot) → Roomy s → slot_size (λ t. true) s ≤ slot_size ended s
laid-le-size ended s h = elim (cases_Bool (writer_has_ended ended s.writer)) [
  | inl y ↦ rw (y, all_ended s.writer) (omega arith)
  | inr n ↦ rw (n, all_ended s.writer) (omega arith)
]

laid-le-sizes : (ended : ℕ → Bool) (ss : List Slot) → AllByRecursion Roomy ss → sum_by (slot_size (λ t. true)) ss ≤ sum_by (slot_size ended) ss
laid-le-sizes ended [] h = omega arith
laid-le-sizes ended (s ∷ ss) h = rw (sum_by-cons (slot_size (λ t. true)) s ss, sum_by-cons (slot_size ended) s ss) (omega (arith, laid-le-size ended s h.0, laid-le-sizes ended ss h.1))

pub laid_out-le-used : (ended : ℕ → Bool) (b : Block) → All Roomy b.slots → laid_out b ≤ used_of ended b
laid_out-le-used ended b h = omega (arith, laid-le-sizes ended b.slots (recursion_from_All Roomy b.slots h))

-- what a block counts with an image in slot k
pub sizes_put : (f : Slot → ℕ) (ss : List Slot) (k : ℕ) (v : Slot) → k ≤ length ss → sum_by f (put new_slot ss k v) + cond (ltb k (length ss)) (f (get_or ss k new_slot)) 0 ≡ sum_by f ss + f v
sizes_put f ss k v le = elim (cases_Bool (ltb k (length ss))) [
  | inl y ↦ (let lt : k < length ss = grind (arith, nat_tests) in rw (y, put_set new_slot ss k v lt) (sum_by-set f ss k v new_slot lt))
  | inr n ↦ (let last : k ≡ length ss = grind (arith, nat_tests) in rw (n, put_push new_slot ss k v last) (omega (arith, sum_by_push f ss v)))
]

pub used_put : (ended : ℕ → Bool) (b : Block) (k : ℕ) (v : Slot) → k ≤ length b.slots → used_of ended (put_slot k v b) + counted ended b k ≡ used_of ended b + slot_size ended v
used_put ended b k v le = omega (arith, sizes_put (slot_size ended) b.slots k v le)

pub counted-le-used : (ended : ℕ → Bool) (b : Block) (k : ℕ) → counted ended b k ≤ used_of ended b
counted-le-used ended b k = elim (cases_Bool (ltb k (length b.slots))) [
  | inl y ↦ (let lt : k < length b.slots = grind (arith, nat_tests) in rw y (omega (arith, get_or-le-sum_by (slot_size ended) b.slots k new_slot lt)))
  | inr n ↦ rw n (omega arith)
]

roomy_put : (ss : List Slot) (k : ℕ) (v : Slot) → k ≤ length ss → Roomy v → All Roomy ss → All Roomy (put new_slot ss k v)
roomy_put ss k v le h all = elim (cases_Bool (ltb k (length ss))) [
  | inl y ↦ (let lt : k < length ss = grind (arith, nat_tests) in rw (put_set new_slot ss k v lt) (All-set Roomy ss k v h all))
  | inr n ↦ (let last : k ≡ length ss = grind (arith, nat_tests) in rw (put_push new_slot ss k v last) (All-push Roomy ss v all h))
]

formed_put : (ss : List Slot) (k : ℕ) (v : Slot) → k ≤ length ss → HasSlotForm v → All HasSlotForm ss → All HasSlotForm (put new_slot ss k v)
formed_put ss k v le h all = elim (cases_Bool (ltb k (length ss))) [
  | inl y ↦ (let lt : k < length ss = grind (arith, nat_tests) in rw (put_set new_slot ss k v lt) (All-set HasSlotForm ss k v h all))
  | inr n ↦ (let last : k ≡ length ss = grind (arith, nat_tests) in rw (put_push new_slot ss k v last) (All-push HasSlotForm ss v all h))
]

pub held_put : (b : Block) (k : ℕ) (image : Slot) → IsHeld b → CanPut b k image → IsHeld (put_slot k image b)
held_put b k image h can = record {
  slots = omega (arith, length-put new_slot b.slots k image, h.slots, can.most);
  least = h.least;
  entries = h.entries;
  rooms = roomy_put b.slots k image can.at can.bytes h.rooms;
  forms = formed_put b.slots k image can.at can.form h.forms;
  size = can.size;
}

-- an image for which the bytes are free can be put
normal : (ended : ℕ → Bool) (b : Block) (k : ℕ) (image : Slot) → IsHeld b → k ≤ length b.slots → Roomy image → used_of ended b ≤ BLOCK_ROOM → growth_of ended b k image ≤ free_of ended b → laid_out (put_slot k image b) ≤ BLOCK_ROOM
normal ended b k image h at bytes used fits = omega (
  arith,
  used_put ended b k image at,
  counted-le-used ended b k,
  laid_out-le-used ended (put_slot k image b) (roomy_put b.slots k image at bytes h.rooms),
)

crowded : (ended : ℕ → Bool) (b : Block) (k : ℕ) (image : Slot) → IsHeld b → k ≤ length b.slots → BLOCK_ROOM < used_of ended b → growth_of (λ t. true) b k image ≤ free_of ended b → laid_out (put_slot k image b) ≤ BLOCK_ROOM
crowded ended b k image h at used fits = omega (arith, used_put (λ t. true) b k image at, counted-le-used (λ t. true) b k, h.size)

pub can_set : (ended : ℕ → Bool) (b : Block) (k : ℕ) (image : Slot) (need free : ℕ) → IsHeld b → k ≤ length b.slots → k < MOST_SLOTS → IsImage image → HasSlotForm image → need ≡ need_of ended b k image → free ≡ free_of ended b → need ≤ free → CanPut b k image
can_set ended b k image need free h at most is form n f le = record {
  at = at;
  most = most;
  bytes = is.bytes;
  form = form;
  size = elim (cases_Bool (leb (used_of ended b) BLOCK_ROOM)) [
    | inl y ↦ (let fits : growth_of ended b k image ≤ free_of ended b = rw (n, f, y) at le in normal ended b k image h at is.bytes (grind (arith, nat_tests)) fits)
    | inr z ↦ (let fits : growth_of (λ t. true) b k image ≤ free_of ended b = rw (n, f, z) at le in crowded ended b k image h at (grind (arith, nat_tests)) fits)
  ];
}

-- list entries
pub used_enter : (ended : ℕ → Bool) (b : Block) (i : ℕ) (e : ListEntry) → used_of ended (put_entry i e b) ≡ sum_by (slot_size ended) b.slots + LIST_ENTRY_SIZE * (max (suc i) (length b.entries) - 2)
used_enter ended b i e = ap (λ (n : ℕ). sum_by (slot_size ended) b.slots + LIST_ENTRY_SIZE * (n - LEAST_LIST_ENTRIES)) (length-put new_entry b.entries i e)

pub held_enter : (b : Block) (i : ℕ) (e : ListEntry) → IsHeld b → CanEnter b i → IsHeld (put_entry i e b)
held_enter b i e h can = record {
  slots = h.slots;
  least = omega (arith, length-put new_entry b.entries i e, h.least);
  entries = omega (arith, length-put new_entry b.entries i e, h.entries, can.most);
  rooms = h.rooms;
  forms = h.forms;
  size = omega (arith, used_enter (λ t. true) b i e, used_enter (λ t. true) b i new_entry, can.size);
}

-- an entry behind the last one is had only where 24 bytes are free
made_room : (n i room : ℕ) → cond (ltb n MOST_LIST_ENTRIES && leb LIST_ENTRY_SIZE room) (Some n) None ≡ Some i → LIST_ENTRY_SIZE ≤ room
made_room n i room e = grind (arith, nat_tests)

same : (a b : ℕ) → Some a ≡ Some b → a ≡ b
same a b e = cc

other_room : (q n i room : ℕ) → i ≡ n → cond (ltb q n) (Some q) (cond (ltb n MOST_LIST_ENTRIES && leb LIST_ENTRY_SIZE room) (Some n) None) ≡ Some i → LIST_ENTRY_SIZE ≤ room
other_room q n i room last e = elim (cases_Bool (ltb q n)) [
  | inl y ↦ absurd (let k : q ≡ i = same q i (rw y at e) in let l : q < n = grind (arith, nat_tests) in omega arith)
  | inr f ↦ (let d : cond (ltb n MOST_LIST_ENTRIES && leb LIST_ENTRY_SIZE room) (Some n) None ≡ Some i = rw f at e in made_room n i room d)
]

own_room : (p q n i room : ℕ) → i ≡ n → cond (ltb p n) (Some p) (cond (ltb q n) (Some q) (cond (ltb n MOST_LIST_ENTRIES && leb LIST_ENTRY_SIZE room) (Some n) None)) ≡ Some i → LIST_ENTRY_SIZE ≤ room
own_room p q n i room last e = elim (cases_Bool (ltb p n)) [
  | inl y ↦ absurd (let k : p ≡ i = same p i (rw y at e) in let l : p < n = grind (arith, nat_tests) in omega arith)
  | inr f ↦ (let d : cond (ltb q n) (Some q) (cond (ltb n MOST_LIST_ENTRIES && leb LIST_ENTRY_SIZE room) (Some n) None) ≡ Some i = rw f at e in other_room q n i room last d)
]

pub can_enter_for : (ended : ℕ → Bool) (b : Block) (t i : ℕ) → IsHeld b → entry_for ended b t ≡ Some i → CanEnter b i
can_enter_for ended b t i h e =
    let within : (i ≤ length b.entries) × (i < MOST_LIST_ENTRIES) = entry_for-within ended b t i h.entries e in
    record {
      at = within.0;
      most = within.1;
      size = elim (cases_lt i (length b.entries)) [
        | inl lt ↦ omega (arith, used_enter (λ t. true) b i new_entry, h.size)
        | inr le ↦ (let last : i ≡ length b.entries = omega arith in let free : LIST_ENTRY_SIZE ≤ free_of ended b = own_room _ _ _ _ _ last e in
            omega (arith, used_enter (λ t. true) b i new_entry, laid_out-le-used ended b h.rooms))
      ];
    }

-- a clean leaves the rows as they are
clean_roomy : (s : Slot) (o : Option ℕ) → Roomy s → Roomy (as_told s o)
clean_roomy s None h = h
clean_roomy s (Some zero) h = omega arith
clean_roomy s (Some (suc c)) h = omega arith

full_room : (w : Writer) (len : ℕ) → room_as w len len ≡ len
full_room (By t) len = omega arith
full_room (At c) len = refl

pub clean_form : (s : Slot) (o : Option ℕ) → HasSlotForm s → HasSlotForm (as_told s o)
clean_form s None h = h
clean_form s (Some zero) h = record { undo = h.undo; link = h.link; len = h.len; room = full_room s.writer (length s.bytes) }
clean_form s (Some (suc c)) h = record { undo = h.undo; link = h.link; len = h.len; room = refl }

told_bytes : (s : Slot) (o : Option ℕ) → (as_told s o).bytes ≡ s.bytes
told_bytes s None = refl
told_bytes s (Some zero) = refl
told_bytes s (Some (suc c)) = refl

pub cleaned_sizes : (cs : List (ℕ × ℕ)) (ss : List Slot) → sum_by (slot_size (λ t. true)) (map (clean_slot cs) ss) ≡ sum_by (slot_size (λ t. true)) ss
cleaned_sizes cs [] = refl
cleaned_sizes cs (s ∷ ss) =
    let one : slot_size (λ t. true) (clean_slot cs s) ≡ slot_size (λ t. true) s
    = laid_size (clean_slot cs s) ∙ ap (λ (x : List ℕ). SLOT_SIZE + length x) (told_bytes s (number_of_writer cs s.writer)) ∙ sym (laid_size s) in
    omega (arith, sum_by-cons (slot_size (λ t. true)) (clean_slot cs s) (map (clean_slot cs) ss), sum_by-cons (slot_size (λ t. true)) s ss, one, cleaned_sizes cs ss)

cleaned_rooms : (cs : List (ℕ × ℕ)) (ss : List Slot) → AllByRecursion Roomy ss → AllByRecursion Roomy (map (clean_slot cs) ss)
cleaned_rooms cs [] h = tt
cleaned_rooms cs (s ∷ ss) h = (clean_roomy s (number_of_writer cs s.writer) h.0, cleaned_rooms cs ss h.1)

cleaned_forms : (cs : List (ℕ × ℕ)) (ss : List Slot) → AllByRecursion HasSlotForm ss → AllByRecursion HasSlotForm (map (clean_slot cs) ss)
cleaned_forms cs [] h = tt
cleaned_forms cs (s ∷ ss) h = (clean_form s (number_of_writer cs s.writer) h.0, cleaned_forms cs ss h.1)

pub held_clean : (cs : List (ℕ × ℕ)) (b : Block) → IsHeld b → IsHeld (clean_block cs b)
held_clean cs b h = record {
  slots = rw (length-map b.slots (clean_slot cs)) h.slots;
  least = rw (length-map b.entries (clean_entry cs)) h.least;
  entries = rw (length-map b.entries (clean_entry cs)) h.entries;
  rooms = All-from_recursion Roomy (map (clean_slot cs) b.slots) (cleaned_rooms cs b.slots (recursion_from_All Roomy b.slots h.rooms));
  forms = All-from_recursion HasSlotForm (map (clean_slot cs) b.slots) (cleaned_forms cs b.slots (recursion_from_All HasSlotForm b.slots h.forms));
  size = omega (arith, cleaned_sizes cs b.slots, length-map b.entries (clean_entry cs), h.size);
}

-- the tests of a change
pub can_enter_old : (b : Block) (i : ℕ) → IsHeld b → i < length b.entries → i < MOST_LIST_ENTRIES → (true ≡ true → CanEnter b i) × (CanEnter b i → true ≡ true)
can_enter_old b i h lt most = ((λ _. record { at = omega arith; most = most; size = omega (arith, used_enter (λ t. true) b i new_entry, h.size) }), λ _. refl)

pub can_enter_new : (b : Block) (i used : ℕ) → IsHeld b → i ≤ length b.entries → length b.entries ≤ i → i < MOST_LIST_ENTRIES → used ≡ laid_out b → (leb (used + LIST_ENTRY_SIZE) BLOCK_ROOM ≡ true → CanEnter b i) × (CanEnter b i → leb (used + LIST_ENTRY_SIZE) BLOCK_ROOM ≡ true)
can_enter_new b i used h at last most is = (
  (λ t. record { at = at; most = most; size = (let le : used + LIST_ENTRY_SIZE ≤ BLOCK_ROOM = grind (arith, nat_tests) in omega (arith, used_enter (λ t. true) b i new_entry, h.least)) }),
  λ can. le-leb (used + LIST_ENTRY_SIZE) BLOCK_ROOM (omega (arith, used_enter (λ t. true) b i new_entry, can.size, h.least)),
)

pub can_put_test : (b : Block) (k : ℕ) (image : Slot) (used count len : ℕ) → k ≤ length b.slots → k < MOST_SLOTS → HasSlotForm image → len ≡ length image.bytes → used ≡ laid_out b → count ≡ counted (λ t. true) b k
    → (leb (used - count + SLOT_SIZE + len) BLOCK_ROOM ≡ true → CanPut b k image) × (CanPut b k image → leb (used - count + SLOT_SIZE + len) BLOCK_ROOM ≡ true)
can_put_test b k image used count len at most form l u c =
    let put : laid_out (put_slot k image b) + counted (λ t. true) b k ≡ laid_out b + (SLOT_SIZE + length image.bytes) = used_put (λ t. true) b k image at ∙ ap (λ (n : ℕ). laid_out b + n) (laid_size image) in
    let sum : laid_out (put_slot k image b) ≡ used - count + SLOT_SIZE + len = omega (arith, put, counted-le-used (λ t. true) b k, l, u, c) in (
      (λ t. record { at = at; most = most; bytes = roomy_form image form; form = form; size = (let le : used - count + SLOT_SIZE + len ≤ BLOCK_ROOM = grind (arith, nat_tests) in omega arith) }),
      λ can. le-leb (used - count + SLOT_SIZE + len) BLOCK_ROOM (omega (arith, can.size)),
    )

-- the same over what the code holds
pub put_inside : (dba lsn : ℕ) (slots slots' : List Slot) (entries : List ListEntry) (p : RowPage) (k : ℕ) (image : Slot) → record { dba = dba; lsn = lsn; block = record { slots = slots; entries = entries } } ≡ p → IsHeld (record { slots = slots; entries = entries })
    → CanPut p.block k image → slots' ≡ put new_slot slots k image → IsHeld (record { slots = slots'; entries = entries })
put_inside dba lsn slots slots' entries p k image is h can made =
    let here : CanPut (record { slots = slots; entries = entries }) k image = rw (← is) at can in
    rw made (held_put (record { slots = slots; entries = entries }) k image h here)

pub enter_inside : (dba lsn : ℕ) (slots : List Slot) (entries entries' : List ListEntry) (p : RowPage) (i : ℕ) (e : ListEntry) → record { dba = dba; lsn = lsn; block = record { slots = slots; entries = entries } } ≡ p → IsHeld (record { slots = slots; entries = entries })
    → CanEnter p.block i → entries' ≡ put new_entry entries i e → IsHeld (record { slots = slots; entries = entries' })
enter_inside dba lsn slots entries entries' p i e is h can made =
    let here : CanEnter (record { slots = slots; entries = entries }) i = rw (← is) at can in
    rw made (held_enter (record { slots = slots; entries = entries }) i e h here)

pub held_page : (dba lsn : ℕ) (b : Block) (p : RowPage) → record { dba = dba; lsn = lsn; block = b } ≡ p → IsHeld b → IsHeld p.block
held_page dba lsn b p is h = rw (← is) h

pub clean_inside : (cs : List (ℕ × ℕ)) (slots slots' : List Slot) (entries entries' : List ListEntry) → IsHeld (record { slots = slots; entries = entries }) → slots' ≡ map (clean_slot cs) slots → entries' ≡ map (clean_entry cs) entries → IsHeld (record { slots = slots'; entries = entries' })
clean_inside cs slots slots' entries entries' h s e = rw (s, e) (held_clean cs (record { slots = slots; entries = entries }) h)
