-- What the slots take on the page, kept beside them, and what can't go beside it.
use Rattle.std.proofs.Common.{◌≡◌, ℕ, ◌+◌, ◌-◌, ◌*◌, ◌≤◌, Bool, true, false, ltb, leb, ◌&&◌, List, [], length, get_or, cond, map, Option, Some, None, inl, inr, refl, sym, ap, ◌∙◌, arith, le-leb}
use Rattle.std.proofs.lemmas.Bool.{and_from, leb-true}
use Rattle.seg_words.proofs.Lemmas.{cases_Bool, and_parts}
use Rattle.seg_words.specs.Types.{Slot, ListEntry, Block, Taker, new_slot, put, slot_size, slot_to_use, slot_need, free_of, entry_need, has_room, takes_beside, takes, clean_slot, clean_entry, BLOCK_ROOM, MOST_SLOTS}
use Rattle.row_block.specs.Types.{laid_out, laid_slots, IsHeld, IsLaid}
use Rattle.row_block.proofs.Held.{sizes_put, counted-le-used, laid_out-le-used, clean_inside, cleaned_sizes}

-- an image is put in its place, or behind the last slot
pub laid_put : (ss : List Slot) (k laid old new : ℕ) (image : Slot) → k ≤ length ss → laid ≡ laid_slots ss → old ≡ cond (ltb k (length ss)) (slot_size (λ t. true) (get_or ss k new_slot)) 0 → new ≡ slot_size (λ t. true) image → laid - old + new ≡ laid_slots (put new_slot ss k image)
laid_put ss k laid old new image at l o n = omega (arith, sizes_put (slot_size (λ t. true)) ss k image at, counted-le-used (λ t. true) (record { slots = ss; entries = [] }) k, l, o, n)

-- a clean takes no byte off the page
pub laid_clean : (laid : ℕ) (cs : List (ℕ × ℕ)) (slots slots' : List Slot) (entries entries' : List ListEntry) → IsLaid laid (record { slots = slots; entries = entries }) → slots' ≡ map (clean_slot cs) slots → entries' ≡ map (clean_entry cs) entries → IsLaid laid (record { slots = slots'; entries = entries' })
laid_clean laid cs slots slots' entries entries' h s e = record {
  held = clean_inside cs slots slots' entries entries' h.held s e;
  slots = h.slots ∙ sym (cleaned_sizes cs slots) ∙ ap laid_slots (sym s);
}

-- what has room beside less has it where more is free, and a shorter row too
more_room : (pctfree less free len need : ℕ) → less ≤ free → len ≤ need → has_room pctfree less need ≡ true → has_room pctfree free len ≡ true
more_room pctfree less free len need f n h =
    let both = and_parts (leb need less) (leb (pctfree * BLOCK_ROOM) ((less - need) * 100)) h in
    let had : need ≤ less = leb-true need less both.0 in
    let left : pctfree * BLOCK_ROOM ≤ (less - need) * 100 = leb-true (pctfree * BLOCK_ROOM) ((less - need) * 100) both.1 in
    and_from (leb len free) (leb (pctfree * BLOCK_ROOM) ((free - len) * 100)) (le-leb len free (omega (arith, had, f, n)))
    (le-leb (pctfree * BLOCK_ROOM) ((free - len) * 100) (omega (arith, had, left, f, n)))

no_room : (pctfree less free len need : ℕ) → less ≤ free → len ≤ need → has_room pctfree free len ≡ false → has_room pctfree less need ≡ false
no_room pctfree less free len need f n h = elim (cases_Bool (has_room pctfree less need)) [
  | inl y ↦ absurd (let both : true ≡ false = sym (more_room pctfree less free len need f n y) ∙ h in cc)
  | inr z ↦ z
]

and_false : (x y : Bool) → y ≡ false → (x && y) ≡ false
and_false true y e = e
and_false false y e = refl

beside : (ended : ℕ → Bool) (pctfree : ℕ) (b : Block) (len : ℕ) (entry : Option ℕ) → IsHeld b → has_room pctfree (BLOCK_ROOM - laid_out b) len ≡ false → takes_beside ended pctfree b len entry ≡ false
beside ended pctfree b len None h full = refl
beside ended pctfree b len (Some entry) h full =
    and_false (ltb (slot_to_use ended b) MOST_SLOTS) (has_room pctfree (free_of ended b) (len + slot_need ended b + entry))
    (no_room pctfree (free_of ended b) (BLOCK_ROOM - laid_out b) len (len + slot_need ended b + entry) (omega (arith, laid_out-le-used ended b h.rooms)) (omega arith) full)

-- where a row doesn't go beside what the block takes on its page, the block takes it from nobody
pub takes_none : (ended : ℕ → Bool) (pctfree : ℕ) (b : Block) (len : ℕ) (taker : Taker) (may : Bool) → IsHeld b → may ≡ has_room pctfree (BLOCK_ROOM - laid_out b) len → may ≡ false → false ≡ takes ended pctfree b len taker
takes_none ended pctfree b len taker may h is full = sym (beside ended pctfree b len (entry_need ended b taker) h (sym is ∙ full))
