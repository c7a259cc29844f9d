-- A block as a record of lists gives each slot's image and each list entry.
use Rattle.std.proofs.Common.{◌≡◌, ℕ, zero, suc, max, cond, eqb, List, [], ◌∷◌, length, get_or, map, inl, inr, Option, Some, None, refl, ap, ◌∙◌}
use Rattle.seg_words.proofs.Lemmas.{cases_Bool, length-map}
use Rattle.seg_words.specs.Types.{Slot, ListEntry, Writer, By, At, new_slot, new_entry, number_of, entry_as_told, clean_slot, clean_entry}
use Rattle.seg_base.proofs.Puts.{get_or-put, length-put}
use Rattle.redo_model.specs.Records.{Record, RowPart}
use Rattle.redo_model.specs.Model.{Effect, effect_of, Placed, written, restored, placed_in, changed_image, image, slots_reached, changed_slot_count, slot_count, is_at, entered_in, entered_by, changed_entry, entry, reach_entry, entries_reached, count_entered, changed_entry_count, entry_count, place_all, changed_slots, slots_of, enter_at, enter_all, enter_by, changed_entries, entries_of, BlocksAreBridged}
use Rattle.redo_model.specs.Effects.{Still, Formats, Adds, TakesBack, Cleans}

-- slots

at_places : (ps : List Placed) (b : ℕ) (ss : List Slot) (k : ℕ) → get_or (place_all ps b ss) k new_slot ≡ placed_in ps b k (get_or ss k new_slot)
at_places [] b ss k = refl
at_places (p ∷ ps) b ss k =
    elim (cases_Bool (eqb p.dba b)) [
      | inl y ↦ rw (y, get_or-put new_slot (place_all ps b ss) p.slot p.image k) (ap (cond (eqb p.slot k) p.image) (at_places ps b ss k))
      | inr n ↦ rw n (at_places ps b ss k)
    ]

at_clean : (cs : List (ℕ × ℕ)) (ss : List Slot) (k : ℕ) → get_or (map (clean_slot cs) ss) k new_slot ≡ clean_slot cs (get_or ss k new_slot)
at_clean cs [] k = refl
at_clean cs (s ∷ ss) zero = refl
at_clean cs (s ∷ ss) (suc k) = at_clean cs ss k

at_effect : (e : Effect) (b : ℕ) (ss : List Slot) (k : ℕ) → get_or (changed_slots e b ss) k new_slot ≡ changed_image e b k (get_or ss k new_slot)
at_effect Still b ss k = refl
at_effect (Formats d) b ss k = elim (cases_Bool (eqb d b)) [ inl y ↦ rw y refl | inr n ↦ rw n refl ]
at_effect (Adds st) b ss k = at_places (written st.parts) b ss k
at_effect (TakesBack t) b ss k = at_places (restored t.parts) b ss k
at_effect (Cleans d cs) b ss k = elim (cases_Bool (eqb d b)) [ inl y ↦ rw y (at_clean cs ss k) | inr n ↦ rw n refl ]

pub image_is : (R : List Record) (b k : ℕ) → get_or (slots_of R b) k new_slot ≡ image R b k
image_is [] b k = refl
image_is (r ∷ R) b k = at_effect (effect_of r) b (slots_of R b) k ∙ ap (changed_image (effect_of r) b k) (image_is R b k)

count_places : (ps : List Placed) (b : ℕ) (ss : List Slot) → length (place_all ps b ss) ≡ slots_reached ps b (length ss)
count_places [] b ss = refl
count_places (p ∷ ps) b ss =
    elim (cases_Bool (eqb p.dba b)) [
      | inl y ↦ rw y (length-put new_slot (place_all ps b ss) p.slot p.image ∙ ap (max (suc p.slot)) (count_places ps b ss))
      | inr n ↦ rw n (count_places ps b ss)
    ]

count_effect : (e : Effect) (b : ℕ) (ss : List Slot) → length (changed_slots e b ss) ≡ changed_slot_count e b (length ss)
count_effect Still b ss = refl
count_effect (Formats d) b ss = elim (cases_Bool (eqb d b)) [ inl y ↦ rw y refl | inr n ↦ rw n refl ]
count_effect (Adds st) b ss = count_places (written st.parts) b ss
count_effect (TakesBack t) b ss = count_places (restored t.parts) b ss
count_effect (Cleans d cs) b ss = elim (cases_Bool (eqb d b)) [ inl y ↦ rw y (length-map ss (clean_slot cs)) | inr n ↦ rw n refl ]

pub count_is : (R : List Record) (b : ℕ) → length (slots_of R b) ≡ slot_count R b
count_is [] b = refl
count_is (r ∷ R) b = count_effect (effect_of r) b (slots_of R b) ∙ ap (changed_slot_count (effect_of r) b) (count_is R b)

-- list entries

at_enter : (o : Option ℕ) (t : ℕ) (es : List ListEntry) (i : ℕ) → get_or (enter_at o t es) i new_entry ≡ cond (is_at o i) (record { txn = t; number = 0 }) (get_or es i new_entry)
at_enter None t es i = refl
at_enter (Some j) t es i = get_or-put new_entry es j (record { txn = t; number = 0 }) i

at_entries : (ps : List RowPart) (t b : ℕ) (es : List ListEntry) (i : ℕ) → get_or (enter_all ps t b es) i new_entry ≡ entered_in ps t b i (get_or es i new_entry)
at_entries [] t b es i = refl
at_entries (p ∷ ps) t b es i =
    elim (cases_Bool (eqb p.dba b)) [
      | inl y ↦ rw (y, at_enter p.entry t (enter_all ps t b es) i) (ap (cond (is_at p.entry i) (record { txn = t; number = 0 })) (at_entries ps t b es i))
      | inr n ↦ rw n (at_entries ps t b es i)
    ]

at_entered : (w : Writer) (ps : List RowPart) (b : ℕ) (es : List ListEntry) (i : ℕ) → get_or (enter_by w ps b es) i new_entry ≡ entered_by w ps b i (get_or es i new_entry)
at_entered (By t) ps b es i = at_entries ps t b es i
at_entered (At c) ps b es i = refl

new_stays : (o : Option ℕ) → new_entry ≡ entry_as_told new_entry o
new_stays None = refl
new_stays (Some c) = refl

clean_entries : (cs : List (ℕ × ℕ)) (es : List ListEntry) (i : ℕ) → get_or (map (clean_entry cs) es) i new_entry ≡ clean_entry cs (get_or es i new_entry)
clean_entries cs [] i = new_stays (number_of cs 0)
clean_entries cs (e ∷ es) zero = refl
clean_entries cs (e ∷ es) (suc i) = clean_entries cs es i

two_new : (i : ℕ) → get_or (new_entry ∷ new_entry ∷ []) i new_entry ≡ new_entry
two_new zero = refl
two_new (suc zero) = refl
two_new (suc (suc i)) = refl

entries_effect : (e : Effect) (b : ℕ) (es : List ListEntry) (i : ℕ) → get_or (changed_entries e b es) i new_entry ≡ changed_entry e b i (get_or es i new_entry)
entries_effect Still b es i = refl
entries_effect (Formats d) b es i = elim (cases_Bool (eqb d b)) [ inl y ↦ rw y (two_new i) | inr n ↦ rw n refl ]
entries_effect (Adds st) b es i = at_entered st.by st.parts b es i
entries_effect (TakesBack t) b es i = refl
entries_effect (Cleans d cs) b es i = elim (cases_Bool (eqb d b)) [ inl y ↦ rw y (clean_entries cs es i) | inr n ↦ rw n refl ]

pub entry_is : (R : List Record) (b i : ℕ) → get_or (entries_of R b) i new_entry ≡ entry R b i
entry_is [] b i = two_new i
entry_is (r ∷ R) b i = entries_effect (effect_of r) b (entries_of R b) i ∙ ap (changed_entry (effect_of r) b i) (entry_is R b i)

count_enter : (o : Option ℕ) (t : ℕ) (es : List ListEntry) → length (enter_at o t es) ≡ reach_entry o (length es)
count_enter None t es = refl
count_enter (Some j) t es = length-put new_entry es j (record { txn = t; number = 0 })

count_entries : (ps : List RowPart) (t b : ℕ) (es : List ListEntry) → length (enter_all ps t b es) ≡ entries_reached ps b (length es)
count_entries [] t b es = refl
count_entries (p ∷ ps) t b es =
    elim (cases_Bool (eqb p.dba b)) [
      | inl y ↦ rw y (count_enter p.entry t (enter_all ps t b es) ∙ ap (reach_entry p.entry) (count_entries ps t b es))
      | inr n ↦ rw n (count_entries ps t b es)
    ]

count_by : (w : Writer) (ps : List RowPart) (b : ℕ) (es : List ListEntry) → length (enter_by w ps b es) ≡ count_entered w ps b (length es)
count_by (By t) ps b es = count_entries ps t b es
count_by (At c) ps b es = refl

entry_count_effect : (e : Effect) (b : ℕ) (es : List ListEntry) → length (changed_entries e b es) ≡ changed_entry_count e b (length es)
entry_count_effect Still b es = refl
entry_count_effect (Formats d) b es = elim (cases_Bool (eqb d b)) [ inl y ↦ rw y refl | inr n ↦ rw n refl ]
entry_count_effect (Adds st) b es = count_by st.by st.parts b es
entry_count_effect (TakesBack t) b es = refl
entry_count_effect (Cleans d cs) b es = elim (cases_Bool (eqb d b)) [ inl y ↦ rw y (length-map es (clean_entry cs)) | inr n ↦ rw n refl ]

pub entry_count_is : (R : List Record) (b : ℕ) → length (entries_of R b) ≡ entry_count R b
entry_count_is [] b = refl
entry_count_is (r ∷ R) b = entry_count_effect (effect_of r) b (entries_of R b) ∙ ap (changed_entry_count (effect_of r) b) (entry_count_is R b)

pub blocks_are_bridged : BlocksAreBridged
blocks_are_bridged R b = record { images = image_is R b; slots = count_is R b; entries = entry_is R b; entry_count = entry_count_is R b }
