-- A block slot by slot and entry by entry, for laws: the image in a slot, the number of slots, the transaction in a list
-- entry, the number of entries. Oracle Database Concepts, "Data Block Format" (row directory, interested transaction
-- list); the numbers are this engine's own.
use Rattle.std.specs.Prelude.{ℕ, suc, max, Bool, false, cond, ◌&&◌, eqb, List, [], ◌∷◌, Option, Some, None}
use Rattle.seg_words.specs.Types.{Writer, By, At, Slot, ListEntry, new_slot, new_entry, clean_slot, clean_entry}
use Rattle.redo_model.specs.Records.{Record, RowPart}
use Rattle.redo_model.specs.Effects.{Effect, Still, Formats, Adds, TakesBack, Cleans, effect_of, Placed, written, restored}

-- a place in block b, slot k
abbrev pub is_place : ℕ → ℕ → ℕ → ℕ → Bool
is_place dba slot b k = eqb dba b && eqb slot k

-- the image that the first of these puts into a slot, or the old one
abbrev pub placed_in : List Placed → ℕ → ℕ → Slot → Slot
placed_in [] b k old = old
placed_in (p ∷ ps) b k old = cond (is_place p.dba p.slot b k) p.image (placed_in ps b k old)

abbrev pub changed_image : Effect → ℕ → ℕ → Slot → Slot
changed_image Still b k old = old
changed_image (Formats d) b k old = cond (eqb d b) new_slot old
changed_image (Adds st) b k old = placed_in (written st.parts) b k old
changed_image (TakesBack t) b k old = placed_in (restored t.parts) b k old
changed_image (Cleans d done) b k old = cond (eqb d b) (clean_slot done old) old

-- the image in slot k of block b: a slot that isn't there yet is as a new one
abbrev pub image : List Record → ℕ → ℕ → Slot
image [] b k = new_slot
image (r ∷ R) b k = changed_image (effect_of r) b k (image R b k)

-- how many slots the block has when these are put, of n
abbrev pub slots_reached : List Placed → ℕ → ℕ → ℕ
slots_reached [] b n = n
slots_reached (p ∷ ps) b n = cond (eqb p.dba b) (max (suc p.slot) (slots_reached ps b n)) (slots_reached ps b n)

abbrev pub changed_slot_count : Effect → ℕ → ℕ → ℕ
changed_slot_count Still b n = n
changed_slot_count (Formats d) b n = cond (eqb d b) 0 n
changed_slot_count (Adds st) b n = slots_reached (written st.parts) b n
changed_slot_count (TakesBack t) b n = slots_reached (restored t.parts) b n
changed_slot_count (Cleans d done) b n = n

abbrev pub slot_count : List Record → ℕ → ℕ
slot_count [] b = 0
slot_count (r ∷ R) b = changed_slot_count (effect_of r) b (slot_count R b)

-- an entry names i
abbrev pub is_at : Option ℕ → ℕ → Bool
is_at None i = false
is_at (Some j) i = eqb j i

-- what the parts of a step by t put into list entry i of block b, or the old one
abbrev pub entered_in : List RowPart → ℕ → ℕ → ℕ → ListEntry → ListEntry
entered_in [] t b i old = old
entered_in (p ∷ ps) t b i old = cond (eqb p.dba b && is_at p.entry i) (record { txn = t; number = 0 }) (entered_in ps t b i old)

abbrev pub entered_by : Writer → List RowPart → ℕ → ℕ → ListEntry → ListEntry
entered_by (By t) ps b i old = entered_in ps t b i old
entered_by (At c) ps b i old = old

abbrev pub changed_entry : Effect → ℕ → ℕ → ListEntry → ListEntry
changed_entry (Formats d) b i old = cond (eqb d b) new_entry old
changed_entry (Adds st) b i old = entered_by st.by st.parts b i old
changed_entry (Cleans d done) b i old = cond (eqb d b) (clean_entry done old) old
changed_entry _ b i old = old

-- list entry i of block b
abbrev pub entry : List Record → ℕ → ℕ → ListEntry
entry [] b i = new_entry
entry (r ∷ R) b i = changed_entry (effect_of r) b i (entry R b i)

abbrev pub reach_entry : Option ℕ → ℕ → ℕ
reach_entry None n = n
reach_entry (Some i) n = max (suc i) n

-- how many list entries the block has when these enter, of n
abbrev pub entries_reached : List RowPart → ℕ → ℕ → ℕ
entries_reached [] b n = n
entries_reached (p ∷ ps) b n = cond (eqb p.dba b) (reach_entry p.entry (entries_reached ps b n)) (entries_reached ps b n)

abbrev pub count_entered : Writer → List RowPart → ℕ → ℕ → ℕ
count_entered (By t) ps b n = entries_reached ps b n
count_entered (At c) ps b n = n

abbrev pub changed_entry_count : Effect → ℕ → ℕ → ℕ
changed_entry_count (Formats d) b n = cond (eqb d b) 2 n
changed_entry_count (Adds st) b n = count_entered st.by st.parts b n
changed_entry_count _ b n = n

abbrev pub entry_count : List Record → ℕ → ℕ
entry_count [] b = 2
entry_count (r ∷ R) b = changed_entry_count (effect_of r) b (entry_count R b)
