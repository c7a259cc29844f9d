-- A row block as the records leave it, as a record of lists: what its page says, what it has free, its class, and what it
-- takes. Oracle Database Concepts, "Data Block Format" and "Percentage of Free Space in Data Blocks"; the sizes are this
-- engine's own.
use Rattle.std.specs.Prelude.{◌≡◌, ℕ, Bool, true, cond, eqb, List, [], ◌∷◌, map, Option, Some, None}
use Rattle.seg_words.specs.Types.{list_all, Class, Writer, By, At, Slot, ListEntry, Taker, Block, new_slot, new_entry, put, clean_slot, clean_entry, used_of as used_by, free_of as free_by, class_of_block as class_by, is_reusable, takes, fits}
use Rattle.redo_model.specs.Records.{Record, RowPart}
use Rattle.redo_model.specs.Effects.{Effect, Still, Formats, Adds, TakesBack, Cleans, effect_of, Placed, written, restored}
use Rattle.redo_model.specs.Transactions.{ended_in}

-- the slots of block b with these images put in: where two name one slot the first one stays
abbrev pub place_all : List Placed → ℕ → List Slot → List Slot
place_all [] b ss = ss
place_all (p ∷ ps) b ss = cond (eqb p.dba b) (put new_slot (place_all ps b ss) p.slot p.image) (place_all ps b ss)

abbrev pub changed_slots : Effect → ℕ → List Slot → List Slot
changed_slots Still b ss = ss
changed_slots (Formats d) b ss = cond (eqb d b) [] ss
changed_slots (Adds st) b ss = place_all (written st.parts) b ss
changed_slots (TakesBack t) b ss = place_all (restored t.parts) b ss
changed_slots (Cleans d done) b ss = cond (eqb d b) (map (clean_slot done) ss) ss

abbrev pub slots_of : List Record → ℕ → List Slot
slots_of [] b = []
slots_of (r ∷ R) b = changed_slots (effect_of r) b (slots_of R b)

abbrev pub enter_at : Option ℕ → ℕ → List ListEntry → List ListEntry
enter_at None t es = es
enter_at (Some i) t es = put new_entry es i (record { txn = t; number = 0 })

-- the list entries of block b with t entered where the parts say
abbrev pub enter_all : List RowPart → ℕ → ℕ → List ListEntry → List ListEntry
enter_all [] t b es = es
enter_all (p ∷ ps) t b es = cond (eqb p.dba b) (enter_at p.entry t (enter_all ps t b es)) (enter_all ps t b es)

abbrev pub enter_by : Writer → List RowPart → ℕ → List ListEntry → List ListEntry
enter_by (By t) ps b es = enter_all ps t b es
enter_by (At c) ps b es = es

abbrev pub changed_entries : Effect → ℕ → List ListEntry → List ListEntry
changed_entries (Formats d) b es = cond (eqb d b) (new_entry ∷ new_entry ∷ []) es
changed_entries (Adds st) b es = enter_by st.by st.parts b es
changed_entries (Cleans d done) b es = cond (eqb d b) (map (clean_entry done) es) es
changed_entries _ b es = es

abbrev pub entries_of : List Record → ℕ → List ListEntry
entries_of [] b = new_entry ∷ new_entry ∷ []
entries_of (r ∷ R) b = changed_entries (effect_of r) b (entries_of R b)

-- the slots and list entries of block b by the records since its last FormatBlock
abbrev pub block_of : List Record → ℕ → Block
block_of R b = record { slots = slots_of R b; entries = entries_of R b }

abbrev pub used_of : List Record → ℕ → ℕ
used_of R b = used_by (ended_in R) (block_of R b)

abbrev pub free_of : List Record → ℕ → ℕ
free_of R b = free_by (ended_in R) (block_of R b)

-- its class by the PCTFREE of its table
abbrev pub class_of_block : List Record → ℕ → ℕ → Class
class_of_block R pctfree b = class_by (ended_in R) pctfree (block_of R b)

abbrev pub takes_row : List Record → ℕ → ℕ → ℕ → Taker → Bool
takes_row R pctfree b len taker = takes (ended_in R) pctfree (block_of R b) len taker

-- it takes a row of this length for this taker
abbrev pub Takes : List Record → ℕ → ℕ → ℕ → Taker → Type 0
Takes R pctfree b len taker = takes_row R pctfree b len taker ≡ true

abbrev pub fits_in : List Record → ℕ → ℕ → ℕ → Taker → Bool
fits_in R b k len taker = fits (ended_in R) (block_of R b) k len taker

-- a row of this length fits in the slot in place of what is there
abbrev pub Fits : List Record → ℕ → ℕ → ℕ → Taker → Type 0
Fits R b k len taker = fits_in R b k len taker ≡ true

-- all its slots are Empty, and their last writers have ended
abbrev pub is_vacant_block : List Record → ℕ → Bool
is_vacant_block R b = list_all (is_reusable (ended_in R)) (slots_of R b)
