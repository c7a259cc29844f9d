-- The images of a slot, newest first, and which of them a scan at a commit number sees: read consistency by undo (Oracle
-- Database Concepts, "Multiversion Read Consistency"). That a migrated row is met at its body is this engine's own.
use Rattle.std.specs.Prelude.{◌≡◌, ℕ, zero, suc, Bool, true, cond, not, ◌||◌, eqb, leb, List, [], ◌∷◌, ◌++◌, map, Option, Some, None, filter}
use Rattle.seg_words.specs.Types.{Writer, By, At, UndoAddr, Slot}
use Rattle.redo_model.specs.Records.{Record, RowPart}
use Rattle.redo_model.specs.Effects.{Step, Effect, Still, Formats, Adds, TakesBack, Cleans, effect_of, part_addr}
use Rattle.redo_model.specs.Transactions.{is_committed_by}
use Rattle.redo_model.specs.Steps.{is_addr}
use Rattle.redo_model.specs.Slots.{is_place, image, slot_count}
use Rattle.redo_model.specs.Tables.{holds_row}

-- what a record did to a slot: who made the new image, the undo address of the record, that of this slot's part, and the
-- old image that the part states
pub record Made : Type 0 where
  pub by : Writer
  pub undo : UndoAddr
  pub part : UndoAddr
  pub old : Slot

-- the first of these parts of a step that names the slot, the first of them standing at place i of the record
abbrev pub made_by : Step → ℕ → List RowPart → ℕ → ℕ → List Made → List Made
made_by st i [] b k ms = ms
made_by st i (p ∷ ps) b k ms = cond (is_place p.dba p.slot b k) (record { by = st.by; undo = st.undo; part = part_addr st.undo i; old = p.old } ∷ ms) (made_by st (suc i) ps b k ms)

-- those that aren't of the record with this undo address
abbrev pub without : UndoAddr → List Made → List Made
without a ms = filter (λ (m : Made). not (is_addr m.undo a)) ms

abbrev pub changed_makers : Effect → ℕ → ℕ → List Made → List Made
changed_makers Still b k ms = ms
changed_makers (Formats d) b k ms = cond (eqb d b) [] ms
changed_makers (Adds st) b k ms = made_by st 0 st.parts b k ms
changed_makers (TakesBack t) b k ms = without t.undo ms
changed_makers (Cleans d done) b k ms = ms

-- what the records that aren't taken back did to slot k of block b since the last FormatBlock of the block, newest first
abbrev pub makers : List Record → ℕ → ℕ → List Made
makers [] b k = []
makers (r ∷ R) b k = changed_makers (effect_of r) b k (makers R b k)

-- The images of the slot, newest first: the one that stands there, then the old images. The last one is the new Empty
-- slot. Image j was made by the j-th of the makers.
abbrev pub images : List Record → ℕ → ℕ → List Slot
images R b k = image R b k ∷ map (λ (m : Made). m.old) (makers R b k)

-- a record by this writer belongs to t or to the first s commits
abbrev pub counts : List Record → ℕ → ℕ → Writer → Bool
counts R s t (By u) = eqb u t || is_committed_by R s u
counts R s t (At c) = leb c s

abbrev pub Counts : List Record → ℕ → ℕ → Writer → Type 0
Counts R s t w = counts R s t w ≡ true

-- the first image that counts, from the newest on, by what counts of writers and undo addresses: the last always does
abbrev pub first_counted : (Writer → UndoAddr → Bool) → Slot → List Made → Slot
first_counted c i [] = i
first_counted c i (m ∷ ms) = cond (c m.by m.undo) i (first_counted c m.old ms)

-- slot k of block b at s for t
abbrev pub image_at : List Record → ℕ → ℕ → ℕ → ℕ → Slot
image_at R b k s t = first_counted (λ w a. counts R s t w) (image R b k) (makers R b k)

-- the row in an image: at a Row or a Body
abbrev pub row_in : Slot → Option (ℕ × List ℕ)
row_in i = cond (holds_row i.kind) (Some (i.row, i.bytes)) None

-- the row in slot k of block b at s for t
abbrev pub row_at : List Record → ℕ → ℕ → ℕ → ℕ → Option (ℕ × List ℕ)
row_at R b k s t = row_in (image_at R b k s t)

-- what is found at the numbers below n
abbrev pub found_below : {A : Type 0} → (ℕ → Option A) → ℕ → List A
found_below f zero = []
found_below f (suc n) = elim (f n) [ None ↦ found_below f n | Some x ↦ found_below f n ++ x ∷ [] ]

-- what block b gives at s for t: the rows of its slots, in order of slots
abbrev pub rows_at : List Record → ℕ → ℕ → ℕ → List (ℕ × List ℕ)
rows_at R b s t = found_below (λ k. row_at R b k s t) (slot_count R b)
