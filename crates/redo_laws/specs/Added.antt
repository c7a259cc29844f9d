-- What one more record does to blocks, tables and images.
use Rattle.std.specs.Prelude.{◌≡◌, ℕ, Bool, true, false, ◌||◌, eqb, List, [], ◌∷◌, map, Some}
use Rattle.seg_words.specs.Types.{new_slot, clean_slot, Shape}
use Rattle.redo_model.specs.Records.{Record, FormatBlock, Move, Clean, MoveRecord, FormatBlockRecord, CleanRecord, RowPart}
use Rattle.redo_model.specs.Model.{Step, Effect, effect_of, Placed, written, restored, newest_of, standing, table_at, AreAllowed, block_of, is_place, placed_in, image, slot_count, entry, entry_count, Made, makers, images}
use Rattle.redo_model.specs.Effects.{Still, Formats, Adds, TakesBack, Cleans}

abbrev pub any_in : List Placed → ℕ → Bool
any_in [] b = false
any_in (p ∷ ps) b = eqb p.dba b || any_in ps b

-- the effect names block b
abbrev pub is_change : Effect → ℕ → Bool
is_change Still b = false
is_change (Formats d) b = eqb d b
is_change (Adds st) b = any_in (written st.parts) b
is_change (TakesBack k) b = any_in (restored k.parts) b
is_change (Cleans d cs) b = eqb d b

-- what a row block is, as one value and slot by slot
pub record SameBlock (R Q : List Record) (b : ℕ) : Type 0 where
  pub value : block_of R b ≡ block_of Q b
  pub image : (k : ℕ) → image R b k ≡ image Q b k
  pub slots : slot_count R b ≡ slot_count Q b
  pub entry : (i : ℕ) → entry R b i ≡ entry Q b i
  pub entries : entry_count R b ≡ entry_count Q b

-- a record that doesn't name a block leaves its slots and entries
abbrev pub OthersAreLeft : Type 0
OthersAreLeft = (R : List Record) (r : Record) (b : ℕ) → is_change (effect_of r) b ≡ false → SameBlock (r ∷ R) R b

-- a Move changes no table
abbrev pub MovesKeepTables : Type 0
MovesKeepTables = (R : List Record) (m : MoveRecord) (o s n : ℕ) → table_at (Move m ∷ R) o s n ≡ table_at R o s n

-- the parts name the slot
abbrev pub names_slot : List RowPart → ℕ → ℕ → Bool
names_slot [] b k = false
names_slot (p ∷ ps) b k = is_place p.dba p.slot b k || names_slot ps b k

-- the images of a slot after a row record or a Move: the new one over those before, where a part names it
pub record ImagesAdded (R : List Record) (r : Record) (st : Step) (b k : ℕ) : Type 0 where
  pub named : names_slot st.parts b k ≡ true → images (r ∷ R) b k ≡ placed_in (written st.parts) b k (image R b k) ∷ images R b k
  pub left : names_slot st.parts b k ≡ false → images (r ∷ R) b k ≡ images R b k

-- the images of a slot after a Back: those before without the newest, where the record that is taken back names it
pub record ImagesBack (R : List Record) (r : Record) (st : Step) (b k : ℕ) : Type 0 where
  pub named : names_slot st.parts b k ≡ true → images R b k ≡ image R b k ∷ images (r ∷ R) b k
  pub left : names_slot st.parts b k ≡ false → images (r ∷ R) b k ≡ images R b k

abbrev pub ImagesAfter : Effect → List Record → Record → ℕ → ℕ → Type 0
ImagesAfter (Adds st) R r b k = ImagesAdded R r st b k
ImagesAfter (TakesBack t) R r b k = (st : Step) → newest_of (standing R) t.txn ≡ Some st → ImagesBack R r st b k
ImagesAfter _ R r b k = Unit {0}

abbrev pub ImagesAfterSteps : Type 0
ImagesAfterSteps = (sh : Shape) (R : List Record) (r : Record) (b k : ℕ) → AreAllowed sh (r ∷ R) → ImagesAfter (effect_of r) R r b k

-- a slot after a FormatBlock of its block, and after a Clean of it
pub record ImagesOfOne (R : List Record) : Type 0 where
  pub formatted : (f : FormatBlockRecord) (k : ℕ) → images (FormatBlock f ∷ R) f.dba k ≡ new_slot ∷ []
  pub cleaned : (c : CleanRecord) (k : ℕ) → images (Clean c ∷ R) c.dba k ≡ clean_slot c.ended (image R c.dba k) ∷ map (λ (m : Made). m.old) (makers R c.dba k)

abbrev pub ImagesAfterOne : Type 0
ImagesAfterOne = (R : List Record) → ImagesOfOne R
