-- What an allowed record states of slots and list entries can be put into its blocks.
use Rattle.std.specs.Prelude.{◌≡◌, ℕ, ◌≤◌, ◌<◌, List, [], ◌∷◌, length, Some}
use Rattle.seg_words.specs.Types.{Shape, BLOCK_ROOM, LONGEST_ROW, MOST_SLOTS, MOST_LIST_ENTRIES}
use Rattle.redo_model.specs.Records.{Record, RowPart, BackPart}
use Rattle.redo_model.specs.Model.{Effect, effect_of, image, slot_count, entry_count, AreAllowed}
use Rattle.redo_model.specs.Effects.{Adds, TakesBack}

-- a part of a row record or a Move: its slot is there or is the next one, its list entry too, its image is small, and it
-- states the image that stands there
pub record PartFits (R : List Record) (p : RowPart) : Type 0 where
  pub there : p.slot ≤ slot_count R p.dba
  pub few : p.slot < MOST_SLOTS
  pub bytes : length p.new.bytes ≤ LONGEST_ROW
  pub room : p.new.room ≤ BLOCK_ROOM
  pub entry : (e : ℕ) → p.entry ≡ Some e → (e ≤ entry_count R p.dba) × (e < MOST_LIST_ENTRIES)
  pub old : p.old ≡ image R p.dba p.slot

-- a part of a Back
pub record BackPartFits (R : List Record) (p : BackPart) : Type 0 where
  pub there : p.slot < slot_count R p.dba
  pub few : p.slot < MOST_SLOTS
  pub bytes : length p.new.bytes ≤ LONGEST_ROW

abbrev pub EachFits : List Record → List RowPart → Type 0
EachFits R [] = Unit {0}
EachFits R (p ∷ ps) = PartFits R p × EachFits R ps

abbrev pub EachBackFits : List Record → List BackPart → Type 0
EachBackFits R [] = Unit {0}
EachBackFits R (p ∷ ps) = BackPartFits R p × EachBackFits R ps

abbrev pub EffectFits : List Record → Effect → Type 0
EffectFits R (Adds st) = EachFits R st.parts
EffectFits R (TakesBack t) = EachBackFits R t.parts
EffectFits R _ = Unit {0}

abbrev pub RecordsFitBlocks : Type 0
RecordsFitBlocks = (sh : Shape) (R : List Record) (r : Record) → AreAllowed sh (r ∷ R) → EffectFits R (effect_of r)
