-- When the effect of a record can be had on the page of a row block: its images one after the other, the last part first,
-- and then its list entries.
use Rattle.std.specs.Prelude.{◌≡◌, ℕ, true, eqb, List, [], ◌∷◌, Option, Some, None}
use Rattle.seg_words.specs.Types.{Writer, By, At, Block}
use Rattle.row_block.specs.Types.{CanPut, CanEnter}
use Rattle.redo_model.specs.Records.{RowPart}
use Rattle.redo_model.specs.Model.{Effect, Placed, written, restored, place_all, enter_all}
use Rattle.redo_model.specs.Effects.{Still, Formats, Adds, TakesBack, Cleans}

-- block b with these images put into its slots, the last one first
abbrev pub with_images : List Placed → ℕ → Block → Block
with_images ps b x = record { slots = place_all ps b x.slots; entries = x.entries }

-- block b with transaction t entered where the parts say
abbrev pub with_names : List RowPart → ℕ → ℕ → Block → Block
with_names ps t b x = record { slots = x.slots; entries = enter_all ps t b x.entries }

-- each of these images can be put, one after the other
abbrev pub ImagesFit : List Placed → ℕ → Block → Type 0
ImagesFit [] b x = Unit {0}
ImagesFit (p ∷ ps) b x = ImagesFit ps b x × (eqb p.dba b ≡ true → CanPut (with_images ps b x) p.slot p.image)

abbrev pub EntryFits : Option ℕ → Block → Type 0
EntryFits None x = Unit {0}
EntryFits (Some i) x = CanEnter x i

-- so for the list entries
abbrev pub NamesFit : List RowPart → ℕ → ℕ → Block → Type 0
NamesFit [] t b x = Unit {0}
NamesFit (p ∷ ps) t b x = NamesFit ps t b x × (eqb p.dba b ≡ true → EntryFits p.entry (with_names ps t b x))

abbrev pub WriterFits : Writer → List RowPart → ℕ → Block → Type 0
WriterFits (By t) ps b x = NamesFit ps t b x
WriterFits (At c) ps b x = Unit {0}

-- the effect can be had on this block
abbrev pub EffectFits : Effect → ℕ → Block → Type 0
EffectFits Still b x = ⊥
EffectFits (Formats d) b x = d ≡ b
EffectFits (Adds st) b x = ImagesFit (written st.parts) b x × WriterFits st.by st.parts b (with_images (written st.parts) b x)
EffectFits (TakesBack k) b x = ImagesFit (restored k.parts) b x
EffectFits (Cleans d cs) b x = d ≡ b
