-- That an allowed record fits each row block that it names, in the words that a page's crate can use: its images one after
-- the other, the last part first, and then its list entries.
use Rattle.std.specs.Prelude.{◌≡◌, ℕ, true, List, [], ◌∷◌}
use Rattle.seg_words.specs.Types.{Shape}
use Rattle.redo_model.specs.Records.{Record, Back, RowPart, BackPart, BackRecord}
use Rattle.redo_model.specs.Model.{Step, Effect, effect_of, block_of, is_formatted, IsRowBlock, AreAllowed}
use Rattle.redo_model.specs.Effects.{Adds, TakesBack, Cleans}
use Rattle.redo_laws.specs.Among.{IsOneOf, is_in}
pub use Rattle.page_model.specs.Types.{blocks_of, back_blocks, with_images, with_names, ImagesFit, EntryFits, NamesFit, WriterFits, EffectFits}

-- the row blocks that an effect names, but for one that it formats
abbrev pub rows_named : Effect → List ℕ
rows_named (Adds st) = blocks_of st.parts
rows_named (TakesBack k) = back_blocks k.parts
rows_named (Cleans d cs) = d ∷ []
rows_named _ = []

abbrev pub StepsFitInTurn : Type 0
StepsFitInTurn = (sh : Shape) (R : List Record) (r : Record) (b : ℕ) → AreAllowed sh (r ∷ R) → is_in b (rows_named (effect_of r)) ≡ true → EffectFits (effect_of r) b (block_of R b)

-- a row block that an allowed record names is formatted
abbrev pub NamedBlocksAreFormatted : Type 0
NamedBlocksAreFormatted = (sh : Shape) (R : List Record) (r : Record) (b : ℕ) → AreAllowed sh (r ∷ R) → is_in b (rows_named (effect_of r)) ≡ true → is_formatted sh R b ≡ true

-- the block of a part is a row block of the record's table, and that of a part of a Back one of some table
pub record PartsAtHome (sh : Shape) (R : List Record) : Type 0 where
  pub step : (r : Record) (st : Step) (p : RowPart) → AreAllowed sh (r ∷ R) → effect_of r ≡ Adds st → IsOneOf p st.parts → IsRowBlock sh R st.obj p.dba
  pub back : (k : BackRecord) (p : BackPart) → AreAllowed sh (Back k ∷ R) → IsOneOf p k.parts → (o : ℕ) × IsRowBlock sh R o p.dba

abbrev pub PartsAreAtHome : Type 0
PartsAreAtHome = (sh : Shape) (R : List Record) → PartsAtHome sh R
