-- A block names a transaction only where a row record of the transaction has a part in the block since its last FormatBlock.
use Rattle.std.specs.Prelude.{◌≡◌, ℕ, ◌≤◌, Bool, true, false, cond, ◌&&◌, ◌||◌, eqb, List, [], ◌∷◌}
use Rattle.seg_words.specs.Types.{Shape, By}
use Rattle.redo_model.specs.Records.{Record}
use Rattle.redo_model.specs.Model.{Effect, effect_of, written, is_by, has_begun, is_named_in, block_of, image, entry, AreAllowed}
use Rattle.redo_model.specs.Effects.{Formats, Adds}
use Rattle.redo_laws.specs.Added.{any_in}

abbrev pub wrote_after : Effect → ℕ → ℕ → Bool → Bool
wrote_after (Formats d) b t was = cond (eqb d b) false was
wrote_after (Adds st) b t was = (is_by st.by t && any_in (written st.parts) b) || was
wrote_after _ b t was = was

-- a row record of t has a part in block b since its last FormatBlock
abbrev pub has_written : List Record → ℕ → ℕ → Bool
has_written [] b t = false
has_written (r ∷ R) b t = wrote_after (effect_of r) b t (has_written R b t)

pub record NamesOf (R : List Record) (b : ℕ) : Type 0 where
  pub slots : (k t : ℕ) → (image R b k).writer ≡ By t → has_written R b t ≡ true
  pub entries : (i t : ℕ) → 1 ≤ t → (entry R b i).txn ≡ t → has_written R b t ≡ true
  pub named : (t : ℕ) → 1 ≤ t → is_named_in (block_of R b) t ≡ true → has_written R b t ≡ true
  pub begun : (t : ℕ) → has_written R b t ≡ true → has_begun R t ≡ true

abbrev pub NamedHaveWritten : Type 0
NamedHaveWritten = (sh : Shape) (R : List Record) (b : ℕ) → AreAllowed sh R → NamesOf R b
