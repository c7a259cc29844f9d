-- A slot holds what it held until a row record, a Back or a Move names it, or its block is formatted: cleaning changes only
-- whose the image is, and its room.
use Rattle.std.specs.Prelude.{◌≡◌, ℕ, Bool, false, ◌||◌, eqb, List, length}
use Rattle.redo_model.specs.Records.{Record}
use Rattle.redo_model.specs.Model.{Extends, Effect, effect_of, image}
use Rattle.redo_model.specs.Effects.{Formats}
use Rattle.redo_laws.specs.Since.{any_since}
use Rattle.shrink_laws.specs.Stops.{is_named_by}

abbrev pub formats : Effect → ℕ → Bool
formats (Formats d) b = eqb d b
formats _ b = false

-- a record since the first n names the slot or formats its block
abbrev pub is_written_since : ℕ → List Record → ℕ → ℕ → Bool
is_written_since n R b k = any_since (λ r. is_named_by (effect_of r) b k || formats (effect_of r) b) n R

pub record HoldsTheSame (Q R : List Record) (b k : ℕ) : Type 0 where
  pub kind : (image R b k).kind ≡ (image Q b k).kind
  pub row : (image R b k).row ≡ (image Q b k).row
  pub link : (image R b k).link ≡ (image Q b k).link
  pub bytes : (image R b k).bytes ≡ (image Q b k).bytes
  pub undo : (image R b k).undo ≡ (image Q b k).undo

abbrev pub SlotsHoldUntilNamed : Type 0
SlotsHoldUntilNamed = (Q R : List Record) (b k : ℕ) → Extends Q R → is_written_since (length Q) R b k ≡ false → HoldsTheSame Q R b k
