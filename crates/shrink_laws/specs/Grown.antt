-- Where no Lower of a table came between, its data blocks of before are a first part of those of now, each at its position.
use Rattle.std.specs.Prelude.{◌≡◌, ℕ, Bool, false, eqb, List, ◌++◌, length, Contains}
use Rattle.seg_words.specs.Types.{Shape}
use Rattle.redo_model.specs.Records.{Record, Lower}
use Rattle.redo_model.specs.Model.{Extends, data_blocks, position}
use Rattle.redo_laws.specs.Since.{any_since}
use Rattle.shrink_laws.specs.Stops.{IsAt}

-- the record lowers table o
abbrev pub lowers : ℕ → Record → Bool
lowers o (Lower l) = eqb l.obj o
lowers o _ = false

pub record GrownSince (sh : Shape) (Q R : List Record) (o : ℕ) : Type 0 where
  pub far : List ℕ
  pub grown : data_blocks sh R o ≡ data_blocks sh Q o ++ far
  pub at : (i b : ℕ) → IsAt sh Q o i b → IsAt sh R o i b
  pub position : (b : ℕ) → Contains (data_blocks sh Q o) b → position sh R o b ≡ position sh Q o b

abbrev pub DataBlocksGrow : Type 0
DataBlocksGrow = (sh : Shape) (Q R : List Record) (o : ℕ) → Extends Q R → any_since (lowers o) (length Q) R ≡ false → GrownSince sh Q R o
