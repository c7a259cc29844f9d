-- The first block that passes, among those of an extent by their numbers, and among those of a table by their positions.
use Rattle.std.specs.Prelude.{◌≡◌, ℕ, ◌+◌, ◌<◌, ◌≤◌, Bool, true, false, not, List, slice_get, Option, Some, None}
use Rattle.seg_words.specs.Types.{Shape}
use Rattle.redo_model.specs.Records.{Record}
use Rattle.redo_model.specs.Model.{data_blocks, is_formatted}
use Rattle.free_search.specs.Looks.{found_if}

-- among the blocks of an extent that begins at block b, from one number on and below another
abbrev pub NoneOf : (ℕ → Bool) → ℕ → ℕ → ℕ → Type 0
NoneOf p b from to = (k : ℕ) → from ≤ k → k < to → p (b + k) ≡ false

pub record IsFirstOf (p : ℕ → Bool) (b from to c : ℕ) : Type 0 where
  pub nth : ℕ
  pub least : from ≤ nth
  pub below : nth < to
  pub block : c ≡ b + nth
  pub passes : p (b + nth) ≡ true
  pub none : NoneOf p b from nth

abbrev pub FirstOf : (ℕ → Bool) → ℕ → ℕ → ℕ → Option ℕ → Type 0
FirstOf p b from to None = NoneOf p b from to
FirstOf p b from to (Some c) = IsFirstOf p b from to c

-- among blocks in order, from one position on and below another, and below a third, the high mark
abbrev pub NoneWithin : (ℕ → Bool) → List ℕ → ℕ → ℕ → ℕ → Type 0
NoneWithin p bs high from to = (k b : ℕ) → from ≤ k → k < to → k < high → slice_get bs k ≡ Some b → p b ≡ false

pub record IsFirstWithin (p : ℕ → Bool) (bs : List ℕ) (high from to b : ℕ) : Type 0 where
  pub place : ℕ
  pub least : from ≤ place
  pub below : place < to
  pub under : place < high
  pub here : slice_get bs place ≡ Some b
  pub passes : p b ≡ true
  pub none : NoneWithin p bs high from place

abbrev pub FirstWithin : (ℕ → Bool) → List ℕ → ℕ → ℕ → ℕ → Option ℕ → Type 0
FirstWithin p bs high from to None = NoneWithin p bs high from to
FirstWithin p bs high from to (Some b) = IsFirstWithin p bs high from to b

-- the block at a position of a table's data blocks, where it isn't formatted
pub record IsAtPosition (sh : Shape) (R : List Record) (o place : ℕ) (found : Option ℕ) : Type 0 where
  pub block : ℕ
  pub here : slice_get (data_blocks sh R o) place ≡ Some block
  pub told : found ≡ found_if (not (is_formatted sh R block)) block
