-- What a Lower leaves: the first extents of its table, every other table, and what stands in every block.
use Rattle.std.specs.Prelude.{◌≡◌, ◌≢◌, ℕ, List, ◌∷◌, ◌++◌, take}
use Rattle.seg_words.specs.Types.{Shape}
use Rattle.redo_model.specs.Records.{Record, Lower, LowerRecord}
use Rattle.redo_model.specs.Model.{extents_of, data_blocks, marks, is_formatted, IsRowBlock, kept_class}
use Rattle.redo_laws.specs.Added.{SameBlock}

-- of another table
pub record OtherLeft (sh : Shape) (R : List Record) (l : LowerRecord) (o : ℕ) : Type 0 where
  pub extents : extents_of (Lower l ∷ R) o ≡ extents_of R o
  pub blocks : data_blocks sh (Lower l ∷ R) o ≡ data_blocks sh R o
  pub marks : marks (Lower l ∷ R) o ≡ marks R o
  pub row_blocks : (b : ℕ) → IsRowBlock sh R o b → IsRowBlock sh (Lower l ∷ R) o b

pub record LowerLeaves (sh : Shape) (R : List Record) (l : LowerRecord) : Type 0 where
  pub kept : extents_of (Lower l ∷ R) l.obj ≡ take l.kept (extents_of R l.obj)
  pub far : List ℕ
  pub front : data_blocks sh R l.obj ≡ data_blocks sh (Lower l ∷ R) l.obj ++ far
  pub others : (o : ℕ) → l.obj ≢ o → OtherLeft sh R l o
  pub blocks : (b : ℕ) → SameBlock (Lower l ∷ R) R b
  pub formatted : (b : ℕ) → is_formatted sh (Lower l ∷ R) b ≡ is_formatted sh R b
  pub classes : (b : ℕ) → kept_class (Lower l ∷ R) b ≡ kept_class R b

abbrev pub LowersLeaveTheRest : Type 0
LowersLeaveTheRest = (sh : Shape) (R : List Record) (l : LowerRecord) → LowerLeaves sh R l
