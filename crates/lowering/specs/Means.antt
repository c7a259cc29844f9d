-- What a lowering's answer means, for who goes on with it.
use Rattle.std.specs.Prelude.{◌≡◌, ◌⊎◌, ℕ, suc, ◌<◌, List, ◌∷◌, length, drop}
use Rattle.seg_words.specs.Types.{Shape}
use Rattle.redo_model.specs.Records.{Record, Lower, LowerRecord}
use Rattle.redo_model.specs.Model.{extents_of, high_mark, kept_length, IsLawful, IsTable}
use Rattle.lower_laws.specs.Drafts.{with_lower}
use Rattle.lowering.specs.Answered.{answer_of, lowered, none_released}

-- a Lower of the table released extents
pub record HasLowered (sh : Shape) (R : List Record) (o : ℕ) : Type 0 where
  pub lower : LowerRecord
  pub table : lower.obj ≡ o
  pub list : with_lower sh R o ≡ Lower lower ∷ R
  pub answer : lowered sh R o ≡ answer_of lower
  pub some : 0 < length lower.released
  pub high : lower.high ≡ high_mark (Lower lower ∷ R) o

-- all extents are kept
pub record HasKept (sh : Shape) (R : List Record) (o : ℕ) : Type 0 where
  pub one : 0 < length (extents_of R o)
  pub all : suc (kept_length sh R 1 (drop 1 (extents_of R o))) ≡ length (extents_of R o)
  pub list : with_lower sh R o ≡ R
  pub answer : lowered sh R o ≡ none_released (high_mark R o)

abbrev pub LoweringsMean : Type 0
LoweringsMean = (sh : Shape) (R : List Record) (o : ℕ) → IsLawful sh R → IsTable R o → HasLowered sh R o ⊎ HasKept sh R o
