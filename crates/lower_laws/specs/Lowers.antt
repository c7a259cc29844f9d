-- The drafted Lower is allowed exactly where some extent is released, and no other Lower of the table is.
use Rattle.std.specs.Prelude.{◌≡◌, ℕ, true, false, cond, List, ◌∷◌, length}
use Rattle.seg_words.specs.Types.{Shape}
use Rattle.redo_model.specs.Records.{Record, Lower, LowerRecord}
use Rattle.redo_model.specs.Model.{extents_of, high_mark, IsTable, IsAllowed, IsLawful}
use Rattle.lower_laws.specs.Drafts.{kept_extents, releases, drafted_lower, with_lower}

pub record LowerRecords (sh : Shape) (R : List Record) (o : ℕ) : Type 0 where
  pub allowed : releases sh R o ≡ true → IsAllowed sh R (Lower (drafted_lower sh R o))
  pub lawful : releases sh R o ≡ true → IsLawful sh (Lower (drafted_lower sh R o) ∷ R)
  pub only : (l : LowerRecord) → l.obj ≡ o → IsAllowed sh R (Lower l) → l ≡ drafted_lower sh R o
  pub releases_some : (l : LowerRecord) → l.obj ≡ o → IsAllowed sh R (Lower l) → releases sh R o ≡ true
  pub keeps_all : releases sh R o ≡ false → kept_extents sh R o ≡ length (extents_of R o)

abbrev pub LowersAreAllowed : Type 0
LowersAreAllowed = (sh : Shape) (R : List Record) (o : ℕ) → IsLawful sh R → IsTable R o → LowerRecords sh R o

-- the list with it is lawful, and its high mark is the one that the Lower states, or as it was
pub record LowerLeft (sh : Shape) (R : List Record) (o : ℕ) : Type 0 where
  pub lawful : IsLawful sh (with_lower sh R o)
  pub high : high_mark (with_lower sh R o) o ≡ cond (releases sh R o) (drafted_lower sh R o).high (high_mark R o)

abbrev pub LowersLeaveLawful : Type 0
LowersLeaveLawful = (sh : Shape) (R : List Record) (o : ℕ) → IsLawful sh R → IsTable R o → LowerLeft sh R o
