-- How many extents a table keeps, found from the last extent down.
use Rattle.std.specs.Prelude.{◌≡◌, ℕ, suc, ◌≤◌, true, false, List, length, Some}
use Rattle.seg_words.specs.Types.{Shape}
use Rattle.redo_model.specs.Records.{Record}
use Rattle.redo_model.specs.Model.{Extent, extents_of, extent_at, is_vacant, IsTable, IsLawful}
use Rattle.lower_laws.specs.Drafts.{kept_extents}

-- each extent of the table from this index on is vacant
abbrev pub AreVacantFrom : Shape → List Record → ℕ → ℕ → Type 0
AreVacantFrom sh R o n = (i : ℕ) (e : Extent) → n ≤ i → extent_at (extents_of R o) i ≡ Some e → is_vacant sh R i e.number ≡ true

-- up to the last one after the first that isn't vacant; the first alone, where there is none
pub record KeptTold (sh : Shape) (R : List Record) (o : ℕ) : Type 0 where
  pub first : AreVacantFrom sh R o 1 → kept_extents sh R o ≡ 1
  pub last : (i : ℕ) (e : Extent) → 1 ≤ i → extent_at (extents_of R o) i ≡ Some e → is_vacant sh R i e.number ≡ false → AreVacantFrom sh R o (suc i) → kept_extents sh R o ≡ suc i

abbrev pub KeptIsTold : Type 0
KeptIsTold = (sh : Shape) (R : List Record) (o : ℕ) → KeptTold sh R o

-- it is one of the table's extents, or all of them
abbrev pub KeptIsWithin : Type 0
KeptIsWithin = (sh : Shape) (R : List Record) (o : ℕ) → IsLawful sh R → IsTable R o → kept_extents sh R o ≤ length (extents_of R o)
