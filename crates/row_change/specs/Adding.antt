-- The records of a change added to a true store.
use Rattle.std.specs.Prelude.{◌⊎◌, ℕ, ◌≤◌, List, ◌∷◌, Option, Some, None, Result, OnOk, OnErr, IfErr}
use Rattle.seg_words.specs.Types.{Shape}
use Rattle.disk_model.specs.Crash.{Meaning}
use Rattle.redo_model.specs.Records.{Record, Begin, Reuse, BeginRecord, ReuseRecord}
use Rattle.redo_model.specs.Model.{IsLawful}
use Rattle.store_core.specs.Store.{Held, IsTrue}
use Rattle.store_core.specs.Survives.{Survives}
use Rattle.store_core.specs.Causes.{IsSoundFault}
use Rattle.store_core.specs.declared.fault.StoreFault.{StoreFault}
use Rattle.row_change.specs.declared.draft.Additions.{Additions}

abbrev pub begun : Option BeginRecord → List Record → List Record
begun None R = R
begun (Some g) R = Begin g ∷ R

abbrev pub reused : Option ReuseRecord → List Record → List Record
reused None R = R
reused (Some q) R = Reuse q ∷ R

-- the list with all of them
abbrev pub added : List Record → Additions → List Record
added R x = x.change ∷ reused x.reuse (begun x.begin R)

pub record AreLawful (sh : Shape) (R : List Record) (x : Additions) : Type 0 where
  pub first : IsLawful sh (begun x.begin R)
  pub all : IsLawful sh (added R x)

-- a true store that had R has L, and what survived a crash goes on surviving it
pub record Stands {D : Type 0} (meaning : Meaning D) (R L : List Record) (old new : Held D) : Type 0 where
  pub list : IsTrue meaning L new
  pub survives : (since : ℕ) (needed : ℕ → ℕ) → Survives meaning since needed R old → Survives meaning since needed L new

-- at Ok all of them stand, at Err none or the Begin
pub record AddsAll {D T : Type 0} (meaning : Meaning D) (R : List Record) (x : Additions) (old new : Held D) (result : Result T StoreFault) : Type 0 where
  pub all : OnOk result (Stands meaning R (added R x) old new)
  pub left : OnErr result (Stands meaning R R old new ⊎ Stands meaning R (begun x.begin R) old new)
  pub sound : IfErr result IsSoundFault
  pub stable : old.log.stable ≤ new.log.stable
