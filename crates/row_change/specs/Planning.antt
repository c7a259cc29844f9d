-- A change planned, and what follows from its plan.
use Rattle.std.specs.Prelude.{◌≡◌, ◌∷◌, ℕ, List, Option, Some, None}
use Rattle.seg_words.specs.Types.{Shape}
use Rattle.redo_model.specs.Records.{Record, Begin}
use Rattle.redo_model.specs.Model.{TakesEntry}
use Rattle.version_laws.specs.Types.{begin_of}
use Rattle.change_laws.specs.Types.{Change, change_size, Makes, by_spot, Full, spot_for, undo_start, list_with, MadeFor}
use Rattle.row_change.specs.declared.actor.Actor.{Actor}
use Rattle.row_change.specs.declared.draft.Change.{Change as ToldChange}
use Rattle.row_change.specs.declared.draft.Additions.{Additions}
use Rattle.row_change.specs.declared.plan.Planned.{Planned}
use Rattle.row_change.specs.declared.plan.Planned.TheVariants.{Adds, Spent}
use Rattle.row_change.specs.declared.spot.Spot.{Spot as Told}
use Rattle.row_change.specs.declared.spot.Spot.TheVariants as told
use Rattle.row_change.specs.Acting.{txn_of}
use Rattle.row_change.specs.Adding.{AreLawful, added, begun}
use Rattle.row_change.specs.Drafting.{additions}

-- by where its undo goes
abbrev pub planned : Actor → ToldChange → Told → Planned
planned actor c (told.Here a) = Adds (additions actor c a None)
planned actor c (told.Next q) = Adds (additions actor c (undo_start q) (Some q))
planned actor c (told.Full hs) = Spent hs

-- own may make the change where undo isn't full for it
abbrev pub CanBeMade : Shape → List Record → Option ℕ → Change → Type 0
CanBeMade sh R own c = by_spot c (spot_for sh R (change_size R c)) ≡ Makes c → MadeFor sh R own c

-- the list in which the change is made: with the Begin of the session where it has no transaction
pub record BeginsNext (R : List Record) (who : ℕ) (begun : List Record) : Type 0 where
  pub entry : ℕ
  pub control : ℕ
  pub takes : TakesEntry R entry control
  pub is : begun ≡ Begin (begin_of R who entry control) ∷ R

abbrev pub IsBegun : List Record → ℕ → Option ℕ → List Record → Type 0
IsBegun R who None begun = BeginsNext R who begun
IsBegun R who (Some t) begun = begun ≡ R

-- the list with the records of the change: the Begin of the session where it has no transaction, a Reuse where the undo asks
-- for one, and the record of the change
pub record IsNext (sh : Shape) (R : List Record) (who : ℕ) (own : Option ℕ) (c : Change) (next : List Record) : Type 0 where
  pub before : List Record
  pub begins : IsBegun R who own before
  pub list_is : list_with sh before (txn_of R own) c ≡ Some next

pub record PlanMade (sh : Shape) (R : List Record) (who : ℕ) (own : Option ℕ) (c : Change) (x : Additions) : Type 0 where
  pub made : by_spot c (spot_for sh R (change_size R c)) ≡ Makes c
  pub lawful : AreLawful sh R x
  pub begins : IsBegun R who own (begun x.begin R)
  pub next : IsNext sh R who own c (added R x)
  pub done : x.done ≡ record { row = c.row; txn = txn_of R own }

abbrev pub PlanMeans : Shape → List Record → ℕ → Option ℕ → Change → Planned → Type 0
PlanMeans sh R who own c (Adds x) = PlanMade sh R who own c x
PlanMeans sh R who own c (Spent hs) = spot_for sh R (change_size R c) ≡ Full hs
