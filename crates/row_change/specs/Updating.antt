-- An update of a row that stands free, as the code holds it.
use Rattle.std.specs.Prelude.{◌≡◌, ℕ, List, [], ◌∷◌, length, Option, Some, None}
use Rattle.seg_words.specs.Types.{Shape}
use Rattle.redo_model.specs.Records.{Record}
use Rattle.redo_model.specs.Model.{image, IsTable}
use Rattle.change_laws.specs.Types.{Change, Stand, Path, InPlace, ToHead, ToOther, holder_of, blocks_at, updated_blocks, path_of, first_lacking, change_by, by_change, by_lack, update_answer, MayBeTarget}
use Rattle.row_change.specs.declared.place.Place.{Place}
use Rattle.row_change.specs.declared.updating.Updating.{Updating}
use Rattle.row_change.specs.Fitting.{AreThere}
use Rattle.row_change.specs.Looking.{front_of}
use Rattle.row_change.specs.Planning.{CanBeMade}
use Rattle.row_change.specs.Standing.{AreAtHome, told_stand}

-- where the row stands, with its image, and the block to which it may go
pub record IsUpdate (sh : Shape) (R : List Record) (own : Option ℕ) (u : Updating) : Type 0 where
  pub table : IsTable R u.obj
  pub home : AreAtHome sh R u.obj (told_stand u.stand)
  pub there : AreThere R (told_stand u.stand)
  pub holder : holder_of (told_stand u.stand) ≡ u.at
  pub front : u.front ≡ front_of (image R u.at.dba u.at.slot)
  pub target : MayBeTarget sh R own u.obj (told_stand u.stand) (length u.bytes.now) u.to

-- its change by the way that it goes
abbrev pub change_now : List Record → Updating → Path → Option Change
change_now R u w = change_by R u.obj u.row (told_stand u.stand) u.bytes.now u.to w

abbrev pub MayChange : Shape → List Record → Option ℕ → Updating → Path → Type 0
MayChange sh R own u w = (c : Change) → change_now R u w ≡ Some c → CanBeMade sh R own c

-- the blocks that it must change
abbrev pub blocks_for : Stand → Path → List ℕ
blocks_for x InPlace = (holder_of x).dba ∷ []
blocks_for x ToHead = blocks_at x
blocks_for x ToOther = blocks_at x

-- what follows for its answer, for row n that was found at p
pub record Updates (sh : Shape) (R : List Record) (own : Option ℕ) (n : ℕ) (p : Place) (u : Updating) : Type 0 where
  pub is : IsUpdate sh R own u
  pub can : first_lacking R own (updated_blocks R own (told_stand u.stand) (length u.bytes.now)) ≡ None → MayChange sh R own u (path_of R own (told_stand u.stand) (length u.bytes.now))
  pub answer : by_lack R (first_lacking R own (updated_blocks R own (told_stand u.stand) (length u.bytes.now))) (by_change sh R (length u.bytes.now) (change_now R u (path_of R own (told_stand u.stand) (length u.bytes.now)))) ≡ update_answer sh R own u.obj n p.at p.start u.bytes.now u.to
