-- A Move as it is drafted, and what it is in the words of the list.
use Rattle.std.specs.Prelude.{◌≡◌, ℕ, suc, ◌+◌, List, [], ◌∷◌, length, Option, Some, None}
use Rattle.seg_words.specs.Types.{Shape, UndoAddr, At, UNDO_PART_SIZE}
use Rattle.redo_model.specs.Records.{Record, Move, RowPart, MoveRecord, ReuseRecord}
use Rattle.redo_model.specs.Model.{IsLawful, IsRowBlock, image, image_with, part_addr}
use Rattle.change_laws.specs.Types.{Fill, Full, fills_size, spot_for, undo_start}
use Rattle.row_change.specs.declared.spot.Spot.{Spot as ToldSpot}
use Rattle.row_change.specs.declared.spot.Spot.TheVariants as told
use Rattle.row_change.specs.Adding.{reused}
use Rattle.row_change.specs.Drafting.{told_content}
use Rattle.shrink_move.specs.declared.standing.Standing.{Standing}
use Rattle.shrink_move.specs.declared.draft.Fill.{Fill as Told}
use Rattle.shrink_move.specs.declared.draft.Fills.{Fills}
use Rattle.shrink_move.specs.declared.draft.Fills.TheVariants.{Two, Three}
use Rattle.shrink_move.specs.declared.draft.Moving.{Moving}
use Rattle.shrink_move.specs.declared.draft.Addition.{Addition}
use Rattle.shrink_move.specs.declared.plan.Planned.{Planned}
use Rattle.shrink_move.specs.declared.plan.Planned.TheVariants.{Adds, Spent}
use Rattle.shrink_move.specs.Moves.{list_moved}

abbrev pub fill_list : Fills → List Told
fill_list (Two a b) = a ∷ b ∷ []
fill_list (Three a b c) = a ∷ b ∷ c ∷ []

abbrev pub drafted_size : List Told → ℕ
drafted_size [] = 0
drafted_size (f ∷ fs) = (UNDO_PART_SIZE + f.standing.len) + drafted_size fs

-- the part that fills a slot, as the commit of this number, with its undo there
abbrev pub drafted_part : Told → ℕ → UndoAddr → RowPart
drafted_part f number a = record {
  dba = f.standing.dba;
  slot = f.standing.slot;
  entry = None;
  new = image_with (told_content f.content) (At number) a f.room;
  old = f.standing.old;
}

-- the first of them at place i
abbrev pub drafted_parts : List Told → ℕ → UndoAddr → ℕ → List RowPart
drafted_parts [] number a i = []
drafted_parts (f ∷ fs) number a i = drafted_part f number (part_addr a i) ∷ drafted_parts fs number a (suc i)

abbrev pub drafted_blocks : List Told → List ℕ
drafted_blocks [] = []
drafted_blocks (f ∷ fs) = f.standing.dba ∷ drafted_blocks fs

abbrev pub drafted_move : ℕ → ℕ → Moving → UndoAddr → MoveRecord
drafted_move o number m a = record { obj = o; row = m.row; undo = a; number = number; parts = drafted_parts (fill_list m.fills) number a 0 }

abbrev pub addition : ℕ → ℕ → Moving → UndoAddr → Option ReuseRecord → Addition
addition o number m a reuse = record { reuse = reuse; moved = Move (drafted_move o number m a); blocks = drafted_blocks (fill_list m.fills) }

-- by where its undo goes
abbrev pub planned : ℕ → ℕ → Moving → ToldSpot → Planned
planned o number m (told.Here a) = Adds (addition o number m a None)
planned o number m (told.Next q) = Adds (addition o number m (undo_start q) (Some q))
planned o number m (told.Full hs) = Spent hs

-- ---- by the list

-- block b holds rows of a table
pub record HasRows (sh : Shape) (R : List Record) (b : ℕ) : Type 0 where
  pub table : ℕ
  pub home : IsRowBlock sh R table b

-- what stands in slot k of block b
abbrev pub standing_of : List Record → ℕ → ℕ → Standing
standing_of R b k = record { dba = b; slot = k; len = length (image R b k).bytes; old = image R b k }

-- the code's fill is this one
pub record FillIs (R : List Record) (f : Told) (g : Fill) : Type 0 where
  pub standing : f.standing ≡ standing_of R g.at.dba g.at.slot
  pub content : told_content f.content ≡ g.content
  pub room : f.room ≡ length g.content.bytes

abbrev pub FillsAre : List Record → List Told → List Fill → Type 0
FillsAre R [] [] = Unit {0}
FillsAre R [] (g ∷ gs) = ⊥
FillsAre R (f ∷ fs) [] = ⊥
FillsAre R (f ∷ fs) (g ∷ gs) = FillIs R f g × FillsAre R fs gs

pub record IsMoving (R : List Record) (m : Moving) (n : ℕ) (gs : List Fill) : Type 0 where
  pub row : m.row ≡ n
  pub fills : FillsAre R (fill_list m.fills) gs

-- the blocks of these slots
abbrev pub blocks_of : List Fill → List ℕ
blocks_of [] = []
blocks_of (g ∷ gs) = g.at.dba ∷ blocks_of gs

-- what is planned leads to the list with the Move of row n of table o, which is lawful, or undo is full for it
pub record PlanMade (sh : Shape) (R : List Record) (o n : ℕ) (gs : List Fill) (x : Addition) : Type 0 where
  pub list_is : list_moved sh R o n gs ≡ Some (x.moved ∷ reused x.reuse R)
  pub lawful : IsLawful sh (x.moved ∷ reused x.reuse R)
  pub blocks : x.blocks ≡ blocks_of gs

abbrev pub PlanMeans : Shape → List Record → ℕ → ℕ → List Fill → Planned → Type 0
PlanMeans sh R o n gs (Adds x) = PlanMade sh R o n gs x
PlanMeans sh R o n gs (Spent hs) = spot_for sh R (fills_size R gs) ≡ Full hs
