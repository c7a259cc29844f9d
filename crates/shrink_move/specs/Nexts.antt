-- What the next step of a shrink is, by the records R and where the cursor stands.
use Rattle.std.specs.Prelude.{◌≡◌, ℕ, true, List, length, Some}
use Rattle.seg_words.specs.Types.{Shape, Rowid, Head, writer_has_ended}
use Rattle.redo_model.specs.Records.{Record}
use Rattle.redo_model.specs.Model.{ended_in, first_taker, image}
use Rattle.shrink_laws.specs.declared.skip.Skip.{Skip}
use Rattle.shrink_laws.specs.Stops.{LeadsDown, row_image}
use Rattle.shrink_laws.specs.Cursor.{Cleared, Finds, StepSkips, StepStops}
use Rattle.shrink_move.specs.declared.next.Next.{Next}
use Rattle.shrink_move.specs.declared.next.Next.TheVariants.{Bottom, Skips, NoFit, ToBody, ToBlock}
use Rattle.shrink_move.specs.Walks.{StandsBelow}

-- it has come to a head, whose row may be moved and stands at a lower position: the body becomes the row
pub record GoesToBody (sh : Shape) (R : List Record) (o : ℕ) (skips : List Skip) (cursor place d k : ℕ) (body : Rowid) : Type 0 where
  pub finds : Finds sh R o skips cursor place d k
  pub over : writer_has_ended (ended_in R) (row_image R d k).writer ≡ true
  pub head : (image R d k).kind ≡ Head
  pub link : (image R d k).link ≡ Some body
  pub below : StandsBelow sh R o place body.dba

-- any other row that may be moved goes to the first block below that takes it
pub record GoesToBlock (sh : Shape) (R : List Record) (o : ℕ) (skips : List Skip) (cursor place d k target : ℕ) : Type 0 where
  pub finds : Finds sh R o skips cursor place d k
  pub over : writer_has_ended (ended_in R) (row_image R d k).writer ≡ true
  pub not_down : LeadsDown sh R o place d k → ⊥
  pub first : first_taker sh R o place (length (row_image R d k).bytes) ≡ Some target

abbrev pub NextIs : Shape → List Record → ℕ → List Skip → ℕ → Next → Type 0
NextIs sh R o skips cursor Bottom = Cleared sh R o skips 0 cursor
NextIs sh R o skips cursor (Skips x t) = StepSkips sh R o skips cursor x.place x.at.dba x.at.slot t
NextIs sh R o skips cursor (NoFit x) = StepStops sh R o skips cursor x.place x.at.dba x.at.slot
NextIs sh R o skips cursor (ToBody x body) = GoesToBody sh R o skips cursor x.place x.at.dba x.at.slot body
NextIs sh R o skips cursor (ToBlock x target) = GoesToBlock sh R o skips cursor x.place x.at.dba x.at.slot target
