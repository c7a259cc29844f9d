-- The parts of an allowed record can be put into its blocks one after the other, in any order: each slot and each list entry
-- has its place, and the block fits its page at each moment.
use Rattle.std.specs.Prelude.{◌≡◌, ℕ, List, ◌∷◌, Some}
use Rattle.seg_words.specs.Types.{Shape, Writer, By, Block}
use Rattle.row_block.specs.Types.{CanPut, CanEnter}
use Rattle.redo_model.specs.Records.{Record, Back, RowPart, BackPart, BackRecord}
use Rattle.redo_model.specs.Model.{Step, effect_of, written, restored, place_all, enter_by, block_of, AreAllowed}
use Rattle.redo_model.specs.Effects.{Adds}
use Rattle.redo_laws.specs.Among.{IsOneOf, AreSome}

-- block b with the images of these parts in their slots, and the writer entered where those parts say
abbrev pub partly : Writer → List RowPart → List RowPart → ℕ → Block → Block
partly w images names b x = record { slots = place_all (written images) b x.slots; entries = enter_by w names b x.entries }

-- block b with the images of these parts of a Back in their slots
abbrev pub partly_back : List BackPart → ℕ → Block → Block
partly_back ps b x = record { slots = place_all (restored ps) b x.slots; entries = x.entries }

-- after those images and those names the part's writer can be entered, and its image can be put
pub record PartFitsIn (w : Writer) (images names : List RowPart) (p : RowPart) (x : Block) : Type 0 where
  pub slot : CanPut (partly w images names p.dba x) p.slot p.new
  pub entry : (t i : ℕ) → w ≡ By t → p.entry ≡ Some i → CanEnter (partly w images names p.dba x) i

abbrev pub PartsFitInTurn : Type 0
PartsFitInTurn =
    (sh : Shape) (R : List Record) (r : Record) (st : Step) (p : RowPart) (images names : List RowPart) → AreAllowed sh (r ∷ R) → effect_of r ≡ Adds st
    → IsOneOf p st.parts → AreSome st.parts images → AreSome st.parts names → PartFitsIn st.by images names p (block_of R p.dba)

abbrev pub BackPartsFitInTurn : Type 0
BackPartsFitInTurn =
    (sh : Shape) (R : List Record) (k : BackRecord) (p : BackPart) (done : List BackPart) → AreAllowed sh (Back k ∷ R)
    → IsOneOf p k.parts → AreSome k.parts done → CanPut (partly_back done p.dba (block_of R p.dba)) p.slot p.new
