-- What is known on the way to the next step of a shrink.
use Rattle.std.specs.Prelude.{◌≡◌, ℕ, ◌<◌, true, false, List, length, Option, Some, None}
use Rattle.seg_words.specs.Types.{Shape, Rowid, Writer, By, writer_has_ended}
use Rattle.txn_block.specs.Types.{TxnTable}
use Rattle.redo_model.specs.Records.{Record}
use Rattle.redo_model.specs.Model.{ended_in, image}
use Rattle.version_laws.specs.Types.{ended_by}
use Rattle.shrink_laws.specs.declared.skip.Skip.{Skip}
use Rattle.shrink_laws.specs.Stops.{IsAt, row_image}
use Rattle.shrink_laws.specs.Cursor.{Finds}
use Rattle.shrink_move.specs.declared.come.Come.{Come}
use Rattle.shrink_move.specs.declared.outline.Outline.{Outline}
use Rattle.shrink_move.specs.Asked.{body_of, outline_of}
use Rattle.shrink_move.specs.Walks.{StandsBelow}

-- the writer is a transaction that hasn't ended
pub record IsActiveBy (q : TxnTable) (w : Writer) (t : ℕ) : Type 0 where
  pub writer : w ≡ By t
  pub active : ended_by q t ≡ false

-- the body stands below this position
pub record BodyStands (sh : Shape) (R : List Record) (o n : ℕ) (body : Option Rowid) (p : Rowid) : Type 0 where
  pub is : body ≡ Some p
  pub below : StandsBelow sh R o n p.dba

abbrev pub BodyBelow : Shape → List Record → ℕ → ℕ → Option Rowid → Option Rowid → Type 0
BodyBelow sh R o n body None = (p : Rowid) → body ≡ Some p → (i : ℕ) → i < n → IsAt sh R o i p.dba → ⊥
BodyBelow sh R o n body (Some p) = BodyStands sh R o n body p

-- the cursor has come to a slot, where the body of its row stands, and the image that holds the row
pub record HasCome (sh : Shape) (R : List Record) (o : ℕ) (skips : List Skip) (cursor : ℕ) (x : Come) (body : Option Rowid) (row : Outline) : Type 0 where
  pub finds : Finds sh R o skips cursor x.place x.at.dba x.at.slot
  pub body_is : body ≡ body_of (image R x.at.dba x.at.slot).kind (image R x.at.dba x.at.slot).link
  pub row_is : row ≡ outline_of (row_image R x.at.dba x.at.slot)

-- its row may be moved, and has this length
pub record CanGo (sh : Shape) (R : List Record) (o : ℕ) (skips : List Skip) (cursor : ℕ) (x : Come) (len : ℕ) : Type 0 where
  pub finds : Finds sh R o skips cursor x.place x.at.dba x.at.slot
  pub over : writer_has_ended (ended_in R) (row_image R x.at.dba x.at.slot).writer ≡ true
  pub length_is : len ≡ length (row_image R x.at.dba x.at.slot).bytes
