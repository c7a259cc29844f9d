-- What a record does: to rows and blocks, and to transactions. These are the only definitions of rows, blocks and
-- transactions that tell the kinds of records apart. This engine's own.
use Rattle.std.specs.Prelude.{ℕ, ◌+◌, Bool, true, false, List, [], ◌∷◌, Option, None}
use Rattle.seg_words.specs.Types.{Writer, By, At, UndoAddr, Slot, UndoPlace}
use Rattle.redo_model.specs.Records.{Record, FormatBlock, Begin, Insert, Update, Migrate, Return, Delete, Commit, Back, Ended, Move, Clean, RowPart, BackPart, RowBody, MoveRecord, BackRecord, BeginRecord, CommitRecord, EndedRecord}

-- A row record or a Move, as what it does: by whom, to which row of which table, in which slots, and whether it deletes
-- the row. Its undo address is that of its first part.
pub record Step : Type 0 where
  pub by : Writer
  pub obj : ℕ
  pub row : ℕ
  pub undo : UndoAddr
  pub previous : Option UndoPlace
  pub parts : List RowPart
  pub deletes : Bool

abbrev pub row_step : RowBody → Bool → Step
row_step w deletes = record { by = By w.txn; obj = w.obj; row = w.row; undo = w.undo; previous = w.previous; parts = w.parts; deletes = deletes }

abbrev pub move_step : MoveRecord → Step
move_step m = record { by = At m.number; obj = m.obj; row = m.row; undo = m.undo; previous = None; parts = m.parts; deletes = false }

-- what a record does to rows and blocks
pub data Effect : Type 0 where
  Still : Effect
  Formats : ℕ → Effect
  Adds : Step → Effect
  TakesBack : BackRecord → Effect
  Cleans : ℕ → List (ℕ × ℕ) → Effect

abbrev pub effect_of : Record → Effect
effect_of (FormatBlock f) = Formats f.dba
effect_of (Insert w) = Adds (row_step w false)
effect_of (Update w) = Adds (row_step w false)
effect_of (Migrate w) = Adds (row_step w false)
effect_of (Return w) = Adds (row_step w false)
effect_of (Delete w) = Adds (row_step w true)
effect_of (Move m) = Adds (move_step m)
effect_of (Back k) = TakesBack k
effect_of (Clean c) = Cleans c.dba c.ended
effect_of _ = Still

-- what a record does to transactions
pub data TxnEffect : Type 0 where
  Keeps : TxnEffect
  Begins : BeginRecord → TxnEffect
  Commits : CommitRecord → TxnEffect
  Ends : EndedRecord → TxnEffect

abbrev pub txn_effect : Record → TxnEffect
txn_effect (Begin g) = Begins g
txn_effect (Commit c) = Commits c
txn_effect (Ended e) = Ends e
txn_effect _ = Keeps

-- an image that is put into a slot
pub record Placed : Type 0 where
  pub dba : ℕ
  pub slot : ℕ
  pub image : Slot

abbrev pub written : List RowPart → List Placed
written [] = []
written (p ∷ ps) = record { dba = p.dba; slot = p.slot; image = p.new } ∷ written ps

abbrev pub restored : List BackPart → List Placed
restored [] = []
restored (p ∷ ps) = record { dba = p.dba; slot = p.slot; image = p.new } ∷ restored ps

-- where the parts of a record stand: one after the other, from its undo address on
abbrev pub part_addr : UndoAddr → ℕ → UndoAddr
part_addr a i = record { block = a.block; seq = a.seq; nth = a.nth + i }
