-- When a Move may follow the records R, and what its fields must be. SHRINK SPACE compacts rows towards the front of the
-- segment (Oracle Database Administrator's Guide, "Shrinking Database Segments Online"); in what order rows move, and that
-- a move is a commit of its own without changes, is this engine's own.
use Rattle.std.specs.Prelude.{◌≡◌, ◌⊎◌, ℕ, suc, ◌<◌, ◌≤◌, true, ◌&&◌, List, [], ◌∷◌, length, take, find, Option, Some, None}
use Rattle.seg_words.specs.Types.{Shape, At, Shrink, writer_has_ended}
use Rattle.redo_model.specs.Records.{Record, RowPart, MoveRecord}
use Rattle.redo_model.specs.Effects.{part_addr}
use Rattle.redo_model.specs.Ordinals.{commit_count}
use Rattle.redo_model.specs.Transactions.{ended_in}
use Rattle.redo_model.specs.Slots.{image}
use Rattle.redo_model.specs.Blocks.{takes_row}
use Rattle.redo_model.specs.Segments.{IsTable, IsRowBlock, HasMovement, is_formatted, data_blocks, position, pctfree_of}
use Rattle.redo_model.specs.AllowedRows.{Content, nothing, plain_row, image_with, StatesUndo, next_slot, IsPlain, IsMigrated}

-- the part at place i of a Move: its images are written at its commit number, and keep no room
abbrev pub move_part : List Record → MoveRecord → ℕ → ℕ → ℕ → Content → RowPart
move_part R m i b k c = record {
  dba = b;
  slot = k;
  entry = None;
  new = image_with c (At m.number) (part_addr m.undo i) (length c.bytes);
  old = image R b k;
}

-- what every Move needs
pub record MayMove (R : List Record) (m : MoveRecord) : Type 0 where
  pub table : IsTable R m.obj
  pub movement : HasMovement R m.obj
  pub number : m.number ≡ suc (commit_count R)
  pub undo : StatesUndo R m.undo m.parts

-- the image's writer has ended
abbrev pub IsOver : List Record → ℕ → ℕ → Type 0
IsOver R b k = writer_has_ended (ended_in R) (image R b k).writer ≡ true

-- the first formatted block before this position of the table that takes a row of this length
abbrev pub first_taker : Shape → List Record → ℕ → ℕ → ℕ → Option ℕ
first_taker sh R o n len = find (λ b. is_formatted sh R b && takes_row R (pctfree_of R o) b len Shrink) (take n (data_blocks sh R o))

-- a row that stands whole in the cursor's block goes to the first block below it that takes the row
pub record MovePlain (sh : Shape) (R : List Record) (m : MoveRecord) : Type 0 where
  pub move : MayMove R m
  pub block : ℕ
  pub slot : ℕ
  pub here : IsRowBlock sh R m.obj block
  pub plain : IsPlain R m.row block slot
  pub over : IsOver R block slot
  pub target : ℕ
  pub first : first_taker sh R m.obj (position sh R m.obj block) (length (image R block slot).bytes) ≡ Some target
  pub parts : m.parts ≡ move_part R m 0 block slot nothing
      ∷ move_part R m 1 target (next_slot R target) (plain_row m.row (image R block slot).bytes) ∷ []

-- a head in the cursor's block whose body stands below it: the body becomes the row
pub record MoveToBody (sh : Shape) (R : List Record) (m : MoveRecord) : Type 0 where
  pub move : MayMove R m
  pub head_block : ℕ
  pub head_slot : ℕ
  pub body_block : ℕ
  pub body_slot : ℕ
  pub here : IsRowBlock sh R m.obj head_block
  pub migrated : IsMigrated R m.row head_block head_slot body_block body_slot
  pub over : IsOver R body_block body_slot
  pub below : position sh R m.obj body_block < position sh R m.obj head_block
  pub parts : m.parts ≡ move_part R m 0 head_block head_slot nothing
      ∷ move_part R m 1 body_block body_slot (plain_row m.row (image R body_block body_slot).bytes) ∷ []

-- A migrated row of which the body, or a head that isn't above its body, stands in the cursor's block goes to the first
-- block below that takes it.
pub record MoveMigrated (sh : Shape) (R : List Record) (m : MoveRecord) : Type 0 where
  pub move : MayMove R m
  pub head_block : ℕ
  pub head_slot : ℕ
  pub body_block : ℕ
  pub body_slot : ℕ
  pub cursor : ℕ
  pub cursor_is : (cursor ≡ body_block) ⊎ ((cursor ≡ head_block) × (position sh R m.obj head_block ≤ position sh R m.obj body_block))
  pub here : IsRowBlock sh R m.obj cursor
  pub migrated : IsMigrated R m.row head_block head_slot body_block body_slot
  pub over : IsOver R body_block body_slot
  pub target : ℕ
  pub first : first_taker sh R m.obj (position sh R m.obj cursor) (length (image R body_block body_slot).bytes) ≡ Some target
  pub parts : m.parts ≡ move_part R m 0 head_block head_slot nothing
      ∷ move_part R m 1 body_block body_slot nothing
      ∷ move_part R m 2 target (next_slot R target) (plain_row m.row (image R body_block body_slot).bytes) ∷ []

pub data MoveAllowed (sh : Shape) (R : List Record) (m : MoveRecord) : Type 0 where
  moves_plain : MovePlain sh R m → MoveAllowed sh R m
  moves_to_body : MoveToBody sh R m → MoveAllowed sh R m
  moves_migrated : MoveMigrated sh R m → MoveAllowed sh R m
