-- What the Move of a step needs is there: so a step adds just one allowed Move, after a Reuse where its undo asks for one.
use Rattle.std.specs.Prelude.{ℕ, List}
use Rattle.seg_words.specs.Types.{Shape, Rowid}
use Rattle.redo_model.specs.Records.{Record}
use Rattle.redo_model.specs.Model.{HasMovement, IsLawful, IsTable, at_place, image}
use Rattle.change_laws.specs.Types.{Fill, fills_size, free_place, spot_for}
use Rattle.shrink_laws.specs.declared.skip.Skip.{Skip}
use Rattle.shrink_laws.specs.Stops.{row_image}
use Rattle.shrink_move.specs.Moves.{MovedAt, row_stand, to_block_fills, to_body_fills}
use Rattle.shrink_move.specs.Nexts.{GoesToBlock, GoesToBody}

-- the slots of a row that goes to another block
abbrev pub block_fills : List Record → ℕ → ℕ → ℕ → List Fill
block_fills R d k target = to_block_fills (image R d k).row (row_stand (image R d k).kind (image R d k).link (at_place d k)) (free_place R target) (row_image R d k).bytes

-- those of a head whose body becomes the row
abbrev pub body_fills : List Record → ℕ → ℕ → Rowid → List Fill
body_fills R d k body = to_body_fills (image R d k).row (at_place d k) body (row_image R d k).bytes

abbrev pub RowsMoveToBlocks : Type 0
RowsMoveToBlocks =
    (sh : Shape) (R : List Record) (o : ℕ) (skips : List Skip) (cursor place d k target : ℕ) → IsLawful sh R → IsTable R o → HasMovement R o → GoesToBlock sh R o skips cursor place d k target
    → MovedAt sh R o (image R d k).row (block_fills R d k target) (spot_for sh R (fills_size R (block_fills R d k target)))

abbrev pub RowsMoveToBodies : Type 0
RowsMoveToBodies =
    (sh : Shape) (R : List Record) (o : ℕ) (skips : List Skip) (cursor place d k : ℕ) (body : Rowid) → IsLawful sh R → IsTable R o → HasMovement R o → GoesToBody sh R o skips cursor place d k body
    → MovedAt sh R o (image R d k).row (body_fills R d k body) (spot_for sh R (fills_size R (body_fills R d k body)))
