-- What pages hold that are what a redo list makes them: the transaction table, an undo block, a row block. Each is a record
-- of equations, one for each field of the page's value.
use Rattle.std.specs.Prelude.{◌≡◌, ℕ, ◌+◌, ◌<◌, ◌≤◌, List, map}
use Rattle.seg_words.specs.Types.{Shape, OWN_BLOCKS}
use Rattle.redo_model.specs.Records.{Record}
use Rattle.redo_model.specs.Model.{block_of, undo_held, undo_sequence}
use Rattle.undo_block.specs.Types.{UndoPage}
use Rattle.row_block.specs.Types.{RowPage}
pub use Rattle.page_model.specs.Types.{txn_of, as_kept, outcome_when_over, outcome_of, entry_used_by, table_entry, HoldsTable}

-- ---- undo

pub record HoldsUndo (R : List Record) (u : ℕ) (p : UndoPage) : Type 0 where
  pub sequence : p.sequence ≡ undo_sequence R u
  pub parts : p.parts ≡ map as_kept (undo_held R u)

-- a block of the ring of undo blocks
pub record IsInRing (sh : Shape) (u : ℕ) : Type 0 where
  pub from : OWN_BLOCKS ≤ u
  pub to : u < OWN_BLOCKS + sh.undo

-- and one that was taken into use
pub record IsInUse (sh : Shape) (R : List Record) (u : ℕ) : Type 0 where
  pub ring : IsInRing sh u
  pub used : 1 ≤ undo_sequence R u

-- ---- rows

pub record HoldsRows (R : List Record) (b : ℕ) (p : RowPage) : Type 0 where
  pub block : p.block ≡ block_of R b
