-- What a shrink knows of its table on a true store.
use Rattle.std.specs.Prelude.{◌≡◌, ◌≤◌, ℕ, List}
use Rattle.seg_words.specs.Types.{MOST_PCTFREE}
use Rattle.disk_model.specs.Crash.{Meaning}
use Rattle.redo_model.specs.Records.{Record}
use Rattle.redo_model.specs.Model.{IsTable, ended_in}
use Rattle.version_laws.specs.Types.{HoldsTable, ended_by}
use Rattle.segment_read.specs.Segments.{IsSegment}
use Rattle.store_core.specs.Store.{Held, IsTrue}
use Rattle.shrink_move.specs.declared.ground.Ground.{Ground}

-- the store has the records R; its shape, the segment of table o and the transaction table are those that were read
pub record Knows {D : Type 0} (meaning : Meaning D) (R : List Record) (o : ℕ) (s : Held D) (g : Ground) : Type 0 where
  pub holds : IsTrue meaning R s
  pub table : IsTable R o
  pub shape : g.shape ≡ s.shape
  pub segment : IsSegment g.shape R o g.segment
  pub holds_table : HoldsTable R g.table
  pub ended : ended_by g.table ≡ ended_in R
  pub percent : g.segment.pctfree ≤ MOST_PCTFREE
