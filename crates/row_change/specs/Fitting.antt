-- Which way an update of a row goes, as the code says it.
use Rattle.std.specs.Prelude.{ℕ, ◌<◌, Bool, cond, ltb, List, length, Option, Some, None}
use Rattle.seg_words.specs.Types.{Block, fits}
use Rattle.redo_model.specs.Records.{Record}
use Rattle.redo_model.specs.Model.{slot_count}
use Rattle.txn_block.specs.Types.{TxnTable}
use Rattle.version_laws.specs.Types.{ended_by}
use Rattle.page_set.specs.declared.page.Page.{Page}
use Rattle.page_set.specs.declared.page.Page.TheVariants.{Rows}
use Rattle.change_laws.specs.Types.{Stand, Whole, Apart, Path, InPlace, ToHead, ToOther, taker_of}
use Rattle.row_change.specs.declared.fitting.Way.{Way}
use Rattle.row_change.specs.declared.fitting.Way.TheVariants as ways

abbrev pub told_way : Way → Path
told_way ways.InPlace = InPlace
told_way ways.ToHead = ToHead
told_way ways.ToOther = ToOther

-- whether so long a row fits into slot k, none where the slot isn't there
abbrev pub fitting_at : (ℕ → Bool) → Block → Option ℕ → ℕ → ℕ → Option Bool
fitting_at ended b own k len = cond (ltb k (length b.slots)) (Some (fits ended b k len (taker_of own))) None

abbrev pub fitting_in : TxnTable → Option ℕ → ℕ → ℕ → Page → Option Bool
fitting_in q own k len (Rows rows) = fitting_at (ended_by q) rows.block own k len
fitting_in q own k len _ = None

-- the slots in which a row stands are there
abbrev pub AreThere : List Record → Stand → Type 0
AreThere R (Whole p) = p.slot < slot_count R p.dba
AreThere R (Apart head body) = (head.slot < slot_count R head.dba) × (body.slot < slot_count R body.dba)
