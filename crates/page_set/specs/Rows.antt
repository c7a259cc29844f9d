-- What a record does to the page of a row block, and when it can be done.
use Rattle.std.specs.Prelude.{ℕ}
use Rattle.seg_base.specs.Blocks.{Block}
use Rattle.row_block.specs.RowPage.{RowPage}
use Rattle.redo_model.specs.Effects.{Effect}
use Rattle.redo_model.specs.Blocks.{changed_slots, changed_entries}
pub use Rattle.page_model.specs.Types.{with_images, with_names, ImagesFit, EntryFits, NamesFit, WriterFits, EffectFits}

abbrev pub changed_block : Effect → ℕ → Block → Block
changed_block e b x = record { slots = changed_slots e b x.slots; entries = changed_entries e b x.entries }

abbrev pub rows_after : Effect → ℕ → RowPage → RowPage
rows_after e lsn h = record { dba = h.dba; lsn = lsn; block = changed_block e h.dba h.block }
