-- What a record does to the page of the catalogue, and when it can be done.
use Rattle.std.specs.Prelude.{ℕ, ◌-◌, ◌≤◌, slice_set, Some}
use Rattle.seg_words.specs.Types.{MOST_TABLES}
use Rattle.segment_blocks.specs.Catalogues.{Tables}
use Rattle.segment_blocks.specs.declared.entry.CatalogueEntry.{CatalogueEntry}
use Rattle.redo_record.specs.declared.record.Record.{Record}
use Rattle.redo_record.specs.declared.record.Record.TheVariants.{Table}
use Rattle.redo_record.specs.declared.space.TableRecord.{TableRecord}

-- a table's entry: its name and the block of its header
abbrev pub entry_of_table : TableRecord → CatalogueEntry
entry_of_table t = record { table = Some (record { name = t.name; header = t.header }) }

abbrev pub catalogue_changed : Record → Tables → Tables
catalogue_changed (Table t) c = record c { entries = slice_set c.entries (t.obj - 1) (entry_of_table t) }
catalogue_changed _ c = c

abbrev pub CatalogueFits : Record → Type 0
CatalogueFits (Table t) = (1 ≤ t.obj) × (t.obj ≤ MOST_TABLES)
CatalogueFits _ = ⊥

abbrev pub catalogue_after : Record → ℕ → Tables → Tables
catalogue_after r lsn c = record (catalogue_changed r c) { lsn = lsn }
