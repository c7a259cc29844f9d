-- What a record does to the page of a segment's header, and when it can be done.
use Rattle.std.specs.Prelude.{ℕ, ◌<◌, ◌≤◌, [], ◌∷◌, ◌++◌, length, take}
use Rattle.seg_words.specs.Types.{MOST_TABLES, MOST_EXTENTS, MOST_PCTFREE}
use Rattle.segment_blocks.specs.Headers.{Header}
use Rattle.redo_record.specs.declared.record.Record.{Record}
use Rattle.redo_record.specs.declared.record.Record.TheVariants.{Table, Movement, Extend, Advance, Lower}
use Rattle.redo_record.specs.declared.space.TableRecord.{TableRecord}

abbrev pub header_changed : Record → Header → Header
header_changed (Movement m) h = record h { movement = m.on }
header_changed (Extend e) h = record h { extents = h.extents ++ e.extent ∷ [] }
header_changed (Advance a) h = record h { low = a.low; high = a.high }
header_changed (Lower l) h = record h { low = l.low; high = l.high; extents = take l.kept h.extents }
header_changed _ h = h

-- a table's number is 1 to 32, and PCTFREE is at most 50
abbrev pub TableFits : TableRecord → Type 0
TableFits t = (1 ≤ t.obj) × (t.obj ≤ MOST_TABLES) × (t.pctfree ≤ MOST_PCTFREE)

abbrev pub HeaderFits : Record → Header → Type 0
HeaderFits (Table t) h = TableFits t
HeaderFits (Movement m) h = Unit {0}
HeaderFits (Extend e) h = length h.extents < MOST_EXTENTS
HeaderFits (Advance a) h = Unit {0}
HeaderFits (Lower l) h = Unit {0}
HeaderFits _ h = ⊥

abbrev pub header_after : Record → ℕ → Header → Header
header_after r lsn h = record (header_changed r h) { lsn = lsn }
