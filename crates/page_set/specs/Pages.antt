-- A page of the store, whatever its kind, and the pages that records make anew.
use Rattle.std.specs.Prelude.{ℕ, [], None, false, replicate}
use Rattle.seg_words.specs.Types.{TXN_ENTRIES, MOST_TABLES, EXTENTS_OF_L2, MOST_EXTENT_BLOCKS}
use Rattle.seg_base.specs.Blocks.{new_block}
use Rattle.txn_block.specs.declared.entry.TableEntry.TheVariants.{Unused}
use Rattle.segment_blocks.specs.Catalogues.{no_table}
use Rattle.redo_record.specs.declared.space.TableRecord.{TableRecord}
use Rattle.page_set.specs.declared.page.Page.{Page}
use Rattle.page_set.specs.declared.page.Page.TheVariants.{Zero, Checkpoint, Txns, Catalogue, Space, Undo, First, Second, Third, Header, Rows}

abbrev pub dba_of : Page → ℕ
dba_of (Zero d) = d
dba_of (Checkpoint p) = p.dba
dba_of (Txns t) = t.dba
dba_of (Catalogue c) = c.dba
dba_of (Space s) = s.dba
dba_of (Undo u) = u.dba
dba_of (First m) = m.dba
dba_of (Second m) = m.dba
dba_of (Third m) = m.dba
dba_of (Header h) = h.dba
dba_of (Rows x) = x.dba

-- the number in the LSN field: of a checkpoint it is the count of its records
abbrev pub lsn_of : Page → ℕ
lsn_of (Zero d) = 0
lsn_of (Checkpoint p) = p.records
lsn_of (Txns t) = t.lsn
lsn_of (Catalogue c) = c.lsn
lsn_of (Space s) = s.lsn
lsn_of (Undo u) = u.lsn
lsn_of (First m) = m.lsn
lsn_of (Second m) = m.lsn
lsn_of (Third m) = m.lsn
lsn_of (Header h) = h.lsn
lsn_of (Rows x) = x.lsn

abbrev pub new_txns : ℕ → Page
new_txns d = Txns (record { dba = d; lsn = 0; control = 0; last_txn = 0; last_row = 0; current_undo = None; entries = replicate TXN_ENTRIES Unused })

abbrev pub new_catalogue : ℕ → Page
new_catalogue d = Catalogue (record { dba = d; lsn = 0; entries = replicate MOST_TABLES no_table })

abbrev pub new_space : ℕ → Page
new_space d = Space (record { dba = d; lsn = 0; lowerings = 0; bits = replicate 256 0 })

abbrev pub new_undo : ℕ → ℕ → Page
new_undo d sequence = Undo (record { dba = d; lsn = 0; sequence = sequence; parts = [] })

abbrev pub new_first : ℕ → ℕ → Page
new_first d incarnation = First (record { dba = d; lsn = 0; incarnation = incarnation; codes = replicate MOST_EXTENT_BLOCKS 0 })

abbrev pub new_second : ℕ → Page
new_second d = Second (record { dba = d; lsn = 0; codes = replicate EXTENTS_OF_L2 0 })

abbrev pub new_third : ℕ → Page
new_third d = Third (record { dba = d; lsn = 0; codes = replicate 3 0 })

abbrev pub new_header : ℕ → TableRecord → Page
new_header d t = Header (record { dba = d; lsn = 0; obj = t.obj; pctfree = t.pctfree; movement = false; low = 0; high = 0; extents = [] })

abbrev pub new_rows : ℕ → Page
new_rows d = Rows (record { dba = d; lsn = 0; block = new_block })
