-- The page that a record makes anew at a block, whatever stood there; none where it changes the page that is there. Which
-- block is meant is told by its number: block 2 is the catalogue, block 3 the space bitmap.
use Rattle.std.specs.Prelude.{ℕ, ◌%◌, cond, eqb, Option, Some, None}
use Rattle.seg_words.specs.Types.{EXTENTS_OF_L2}
use Rattle.redo_record.specs.declared.record.Record.{Record}
use Rattle.redo_record.specs.declared.record.Record.TheVariants.{Table, Extend, FormatBlock, Begin, Reuse}
use Rattle.redo_record.specs.declared.space.TableRecord.{TableRecord}
use Rattle.redo_record.specs.declared.space.ExtendRecord.{ExtendRecord}
use Rattle.page_set.specs.declared.page.Page.{Page}
use Rattle.page_set.specs.declared.page.Page.TheVariants.{Zero}
use Rattle.page_set.specs.Pages.{dba_of, new_txns, new_catalogue, new_space, new_undo, new_first, new_second, new_third, new_header, new_rows}

-- a page that was never written
abbrev pub as_txns : Page → Option Page
as_txns (Zero d) = Some (new_txns d)
as_txns _ = None

abbrev pub as_catalogue : Page → Option Page
as_catalogue (Zero d) = Some (new_catalogue d)
as_catalogue _ = None

abbrev pub as_space : Page → Option Page
as_space (Zero d) = Some (new_space d)
as_space _ = None

abbrev pub table_started : TableRecord → Page → Option Page
table_started t p = cond (eqb (dba_of p) 2) (as_catalogue p) (Some (new_header (dba_of p) t))

-- The bitmaps of an extent that a table gets: the first level is new; the second one with the first extent that it covers,
-- the third one with the first of the table.
abbrev pub extent_started : ExtendRecord → ℕ → Page → Option Page
extent_started e lsn p =
    cond (eqb (dba_of p) 3) (as_space p)
    (cond (eqb (dba_of p) e.header) None
    (cond (eqb (dba_of p) e.l2) (cond (eqb (e.index % EXTENTS_OF_L2) 0) (Some (new_second (dba_of p))) None)
    (cond (eqb (dba_of p) e.l3) (cond (eqb e.index 0) (Some (new_third (dba_of p))) None)
    (Some (new_first (dba_of p) lsn)))))

abbrev pub started : Record → ℕ → Page → Option Page
started (Table t) lsn p = table_started t p
started (Extend e) lsn p = extent_started e lsn p
started (FormatBlock f) lsn p = cond (eqb f.dba (dba_of p)) (Some (new_rows (dba_of p))) None
started (Begin g) lsn p = as_txns p
started (Reuse q) lsn p = cond (eqb q.block (dba_of p)) (Some (new_undo (dba_of p) q.sequence)) None
started _ lsn p = None

abbrev pub or_kept : Option Page → Page → Page
or_kept None p = p
or_kept (Some q) p = q

-- the page that the record changes
abbrev pub start : Record → ℕ → Page → Page
start r lsn p = or_kept (started r lsn p) p
