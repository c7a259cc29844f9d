-- What a record makes of a page, and when it fits there. Both are told by the record and the page alone.
use Rattle.std.specs.Prelude.{◌≡◌, ℕ}
use Rattle.undo_block.specs.UndoPage.{UndoPage}
use Rattle.redo_record.specs.declared.record.Record.{Record}
use Rattle.redo_record.specs.declared.record.Record.TheVariants.{Reuse}
use Rattle.redo_model.specs.Effects.{effect_of}
use Rattle.page_set.specs.declared.page.Page.{Page}
use Rattle.page_set.specs.declared.page.Page.TheVariants.{Zero, Checkpoint, Txns, Catalogue, Space, Undo, First, Second, Third, Header, Rows}
use Rattle.page_set.specs.Catalogues.{catalogue_after, CatalogueFits}
use Rattle.page_set.specs.Spaces.{space_after, SpaceFits}
use Rattle.page_set.specs.Headers.{header_after, HeaderFits}
use Rattle.page_set.specs.Maps.{first_after, second_after, third_after, FirstFits, SecondFits, ThirdFits}
use Rattle.page_set.specs.Rows.{rows_after, EffectFits}
use Rattle.page_set.specs.Txns.{txns_after, TxnsFit}
use Rattle.page_set.specs.Undo.{undo_after, PartsFit}
use Rattle.page_set.specs.Started.{start}

-- the page with the record, and with its LSN; no record changes a checkpoint
abbrev pub page_after : Record → ℕ → Page → Page
page_after r lsn (Zero d) = Zero d
page_after r lsn (Checkpoint p) = Checkpoint p
page_after r lsn (Txns t) = Txns (txns_after r lsn t)
page_after r lsn (Catalogue c) = Catalogue (catalogue_after r lsn c)
page_after r lsn (Space s) = Space (space_after r lsn s)
page_after r lsn (Undo u) = Undo (undo_after (effect_of r) lsn u)
page_after r lsn (First m) = First (first_after r lsn m)
page_after r lsn (Second m) = Second (second_after r lsn m)
page_after r lsn (Third m) = Third (third_after r lsn m)
page_after r lsn (Header h) = Header (header_after r lsn h)
page_after r lsn (Rows x) = Rows (rows_after (effect_of r) lsn x)

-- what the record makes of the page
abbrev pub changed_page : Record → ℕ → Page → Page
changed_page r lsn p = page_after r lsn (start r lsn p)

abbrev pub UndoFits : Record → UndoPage → Type 0
UndoFits (Reuse q) u = q.block ≡ u.dba
UndoFits r u = PartsFit (effect_of r) u

abbrev pub PageFits : Record → Page → Type 0
PageFits r (Zero d) = ⊥
PageFits r (Checkpoint p) = ⊥
PageFits r (Txns t) = TxnsFit r
PageFits r (Catalogue c) = CatalogueFits r
PageFits r (Space s) = SpaceFits r
PageFits r (Undo u) = UndoFits r u
PageFits r (First m) = FirstFits r m
PageFits r (Second m) = SecondFits r
PageFits r (Third m) = ThirdFits r
PageFits r (Header h) = HeaderFits r h
PageFits r (Rows x) = EffectFits (effect_of r) x.dba x.block

-- the page is of the kind that the record needs, and what the record states has its place there
abbrev pub Fits : Record → ℕ → Page → Type 0
Fits r lsn p = PageFits r (start r lsn p)
