-- Which page a block has after a lawful list of records, and what it holds, in the words of those who read it.
use Rattle.std.specs.Prelude.{◌≡◌, ℕ, ◌≤◌, true, List, position, replicate, Some, None}
use Rattle.seg_words.specs.Types.{Shape, TXN_ENTRIES, is_shape}
use Rattle.row_block.specs.RowPage.{RowPage}
use Rattle.undo_block.specs.UndoPage.{UndoPage}
use Rattle.txn_block.specs.declared.entry.TableEntry.TheVariants.{Unused}
use Rattle.txn_block.specs.Entries.{names}
use Rattle.txn_block.specs.Tables.{TxnTable}
use Rattle.redo_record.specs.declared.record.Record.{Record}
use Rattle.redo_model.specs.Ordinals.{txn_count}
use Rattle.redo_model.specs.Segments.{IsRowBlock}
use Rattle.redo_model.specs.Transactions.{is_active, entry_of}
use Rattle.redo_model.specs.Lawful.{AreAllowed, is_whole, IsLawful}
use Rattle.version_laws.specs.Pages.{HoldsTable, HoldsUndo, HoldsRows, IsInUse}
use Rattle.page_set.specs.declared.page.Page.TheVariants.{Zero, Txns, Undo, Rows}
use Rattle.page_set.specs.Folded.{page_of}

-- ---- block 1

pub record HasTable (sh : Shape) (R : List Record) : Type 0 where
  pub table : TxnTable
  pub page : page_of sh R 1 ≡ Txns table
  pub holds : HoldsTable R table

-- from the first Begin on the block has the transaction table
abbrev pub TablesStand : Type 0
TablesStand = (sh : Shape) (R : List Record) → is_shape sh ≡ true → AreAllowed sh R → 1 ≤ txn_count R → HasTable sh R

-- so while a transaction is active
abbrev pub ActiveHaveTable : Type 0
ActiveHaveTable = (sh : Shape) (R : List Record) (u : ℕ) → is_shape sh ≡ true → AreAllowed sh R → is_active R u ≡ true → HasTable sh R

-- looking there for an active transaction finds the place of its entry
abbrev pub EntriesAreFound : Type 0
EntriesAreFound = (sh : Shape) (R : List Record) (u i : ℕ) (t : TxnTable) → is_shape sh ≡ true → AreAllowed sh R → page_of sh R 1 ≡ Txns t → is_active R u ≡ true → entry_of R u ≡ Some i → position (names u) t.entries ≡ Some i

-- a table in which nothing stands
abbrev pub new_table : TxnTable
new_table = record { dba = 1; lsn = 0; control = 0; last_txn = 0; last_row = 0; current_undo = None; entries = replicate TXN_ENTRIES Unused }

pub record HasNoTable (sh : Shape) (R : List Record) : Type 0 where
  pub page : page_of sh R 1 ≡ Zero 1
  pub holds : HoldsTable R new_table

-- before it the block was never written, and a new table is what the list makes of it
abbrev pub TablesAreNew : Type 0
TablesAreNew = (sh : Shape) (R : List Record) → is_shape sh ≡ true → IsLawful sh R → txn_count R ≡ 0 → HasNoTable sh R

-- ---- undo blocks

pub record HasUndo (sh : Shape) (R : List Record) (u : ℕ) : Type 0 where
  pub undo : UndoPage
  pub page : page_of sh R u ≡ Undo undo
  pub holds : HoldsUndo R u undo

-- a block of the ring that was taken into use has undo
abbrev pub UndoStands : Type 0
UndoStands = (sh : Shape) (R : List Record) (u : ℕ) → is_shape sh ≡ true → AreAllowed sh R → IsInUse sh R u → HasUndo sh R u

-- and whatever page of undo there is holds what the list says
abbrev pub UndoIsHeld : Type 0
UndoIsHeld = (sh : Shape) (R : List Record) (u : ℕ) (p : UndoPage) → AreAllowed sh R → page_of sh R u ≡ Undo p → HoldsUndo R u p

-- ---- row blocks

pub record HasRowPage (sh : Shape) (R : List Record) (b : ℕ) : Type 0 where
  pub rows : RowPage
  pub page : page_of sh R b ≡ Rows rows
  pub holds : HoldsRows R b rows

-- a formatted block of a table has rows
abbrev pub RowsStand : Type 0
RowsStand = (sh : Shape) (R : List Record) (o b : ℕ) → is_shape sh ≡ true → IsLawful sh R → IsRowBlock sh R o b → HasRowPage sh R b

-- and whatever page of rows there is holds what the list says, lawful or not
abbrev pub RowsAreHeld : Type 0
RowsAreHeld = (sh : Shape) (R : List Record) (b : ℕ) (p : RowPage) → page_of sh R b ≡ Rows p → HoldsRows R b p
