-- What a reader at a commit number is shown of a slot, and what a whole block gives or why it gives nothing. Oracle Database
-- Concepts, "Multiversion Read Consistency", and error ORA-01555, "snapshot too old"; that slots are read in order is this
-- engine's own.
use Rattle.std.specs.Prelude.{◌≡◌, ℕ, ◌<◌, true, List, ◌++◌, map, option_map, option_to_list, Option, Some, None, Result, Ok, Err}
use Rattle.seg_words.specs.Types.{Shape, Slot, UndoAddr, is_shape}
use Rattle.redo_model.specs.Records.{Record}
use Rattle.redo_model.specs.Model.{slot_count, image_at, row_at, rows_at, IsTable, IsRowBlock, IsLawful}
use Rattle.row_block.specs.Types.{RowPage}
use Rattle.version_laws.specs.Types.{HoldsTable, Found, Lost, Unknown, chain_end, IsTooOld, IsTooOldEntry}
use Rattle.version_read.specs.Walking.{IsOwn, IsRefused, IsRefusedEntry, StepsTo, txn_or_none}
use Rattle.version_read.specs.declared.version.Version as versions
use Rattle.version_read.specs.declared.version.Version.TheVariants as version
use Rattle.page_set.specs.declared.page.Page.{Page}
use Rattle.page_set.specs.declared.page.Page.TheVariants.{Rows}
use Rattle.store_core.specs.Causes.{IsSoundFault}
use Rattle.store_core.specs.declared.fault.StoreFault.{StoreFault}
use Rattle.history_text.specs.declared.outcome.RowOut.{RowOut}
pub use Rattle.history_model.specs.TableMeans.{row_out}
use Rattle.scan_table.specs.declared.answer.ScanFault.{ScanFault}
use Rattle.scan_table.specs.declared.answer.ScanFault.TheVariants as faults
use Rattle.scan_table.specs.declared.reader.Reader.{Reader}
use Rattle.scan_table.specs.declared.reader.Shown as showns
use Rattle.scan_table.specs.declared.reader.Shown.TheVariants as shown

-- a page of rows
abbrev pub rows_of : Page → Option RowPage
rows_of (Rows b) = Some b
rows_of _ = None

abbrev pub row_of : Slot → RowOut
row_of i = record { row = i.row; bytes = i.bytes }

-- what of an answer is the store's: a refusal of the scan went well
abbrev pub store_part : {T : Type 0} → Result T ScanFault → Result (Unit {0}) StoreFault
store_part (Ok x) = Ok tt
store_part (Err (faults.TooOld a)) = Ok tt
store_part (Err (faults.TooOldEntry u)) = Ok tt
store_part (Err (faults.Gone x n)) = Ok tt
store_part (Err (faults.Store f)) = Err f

-- no block is refused for what was released
abbrev pub IsOfBlock : ScanFault → Type 0
IsOfBlock (faults.Gone x n) = ⊥
IsOfBlock _ = Unit {0}

-- The reader has the transaction table of a lawful list in a store of this shape, in which block b is a row block of table o.
pub record IsReading (sh : Shape) (R : List Record) (q : Reader) (o b : ℕ) : Type 0 where
  pub shape_is : q.shape ≡ sh
  pub within : is_shape q.shape ≡ true
  pub lawful : IsLawful q.shape R
  pub own_is : IsOwn R q.own
  pub txns : HoldsTable R q.table
  pub there : IsTable R o
  pub here : IsRowBlock q.shape R o b

-- ---- a slot

-- the walk down from the slot's image ends at the image that counts, and gives this row, or none
pub record SlotGives (R : List Record) (b k s t : ℕ) (row : Option RowOut) : Type 0 where
  pub ends : chain_end R b k s t ≡ Found (image_at R b k s t)
  pub row_is : row ≡ option_map row_out (row_at R b k s t)

-- a version as it is handed on
abbrev pub ShowsAs : versions.Version → showns.Shown → Type 0
ShowsAs (version.Row i) (shown.Row row) = row ≡ row_of i.now
ShowsAs version.Nothing shown.Nothing = Unit {0}
ShowsAs (version.Step a) (shown.Below c) = c ≡ a
ShowsAs (version.TooOldEntry u) (shown.TooOldEntry v) = v ≡ u
ShowsAs _ _ = ⊥

-- by the page alone
abbrev pub Shows : List Record → Reader → ℕ → ℕ → showns.Shown → Type 0
Shows R q b k (shown.Row row) = SlotGives R b k q.at (txn_or_none q.own) (Some row)
Shows R q b k shown.Nothing = SlotGives R b k q.at (txn_or_none q.own) None
Shows R q b k (shown.Below a) = StepsTo q.shape R b k q.at q.own a
Shows R q b k (shown.TooOldEntry u) = IsRefusedEntry R b k q.at (txn_or_none q.own) u

-- why a slot gives nothing to go on with: the first part on the way that was reused, or an image of a forgotten transaction
abbrev pub SlotRefuses : List Record → Reader → ℕ → ℕ → ScanFault → Type 0
SlotRefuses R q b k (faults.TooOld a) = IsRefused R b k q.at (txn_or_none q.own) a
SlotRefuses R q b k (faults.TooOldEntry u) = IsRefusedEntry R b k q.at (txn_or_none q.own) u
SlotRefuses R q b k (faults.Gone x n) = ⊥
SlotRefuses R q b k (faults.Store f) = IsSoundFault f

abbrev pub SlotAnswers : List Record → Reader → ℕ → ℕ → Result (Option RowOut) ScanFault → Type 0
SlotAnswers R q b k (Ok row) = SlotGives R b k q.at (txn_or_none q.own) row
SlotAnswers R q b k (Err e) = SlotRefuses R q b k e

-- its row was added to those before it
pub record SlotAdded (R : List Record) (b k s t : ℕ) (old new : List RowOut) : Type 0 where
  pub ends : chain_end R b k s t ≡ Found (image_at R b k s t)
  pub rows_are : new ≡ old ++ option_to_list (option_map row_out (row_at R b k s t))

abbrev pub SlotAdds : List Record → Reader → ℕ → ℕ → List RowOut → List RowOut → Result (Unit {0}) ScanFault → Type 0
SlotAdds R q b k old new (Ok x) = SlotAdded R b k q.at (txn_or_none q.own) old new
SlotAdds R q b k old new (Err e) = SlotRefuses R q b k e

-- ---- a block

-- the walks from the first n slots end at images that count
abbrev pub AllEnd : List Record → ℕ → ℕ → ℕ → ℕ → Type 0
AllEnd R b s t n = (k : ℕ) → k < n → chain_end R b k s t ≡ Found (image_at R b k s t)

-- all slots were read, and these are their rows, in order of slots
pub record IsRead (R : List Record) (b s t : ℕ) (rows : List RowOut) : Type 0 where
  pub ends : AllEnd R b s t (slot_count R b)
  pub rows_are : rows ≡ map row_out (rows_at R b s t)

-- the first slot whose walk doesn't end at an image that counts ends at this part, which is needed and was reused
pub record IsFirstLost (R : List Record) (b s t : ℕ) (a : UndoAddr) : Type 0 where
  pub slot : ℕ
  pub there : slot < slot_count R b
  pub before : AllEnd R b s t slot
  pub ends : chain_end R b slot s t ≡ Lost a
  pub means : IsTooOld R b s t a

-- or at an image of this transaction, which is forgotten
pub record IsFirstUnknown (R : List Record) (b s t u : ℕ) : Type 0 where
  pub slot : ℕ
  pub there : slot < slot_count R b
  pub before : AllEnd R b s t slot
  pub ends : chain_end R b slot s t ≡ Unknown u
  pub means : IsTooOldEntry R b s t u

abbrev pub BlockRefuses : List Record → ℕ → ℕ → ℕ → ScanFault → Type 0
BlockRefuses R b s t (faults.TooOld a) = IsFirstLost R b s t a
BlockRefuses R b s t (faults.TooOldEntry u) = IsFirstUnknown R b s t u
BlockRefuses R b s t (faults.Gone x n) = ⊥
BlockRefuses R b s t (faults.Store f) = IsSoundFault f

abbrev pub BlockAnswers : List Record → ℕ → ℕ → ℕ → Result (List RowOut) ScanFault → Type 0
BlockAnswers R b s t (Ok rows) = IsRead R b s t rows
BlockAnswers R b s t (Err e) = BlockRefuses R b s t e
