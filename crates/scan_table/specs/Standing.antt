-- An open scan: what it has gathered is what its first blocks gave in the list as it began, whatever records others added since.
-- Oracle Database Concepts, "Multiversion Read Consistency"; that it is read block by block, and stops where a block that it has
-- yet to read is released, is this engine's own.
use Rattle.std.specs.Prelude.{◌≡◌, ℕ, suc, ◌+◌, ◌<◌, ◌≤◌, cond, eqb, List, [], ◌∷◌, ◌++◌, length, take, drop, map, option_map, slice_get, Option, Some, None, Result, Ok, Err}
use Rattle.seg_words.specs.Types.{Shape, UndoAddr}
use Rattle.redo_model.specs.Records.{Record, Lower, LowerRecord}
use Rattle.redo_model.specs.Model.{Effect, effect_of, commit_count, view_rows, IsTable, IsRowBlock, slot_count}
use Rattle.redo_laws.specs.Scan.{scan_list, scanned}
use Rattle.redo_laws.specs.Stays.{Later, IsNotOf}
use Rattle.version_read.specs.Walking.{IsOwn, txn_or_none}
use Rattle.history_text.specs.declared.outcome.RowOut.{RowOut}
use Rattle.history_model.specs.Released as released
use Rattle.history_model.specs.Released.{first_gone, gone_by, least_having, or_else}
use Rattle.history_laws.specs.Scans.{Sorts}
use Rattle.store_core.specs.Causes.{IsSoundFault}
use Rattle.store_core.specs.declared.lowered.Lowered.{Lowered}
use Rattle.scan_table.specs.declared.answer.ScanFault.{ScanFault}
use Rattle.scan_table.specs.declared.answer.ScanFault.TheVariants as faults
use Rattle.scan_table.specs.declared.answer.ScanStep.{ScanStep}
use Rattle.scan_table.specs.declared.answer.ScanStep.TheVariants as steps
use Rattle.scan_table.specs.declared.answer.Scanned.{Scanned}
use Rattle.scan_table.specs.declared.scan.Gone.{Gone}
use Rattle.scan_table.specs.declared.scan.OpenScan.{OpenScan}
use Rattle.scan_table.specs.Reading.{AllEnd, BlockRefuses, IsFirstLost, IsFirstUnknown, IsRead, row_out}

-- ---- marks

abbrev pub gone_of : Gone → released.Gone
gone_of g = record { extent = g.extent; lowering = g.lowering }

abbrev pub mark_with : ℕ → Option ℕ → Option Gone
mark_with n None = None
mark_with n (Some x) = Some (record { extent = x; lowering = n })

-- the first mark stays
abbrev pub or_mark : Option Gone → Option Gone → Option Gone
or_mark None m = m
or_mark (Some g) m = Some g

abbrev pub unread : OpenScan → List ℕ
unread s = drop s.read s.blocks

-- after extents of a table were released
abbrev pub marked_by : ℕ → Lowered → OpenScan → OpenScan
marked_by o l s = record s { mark = or_mark s.mark (cond (eqb o s.obj) (mark_with l.number (least_having s.shape (unread s) l.released)) None) }

-- after a record
abbrev pub marked_after : Record → OpenScan → OpenScan
marked_after (Lower l) s = record s { mark = or_mark s.mark (cond (eqb l.obj s.obj) (mark_with l.lowering (least_having s.shape (unread s) l.released)) None) }
marked_after _ s = s

-- ---- a scan under way

-- The scan began with the records B. Since then its own transaction, which is active or none, changed nothing.
pub record HoldsScan (sh : Shape) (B R : List Record) (s : OpenScan) : Type 0 where
  pub shape_is : s.shape ≡ sh
  pub table : IsTable B s.obj
  pub number : s.at ≡ commit_count B
  pub own_then : IsOwn B s.own
  pub own_now : IsOwn R s.own
  pub quiet : Later (λ (e : Effect). IsNotOf e (txn_or_none s.own)) B R
  pub list : s.blocks ≡ scan_list sh B s.obj
  pub within : s.read < length s.blocks
  pub marked : option_map gone_of s.mark ≡ first_gone sh s.obj (unread s) (length B) R
  pub gathered : s.rows ≡ map row_out (scanned (λ b. B) (take s.read s.blocks) (commit_count B) (txn_or_none s.own))

-- A record of another transaction leaves it so, but for its mark.
abbrev pub ScansStay : Type 0
ScansStay =
    (sh : Shape) (B R : List Record) (r : Record) (s : OpenScan) → IsNotOf (effect_of r) (txn_or_none s.own) → IsOwn (r ∷ R) s.own → HoldsScan sh B R s → HoldsScan sh B (r ∷ R) (marked_after r s)

-- What a lowering is said to have released marks a scan as its record does.
abbrev pub MarksAreLowerings : Type 0
MarksAreLowerings = (x : Lowered) (l : LowerRecord) (s : OpenScan) → x.released ≡ l.released → x.number ≡ l.lowering → marked_by l.obj x s ≡ marked_after (Lower l) s

-- ---- as it begins

-- none of its blocks was read
pub record IsOpened (sh : Shape) (R : List Record) (o : ℕ) (own : Option ℕ) (s : OpenScan) : Type 0 where
  pub shape_is : s.shape ≡ sh
  pub obj_is : s.obj ≡ o
  pub own_is : s.own ≡ own
  pub number : s.at ≡ commit_count R
  pub list : s.blocks ≡ scan_list sh R o
  pub none_read : s.read ≡ 0
  pub no_rows : s.rows ≡ []
  pub no_mark : s.mark ≡ None

-- ---- one block

pub record IsScanning (sh : Shape) (R : List Record) (o : ℕ) (s : OpenScan) (b : ℕ) : Type 0 where
  pub shape_is : s.shape ≡ sh
  pub own_is : IsOwn R s.own
  pub there : IsTable R o
  pub here : IsRowBlock s.shape R o b

-- with the rows of one block more
abbrev pub with_rows : OpenScan → List RowOut → OpenScan
with_rows s rows = record s { read = s.read + 1; rows = s.rows ++ rows }

pub record IsReadOn (R : List Record) (s u : OpenScan) (b : ℕ) : Type 0 where
  pub rows : List RowOut
  pub new : u ≡ with_rows s rows
  pub read : IsRead R b s.at (txn_or_none s.own) rows

abbrev pub ReadsOn : List Record → OpenScan → OpenScan → ℕ → Result (Unit {0}) ScanFault → Type 0
ReadsOn R s u b (Ok x) = IsReadOn R s u b
ReadsOn R s u b (Err e) = BlockRefuses R b s.at (txn_or_none s.own) e

-- ---- one event

-- it goes on where a block is left to read, else it gives its rows in order
abbrev pub LeavesOff : OpenScan → OpenScan → ScanStep → Type 0
LeavesOff s u steps.More = (u ≡ s) × (s.read < length s.blocks)
LeavesOff s u (steps.Done d) = (d.at ≡ s.at) × (length s.blocks ≤ s.read) × Sorts s.rows d.rows

-- A scan is refused as its mark says exactly where it is marked; a refusal leaves it as it was.
abbrev pub IsSettled : OpenScan → OpenScan → Result ScanStep ScanFault → Type 0
IsSettled s u (Ok x) = s.mark ≡ None
IsSettled s u (Err (faults.Gone x n)) = s.mark ≡ Some (record { extent = x; lowering = n })
IsSettled s u (Err e) = (s.mark ≡ None) × (u ≡ s)

-- in the next block the walk of each slot ends at the image that counts
pub record IsBlockRead (B R : List Record) (s : OpenScan) : Type 0 where
  pub block : ℕ
  pub next : slice_get s.blocks s.read ≡ Some block
  pub ends : AllEnd R block (commit_count B) (txn_or_none s.own) (slot_count R block)

-- the next block was read, and another one is left
pub record IsMore (sh : Shape) (B R : List Record) (s u : OpenScan) : Type 0 where
  pub block_is : IsBlockRead B R s
  pub obj_is : u.obj ≡ s.obj
  pub own_is : u.own ≡ s.own
  pub one_read : u.read ≡ suc s.read
  pub stands : HoldsScan sh B R u

-- the last block was read: the rows are those of the view when the scan began, in order of row number, each once
pub record IsDone (B R : List Record) (s : OpenScan) (d : Scanned) : Type 0 where
  pub block_is : IsBlockRead B R s
  pub last : suc s.read ≡ length s.blocks
  pub at_is : d.at ≡ commit_count B
  pub rows_are : d.rows ≡ map row_out (view_rows B s.obj (commit_count B) (txn_or_none s.own))

-- the next block, and what of it is too old
pub record IsPartLost (B R : List Record) (s : OpenScan) (a : UndoAddr) : Type 0 where
  pub block : ℕ
  pub next : slice_get s.blocks s.read ≡ Some block
  pub first : IsFirstLost R block (commit_count B) (txn_or_none s.own) a

pub record IsEntryLost (B R : List Record) (s : OpenScan) (u : ℕ) : Type 0 where
  pub block : ℕ
  pub next : slice_get s.blocks s.read ≡ Some block
  pub first : IsFirstUnknown R block (commit_count B) (txn_or_none s.own) u

-- what was released first of the blocks that are left to read
abbrev pub IsGone : Shape → List Record → List Record → OpenScan → ℕ → ℕ → Type 0
IsGone sh B R s x n = first_gone sh s.obj (unread s) (length B) R ≡ Some (record { extent = x; lowering = n })

abbrev pub Refuses : List Record → List Record → OpenScan → ScanFault → Type 0
Refuses B R s (faults.TooOld a) = IsPartLost B R s a
Refuses B R s (faults.TooOldEntry u) = IsEntryLost B R s u
Refuses B R s (faults.Gone x n) = IsGone s.shape B R s x n
Refuses B R s (faults.Store f) = IsSoundFault f

abbrev pub Advances : List Record → List Record → OpenScan → OpenScan → Result ScanStep ScanFault → Type 0
Advances B R s u (Ok steps.More) = IsMore s.shape B R s u
Advances B R s u (Ok (steps.Done d)) = IsDone B R s d
Advances B R s u (Err e) = Refuses B R s e
