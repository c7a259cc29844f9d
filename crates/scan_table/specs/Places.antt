-- One place for the open scan of each session.
use Rattle.std.specs.Prelude.{◌≡◌, ℕ, ◌-◌, ◌<◌, ◌≤◌, Bool, true, false, cond, List, [], length, map, slice_index_or, Option, Some, None, IsSome, Result, Ok, Err}
use Rattle.seg_words.specs.Types.{Shape}
use Rattle.redo_model.specs.Records.{Record}
use Rattle.redo_model.specs.Model.{commit_count, view_rows}
use Rattle.redo_laws.specs.Scan.{scan_list}
use Rattle.version_read.specs.Walking.{txn_or_none}
use Rattle.history_laws.specs.Scans.{Sorts}
use Rattle.store_core.specs.Causes.{IsSoundFault}
use Rattle.scan_table.specs.declared.answer.ScanFault.{ScanFault}
use Rattle.scan_table.specs.declared.answer.ScanFault.TheVariants as faults
use Rattle.scan_table.specs.declared.answer.ScanStep.{ScanStep}
use Rattle.scan_table.specs.declared.answer.ScanStep.TheVariants as steps
use Rattle.scan_table.specs.declared.answer.Scanned.{Scanned}
use Rattle.scan_table.specs.declared.scan.OpenScan.{OpenScan}
use Rattle.scan_table.specs.Reading.{row_out}
use Rattle.scan_table.specs.Standing.{HoldsScan, IsDone, IsMore, Refuses}

-- the open scan of a session; sessions are numbered from 1
abbrev pub place : ℕ → List (Option OpenScan) → Option OpenScan
place who places = slice_index_or places (who - 1) None

-- how many blocks of its list it has read
abbrev pub blocks_read : Option OpenScan → ℕ
blocks_read None = 0
blocks_read (Some s) = s.read

-- the scan stays open
abbrev pub stays_open : Result ScanStep ScanFault → Bool
stays_open (Ok steps.More) = true
stays_open (Ok (steps.Done d)) = false
stays_open (Err (faults.Store f)) = true
stays_open (Err e) = false

-- what is in its place after an event that left it so
abbrev pub left_by : Result ScanStep ScanFault → OpenScan → Option OpenScan
left_by r u = cond (stays_open r) (Some u) None

-- ---- a scan that begins

-- it stands in its place where a block is to be read, else its rows are given
abbrev pub IsBegun : OpenScan → Option OpenScan → ScanStep → Type 0
IsBegun s x steps.More = (x ≡ Some s) × (s.read < length s.blocks)
IsBegun s x (steps.Done d) = (x ≡ None) × (d.at ≡ s.at) × (length s.blocks ≤ s.read) × Sorts s.rows d.rows

-- whatever the store is
abbrev pub IsOpenAfter : Option OpenScan → Result ScanStep ScanFault → Type 0
IsOpenAfter x (Ok steps.More) = IsSome x
IsOpenAfter x (Ok (steps.Done d)) = x ≡ None
IsOpenAfter x (Err e) = x ≡ None

pub record HasBegun (sh : Shape) (R : List Record) (o : ℕ) (own : Option ℕ) (x : Option OpenScan) : Type 0 where
  pub scan : OpenScan
  pub open_now : x ≡ Some scan
  pub obj_is : scan.obj ≡ o
  pub own_is : scan.own ≡ own
  pub none_read : scan.read ≡ 0
  pub stands : HoldsScan sh R R scan

-- no block is to be read
pub record IsEmpty (sh : Shape) (R : List Record) (o : ℕ) (own : Option ℕ) (d : Scanned) : Type 0 where
  pub none_listed : scan_list sh R o ≡ []
  pub at_is : d.at ≡ commit_count R
  pub rows_are : d.rows ≡ map row_out (view_rows R o (commit_count R) (txn_or_none own))

abbrev pub Begins : Shape → List Record → ℕ → Option ℕ → Option OpenScan → Result ScanStep ScanFault → Type 0
Begins sh R o own x (Ok steps.More) = HasBegun sh R o own x
Begins sh R o own x (Ok (steps.Done d)) = (x ≡ None) × IsEmpty sh R o own d
Begins sh R o own x (Err (faults.Store f)) = IsSoundFault f
Begins sh R o own x (Err e) = ⊥

-- ---- a scan's next event

-- Whatever the store is: a scan stays open where it goes on, and as it was where the store failed; else it is closed. It is
-- refused as its mark says exactly where it is marked.
abbrev pub IsAfter : OpenScan → Option OpenScan → Result ScanStep ScanFault → Type 0
IsAfter s x (Ok steps.More) = (s.mark ≡ None) × IsSome x
IsAfter s x (Ok (steps.Done d)) = (s.mark ≡ None) × (x ≡ None)
IsAfter s x (Err (faults.Gone e n)) = (s.mark ≡ Some (record { extent = e; lowering = n })) × (x ≡ None)
IsAfter s x (Err (faults.Store f)) = (s.mark ≡ None) × (x ≡ Some s)
IsAfter s x (Err e) = (s.mark ≡ None) × (x ≡ None)

pub record GoesOn (B R : List Record) (s : OpenScan) (x : Option OpenScan) : Type 0 where
  pub scan : OpenScan
  pub open_now : x ≡ Some scan
  pub more : IsMore s.shape B R s scan

abbrev pub Steps : List Record → List Record → OpenScan → Option OpenScan → Result ScanStep ScanFault → Type 0
Steps B R s x (Ok steps.More) = GoesOn B R s x
Steps B R s x (Ok (steps.Done d)) = IsDone B R s d
Steps B R s x (Err e) = Refuses B R s e
