-- A scan from its first event to its last: what it gathers are the rows that its blocks gave as it began, whatever others moved,
-- took back or reused meanwhile; so when all blocks are read it has each row of its view, once.
use Rattle.std.specs.Prelude.{◌≡◌, ℕ, suc, ◌≤◌, ◌<◌, List, [], ◌++◌, length, map, Some, None, slice_get}
use Rattle.seg_words.specs.Types.{Shape}
use Rattle.redo_model.specs.Model.{commit_count, rows_at, table_named, AreAllowed}
use Rattle.redo_laws.specs.Scan.{scan_list, numbered, IsInOrder}
use Rattle.session_laws.specs.Sessions.{own_of, txn_or_zero}
use Rattle.script_text.specs.declared.statement.Statement.TheVariants as asked
use Rattle.history_text.specs.declared.outcome.RowOut.{RowOut}
use Rattle.history_text.specs.declared.refusal.Refusal.TheVariants as why
use Rattle.history_model.specs.Spans.{Span}
use Rattle.history_model.specs.Released.{Gone}
use Rattle.history_model.specs.Causes.{Cause}
use Rattle.history_model.specs.TableMeans.{row_out, ScanMeans}
use Rattle.history_laws.specs.Working.{OpenScan, ScanStands}

-- a scan as its first event opens it
pub record IsOpened (sh : Shape) (x : Span) (name : List ℕ) (s : OpenScan) : Type 0 where
  pub at_once : x.begun ≡ x.ended
  pub table : table_named x.begun name ≡ Some s.obj
  pub number : s.at ≡ commit_count x.begun
  pub own : s.own ≡ own_of x.begun x.session
  pub list : s.blocks ≡ scan_list sh x.begun s.obj
  pub none_read : s.read ≡ 0
  pub no_rows : s.rows ≡ []
  pub no_mark : s.mark ≡ None

-- with a block to read it is under way
abbrev pub ScansOpen : Type 0
ScansOpen = (sh : Shape) (x : Span) (name : List ℕ) (s : OpenScan) → IsOpened sh x name s → 0 < length s.blocks → ScanStands sh x name s

-- without one it is at its end
abbrev pub EmptyScansMean : Type 0
EmptyScansMean = (sh : Shape) (x : Span) (name : List ℕ) (s : OpenScan) → AreAllowed sh x.begun → IsOpened sh x name s → length s.blocks ≡ 0 → ScanMeans sh x name s.at []

-- it read one block more, as that stands now
pub record Reads (x : Span) (s u : OpenScan) : Type 0 where
  pub obj : u.obj ≡ s.obj
  pub at : u.at ≡ s.at
  pub own : u.own ≡ s.own
  pub blocks : u.blocks ≡ s.blocks
  pub mark : u.mark ≡ s.mark
  pub read : u.read ≡ suc s.read
  pub block : ℕ
  pub next : slice_get s.blocks s.read ≡ Some block
  pub rows : u.rows ≡ s.rows ++ map row_out (rows_at x.ended block s.at (txn_or_zero s.own))

-- where it isn't marked it goes on
abbrev pub ScansRead : Type 0
ScansRead =
    (sh : Shape) (x : Span) (name : List ℕ) (s u : OpenScan) → AreAllowed sh x.ended → s.mark ≡ None → Reads x s u → u.read < length u.blocks → ScanStands sh x name s → ScanStands sh x name u

-- rows of distinct numbers were put in order of number
pub record IsSorted (found : List (ℕ × List ℕ)) (sorted : List RowOut) : Type 0 where
  pub rows : List (ℕ × List ℕ)
  pub same_rows : sorted ≡ map row_out rows
  pub in_order : IsInOrder rows
  pub same : (n : ℕ) → numbered n rows ≡ numbered n found

abbrev pub Sorts : List RowOut → List RowOut → Type 0
Sorts rows sorted = (found : List (ℕ × List ℕ)) → rows ≡ map row_out found → ((n : ℕ) → length (numbered n found) ≤ 1) → IsSorted found sorted

-- or it was the last block: then it has each row of its view, once, in order
abbrev pub ScansMean : Type 0
ScansMean =
    (sh : Shape) (x : Span) (name : List ℕ) (s u : OpenScan) (sorted : List RowOut) → AreAllowed sh x.ended → s.mark ≡ None → Reads x s u → u.read ≡ length u.blocks → Sorts u.rows sorted → ScanStands sh x name s → ScanMeans sh x name u.at sorted

-- where it is marked the mark is the cause of its refusal
abbrev pub MarksMean : Type 0
MarksMean = (sh : Shape) (x : Span) (name : List ℕ) (s : OpenScan) (g : Gone) → s.mark ≡ Some g → ScanStands sh x name s → Cause sh x (asked.Scan name) s.read (why.ObjectGone g.extent g.lowering)
