-- An open scan as the work of a session's statement: the words of histories and those of this crate say the same of it.
use Rattle.std.specs.Prelude.{◌≡◌, ℕ, List, option_map, Some}
use Rattle.seg_words.specs.Types.{Shape}
use Rattle.redo_model.specs.Records.{Record}
use Rattle.redo_model.specs.Model.{table_named, AreAllowed}
use Rattle.session_laws.specs.Sessions.{own_of}
use Rattle.history_model.specs.Spans.{Span}
use Rattle.history_laws.specs.Working as working
use Rattle.history_laws.specs.Working.{IsIdle, ScanStands, marked_by}
use Rattle.scan_table.specs.declared.scan.OpenScan.{OpenScan}
use Rattle.scan_table.specs.Standing.{HoldsScan, gone_of, marked_after}

-- the scan as histories have it
abbrev pub scan_of : OpenScan → working.OpenScan
scan_of s = record { obj = s.obj; at = s.at; own = s.own; blocks = s.blocks; read = s.read; rows = s.rows; mark = option_map gone_of s.mark }

pub record IsWorkOf (sh : Shape) (x : Span) (name : List ℕ) (s : OpenScan) : Type 0 where
  pub held : AreAllowed sh x.ended → ScanStands sh x name (scan_of s) → HoldsScan sh x.begun x.ended s
  pub stands : table_named x.begun name ≡ Some s.obj → s.own ≡ own_of x.begun x.session → IsIdle x → HoldsScan sh x.begun x.ended s → ScanStands sh x name (scan_of s)
  pub marked : (r : Record) → scan_of (marked_after r s) ≡ marked_by sh r (scan_of s)

-- this is so in every store
abbrev pub ScansAreWork : Type 0
ScansAreWork = (sh : Shape) (x : Span) (name : List ℕ) (s : OpenScan) → s.shape ≡ sh → IsWorkOf sh x name s
