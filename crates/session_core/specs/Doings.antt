-- What a session is at, as its statement's work.
use Rattle.std.specs.Prelude.{[], None}
use Rattle.history_laws.specs.Working.{OpenScan, Inserting, OnRow, TakingBack, Scanning, Shrinking, Lowering}
use Rattle.session_model.specs.Doings.{Doing, Waiting, Working, Repairing}
use Rattle.session_core.specs.RowWorks.{work_of}
use Rattle.session_core.specs.RepairWorks.{repair_of}
use Rattle.session_core.specs.ShrinkWorks.{shrink_of, lower_of}
use Rattle.session_core.specs.declared.session.Doing.{Doing as Told}
use Rattle.session_core.specs.declared.session.Doing.TheVariants as told

-- a scan without blocks, which is never under way
abbrev pub no_scan : OpenScan
no_scan = record { obj = 0; at = 0; own = None; blocks = []; read = 0; rows = []; mark = None }

-- a scan stands elsewhere, in its session's place
abbrev pub doing_of : Told → Doing
doing_of told.Waiting = Waiting
doing_of (told.Inserting o) = Working (Inserting o)
doing_of (told.TakingBack t) = Working (TakingBack t)
doing_of (told.OnRow w) = Working (OnRow (work_of w))
doing_of told.Scanning = Working (Scanning no_scan)
doing_of (told.Repairing w) = Repairing (repair_of w)
doing_of (told.Shrinking w) = Working (Shrinking (shrink_of w))
doing_of (told.Lowering w) = Working (Lowering (lower_of w))
