-- What an event that releases extents leaves of the open scans.
use Rattle.std.specs.Prelude.{◌≡◌, ℕ, ◌≤◌, List, length, option_map, Option, Result}
use Rattle.disk_model.specs.Crash.{Meaning}
use Rattle.redo_model.specs.Records.{Record}
use Rattle.script_text.specs.declared.statement.Statement.{Statement}
use Rattle.history_model.specs.Released as released
use Rattle.history_model.specs.Released.{first_gone}
use Rattle.history_model.specs.Spans.{Span}
use Rattle.store_core.specs.Store.{Held}
use Rattle.store_core.specs.declared.fault.StoreFault.{StoreFault}
use Rattle.scan_table.specs.declared.scan.Gone.{Gone}
use Rattle.scan_table.specs.declared.scan.OpenScan.{OpenScan}
use Rattle.scan_table.specs.Places.{place}
use Rattle.scan_table.specs.Standing.{or_mark, unread}
use Rattle.session_core.specs.declared.turned.Acted.{Acted}
use Rattle.session_core.specs.Acting.{HasActed}

abbrev pub told_gone : released.Gone → Gone
told_gone g = record { extent = g.extent; lowering = g.lowering }

-- a scan with the mark of what the records after the first n released, where it had none
abbrev pub marked_over : ℕ → List Record → OpenScan → OpenScan
marked_over n R s = record s { mark = or_mark s.mark (option_map told_gone (first_gone s.shape s.obj (unread s) n R)) }

-- each session's scan, and nothing else
abbrev pub AreMarked : ℕ → List Record → List (Option OpenScan) → List (Option OpenScan) → Type 0
AreMarked n R before after = (v : ℕ) → 1 ≤ v → place v after ≡ option_map (marked_over n R) (place v before)

-- What an event of a statement does to a true store, whatever it answers, and to the open scans: they are marked by what its records
-- released.
pub record HasActedMarking {D : Type 0} (meaning : Meaning D) (x : Span) (st : Option Statement) (before after : List (Option OpenScan)) (old new : Held D) (result : Result Acted StoreFault) : Type 0 where
  pub acted : HasActed meaning x st old new result
  pub marks : AreMarked (length x.ended) acted.records before after
