-- An update or a delete at work, as the statement's work.
use Rattle.std.specs.Prelude.{ℕ, List, take, Option, Some, None}
use Rattle.history_laws.specs.Working.{FoundAt, RowWork}
use Rattle.row_change.specs.declared.place.Place.{Place}
use Rattle.session_core.specs.declared.session.Starts.{Starts}
use Rattle.session_core.specs.declared.session.RowWork.{RowWork as Told}

abbrev pub starts_of : Starts → List ℕ
starts_of s = take s.count s.commits

abbrev pub found_at : Place → FoundAt
found_at p = record { place = p.at; born = p.born; undo = p.undo; start = p.start }

abbrev pub found_in : Option Place → Option FoundAt
found_in None = None
found_in (Some p) = Some (found_at p)

abbrev pub work_of : Told → RowWork
work_of w = record { obj = w.obj; row = w.row; starts = starts_of w.starts; place = found_in w.place }
