use Rattle.row_change.proofs.Searches.{Searching}
use Rattle.row_change.proofs.spot.next_spot.Given as goal

abbrev pub invariant-loop-step : goal.invariant-loop-step
invariant-loop-step g l = Searching g.D.Disk.meaning l.fn.store l.store l.table l.shape l.current l.step l.holders
