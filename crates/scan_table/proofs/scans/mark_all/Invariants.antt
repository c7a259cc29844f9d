use Rattle.scan_table.proofs.Lowering.{MarkedUpTo}
use Rattle.scan_table.proofs.scans.mark_all.Given as goal

abbrev pub invariant-loop-at : goal.invariant-loop-at
invariant-loop-at l = MarkedUpTo l.obj l.gone l.fn.places.items l.places.items l.at
