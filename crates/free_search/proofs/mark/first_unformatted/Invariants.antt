use Rattle.free_search.proofs.Marks.{FromLow}
use Rattle.free_search.proofs.mark.first_unformatted.Given as goal

abbrev pub invariant-loop-position : goal.invariant-loop-position
invariant-loop-position g l = FromLow g.D.Disk.meaning l.fn.store l.store l.shape l.segment l.position
