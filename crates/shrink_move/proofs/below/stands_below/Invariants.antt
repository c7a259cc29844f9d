use Rattle.shrink_move.proofs.Takers.{NoneBelow, Passed}
use Rattle.shrink_move.proofs.below.stands_below.Given as goal

abbrev pub invariant-loop-position : goal.invariant-loop-position
invariant-loop-position g l = Passed g.D.Disk.meaning l.fn.store l.store l.ground (NoneBelow l.ground l.dba l.position)
