use Rattle.shrink_move.proofs.Takers.{NoneTakes, Passed}
use Rattle.shrink_move.proofs.taking.taker_below.Given as goal

abbrev pub invariant-loop-position : goal.invariant-loop-position
invariant-loop-position g l = Passed g.D.Disk.meaning l.fn.store l.store l.ground (NoneTakes l.ground l.len l.position)
