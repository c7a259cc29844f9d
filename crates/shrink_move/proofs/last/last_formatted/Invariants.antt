use Rattle.shrink_move.proofs.Lasts.{NoneFormatted}
use Rattle.shrink_move.proofs.Takers.{Passed}
use Rattle.shrink_move.proofs.last.last_formatted.Given as goal

abbrev pub invariant-loop-passed : goal.invariant-loop-passed
invariant-loop-passed g l = Passed g.D.Disk.meaning l.fn.store l.store l.ground (NoneFormatted l.ground l.count l.passed)
