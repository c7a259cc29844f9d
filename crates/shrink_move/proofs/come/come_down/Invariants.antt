use Rattle.shrink_move.proofs.Coming.{Descends}
use Rattle.shrink_move.proofs.come.come_down.Given as goal

abbrev pub invariant-loop-passed : goal.invariant-loop-passed
invariant-loop-passed g l = Descends g.D.Disk.meaning l.fn.store l.store l.ground l.skips l.cursor l.passed
