use Rattle.lowering.proofs.Counting.{Passed}
use Rattle.lowering.proofs.kept.kept_extents.Given as goal

abbrev pub invariant-loop-passed : goal.invariant-loop-passed
invariant-loop-passed g l = Passed g.D.Disk.meaning l.fn.store l.store l.ground l.passed
