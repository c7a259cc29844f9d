use Rattle.recovery.proofs.Loops.{CloseLoop}
use Rattle.recovery.proofs.closing.roll_back_all.Given as goal

abbrev pub invariant-loop : goal.invariant-loop
invariant-loop g l = CloseLoop g.D.Disk.meaning l.counter l.fn.store l.store
