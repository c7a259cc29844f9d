use Rattle.recovery.proofs.Loops.{BackLoop}
use Rattle.recovery.proofs.closing.take_back_all.Given as goal

abbrev pub invariant-loop : goal.invariant-loop
invariant-loop g l = BackLoop g.D.Disk.meaning l.txn l.counter l.fn.store l.store
