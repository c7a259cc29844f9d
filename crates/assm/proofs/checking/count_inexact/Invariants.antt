use Rattle.assm.proofs.Counted.{InexactSum}
use Rattle.assm.proofs.checking.count_inexact.Given as goal

abbrev pub invariant-loop-table : goal.invariant-loop-table
invariant-loop-table g l = InexactSum g.D.Disk.meaning l.fn.store l.store l.tables l.table l.count
