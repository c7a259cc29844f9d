use Rattle.txn_end.proofs.Gathering.{Sought}
use Rattle.txn_end.proofs.table.table_of.Given as goal

abbrev pub invariant-loop-number : goal.invariant-loop-number
invariant-loop-number g l = Sought g.D.Disk.meaning l.fn.store l.store l.extent l.number
