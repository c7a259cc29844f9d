use Rattle.txn_end.proofs.Gathering.{Gathered}
use Rattle.txn_end.proofs.back.back_parts.Given as goal

abbrev pub invariant-loop-i : goal.invariant-loop-i
invariant-loop-i g l = Gathered g.D.Disk.meaning l.fn.store l.store l.txn l.at l.count l.i l.parts
