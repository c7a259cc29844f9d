use Rattle.space_usage.proofs.Walks.{InexactWalk}
use Rattle.space_usage.proofs.counting.count_inexact.Given as goal

abbrev pub invariant-loop : goal.invariant-loop
invariant-loop g l = InexactWalk g.D.Disk.meaning l.fn.store l.store l.shape l.segment l.table l.counter l.place l.count
