use Rattle.lowering.proofs.Freeing.{Freed}
use Rattle.lowering.proofs.extent.are_free.Given as goal

abbrev pub invariant-loop-nth : goal.invariant-loop-nth
invariant-loop-nth g l = Freed g.D.Disk.meaning l.fn.store l.store l.ground l.first l.from l.to l.nth
