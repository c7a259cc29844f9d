use Rattle.free_search.proofs.Walking.{Tried}
use Rattle.free_search.proofs.walk.first_in_blocks.Given as goal

abbrev pub invariant-loop-nth : goal.invariant-loop-nth
invariant-loop-nth g l = Tried g.D.Disk.meaning l.fn.store l.store l.look l.wanted l.first l.from l.to l.nth
