use Rattle.std.proofs.Common.{◌-◌}
use Rattle.free_search.proofs.Walking.{Passed}
use Rattle.free_search.proofs.walk.first_in_extents.Given as goal

abbrev pub invariant-extents : goal.invariant-extents
invariant-extents g l = Passed g.D.Disk.meaning l.fn.store l.store l.look l.wanted l.only l.from l.index

abbrev pub decreases-extents : goal.decreases-extents
decreases-extents g l = l.to - l.index
