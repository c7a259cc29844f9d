use Rattle.free_search.proofs.Walking.{Searched}
use Rattle.free_search.proofs.group.first_in_table.Given as goal

abbrev pub invariant-loop-group : goal.invariant-loop-group
invariant-loop-group g l = Searched g.D.Disk.meaning l.fn.store l.store l.look l.wanted l.only l.group
