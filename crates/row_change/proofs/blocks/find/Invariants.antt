use Rattle.row_change.proofs.Searching.{PlacesSought}
use Rattle.row_change.proofs.blocks.find.Given as goal

abbrev pub invariant-loop-position : goal.invariant-loop-position
invariant-loop-position g l = PlacesSought g.D.Disk.meaning l.fn.store l.store l.search l.row l.next l.position
