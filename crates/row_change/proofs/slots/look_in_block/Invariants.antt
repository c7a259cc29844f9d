use Rattle.row_change.proofs.Searching.{SlotsSought}
use Rattle.row_change.proofs.slots.look_in_block.Given as goal

abbrev pub invariant-loop-slot : goal.invariant-loop-slot
invariant-loop-slot g l = SlotsSought g.D.Disk.meaning l.fn.store l.store l.search l.row l.dba l.slot
