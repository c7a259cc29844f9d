use Rattle.scan_table.proofs.Going.{SlotsRead}
use Rattle.scan_table.proofs.slots.read_block.Given as goal

abbrev pub invariant-loop-slot : goal.invariant-loop-slot
invariant-loop-slot g l = SlotsRead g.D.Disk.meaning l.fn.store l.store l.reader l.dba l.slot l.rows
