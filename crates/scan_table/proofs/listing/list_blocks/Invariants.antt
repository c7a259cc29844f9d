use Rattle.scan_table.proofs.Locating.{Listed}
use Rattle.scan_table.proofs.listing.list_blocks.Given as goal

abbrev pub invariant-loop-position : goal.invariant-loop-position
invariant-loop-position g l = Listed g.D.Disk.meaning l.fn.store l.store l.listing l.next l.position l.blocks
