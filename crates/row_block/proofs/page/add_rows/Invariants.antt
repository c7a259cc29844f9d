use Rattle.row_block.specs.Types.{row_bytes}
use Rattle.page_bytes.proofs.Fronts.{Added}
use Rattle.row_block.proofs.page.add_rows.Given as goal

abbrev pub invariant-loop-slot : goal.invariant-loop-slot
invariant-loop-slot l = Added row_bytes l.slots l.fn.page l.at l.page l.next l.slot-index
