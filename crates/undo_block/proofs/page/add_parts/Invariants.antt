use Rattle.undo_block.specs.Types.{part_bytes}
use Rattle.page_bytes.proofs.Fronts.{Added}
use Rattle.undo_block.proofs.page.add_parts.Given as goal

abbrev pub invariant-loop-part : goal.invariant-loop-part
invariant-loop-part l = Added part_bytes l.parts l.fn.page l.at l.page l.next l.part-index
