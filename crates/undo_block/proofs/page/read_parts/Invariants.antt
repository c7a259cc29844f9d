use Rattle.undo_block.specs.Types.{parts_in}
use Rattle.undo_block.proofs.Reading.{Reads}
use Rattle.undo_block.proofs.page.read_parts.Given as goal

abbrev pub invariant-loop : goal.invariant-loop
invariant-loop l = Reads l.count l.counter l.parts l.rest (parts_in l.count l.fn.bytes)
