use Rattle.row_block.specs.Types.{slots_in}
use Rattle.row_block.proofs.Reading.{Reads}
use Rattle.row_block.proofs.page.read_slots.Given as goal

abbrev pub invariant-loop : goal.invariant-loop
invariant-loop l = Reads l.count l.counter l.slots.items l.groups l.rows (slots_in l.count l.fn.groups l.fn.rows)
