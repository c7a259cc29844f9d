use Rattle.redo_record.specs.Types.{back_part_at}
use Rattle.redo_record.proofs.Loop.{Going}
use Rattle.redo_record.proofs.reading.row.back_parts_of.Given as goal

abbrev pub invariant-loop : goal.invariant-loop
invariant-loop l = Going back_part_at l.count l.counter l.parts.items l.input l.fn.input
