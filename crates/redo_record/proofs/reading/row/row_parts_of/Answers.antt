use Rattle.redo_record.specs.Types.{row_part_at}
use Rattle.redo_record.proofs.Loop.{goes_on}
use Rattle.redo_record.proofs.reading.row.row_parts_of.Goals as goal

pub loop-preserved : goal.loop-preserved
loop-preserved c = goes_on row_part_at c.args.count c.loop.counter c.loop.parts.items c.push.new.self.items c.loop.input c.row_part.new.input c.args.input.now c.in_ok-row_part.field-0 c.loop-test.true c.in_ok-row_part.ensures c.in_ok-push.ensures.items c.loop.invariant
