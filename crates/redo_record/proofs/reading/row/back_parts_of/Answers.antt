use Rattle.redo_record.specs.Types.{back_part_at}
use Rattle.redo_record.proofs.Loop.{goes_on}
use Rattle.redo_record.proofs.reading.row.back_parts_of.Goals as goal

pub loop-preserved : goal.loop-preserved
loop-preserved c = goes_on back_part_at c.args.count c.loop.counter c.loop.parts.items c.push.new.self.items c.loop.input c.back_part.new.input c.args.input.now c.in_ok-back_part.field-0 c.loop-test.true c.in_ok-back_part.ensures c.in_ok-push.ensures.items c.loop.invariant
