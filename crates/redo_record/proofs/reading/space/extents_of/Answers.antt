use Rattle.std.proofs.Common.{w32}
use Rattle.redo_record.specs.Types.{number}
use Rattle.redo_record.proofs.Loop.{goes_on}
use Rattle.redo_record.proofs.reading.space.extents_of.Goals as goal

pub loop-preserved : goal.loop-preserved
loop-preserved c = goes_on (number w32) c.args.count c.loop.counter c.loop.extents.items c.push.new.self.items c.loop.input c.u32.new.self c.args.input.now c.in_ok-u32.field-0 c.loop-test.true c.in_ok-u32.ensures c.in_ok-push.ensures.items c.loop.invariant
