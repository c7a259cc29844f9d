use Rattle.txn_end.proofs.Gathering.{blocks_next}
use Rattle.txn_end.proofs.back.blocks_of.Goals as goal

pub loop-part-preserved : goal.loop-part-preserved
loop-part-preserved c = blocks_next c.args.parts.now c.loop-part.part-index c.part-item.result c.loop-part.blocks c.push.new.self c.loop-part-test.true c.part-item.is c.loop-part.invariant c.in-Ok.ensures.ok
