use Rattle.buffer_pool.proofs.Batched.{copied_more, dirty_some}
use Rattle.buffer_pool.proofs.pool.BufferPool.copy_all.Goals as goal

pub raw-requires : goal.raw-requires
raw-requires c = dirty_some _ (c.requires c.loop-number.number-index 0 c.loop-number-test.true)

pub loop-number-preserved : goal.loop-number-preserved
loop-number-preserved c = rw c.in_ok-push.ensures.items (copied_more c.args.self.now.held c.args.numbers.now c.loop-number.number-index c.loop-number.batch.items c.raw.result c.loop-number-test.true c.loop-number.invariant c.raw.ensures)
