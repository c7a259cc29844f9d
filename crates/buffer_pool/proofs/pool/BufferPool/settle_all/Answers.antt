use Rattle.buffer_pool.proofs.Batched.{still_dirty}
use Rattle.buffer_pool.proofs.pool.BufferPool.settle_all.Goals as goal

pub settle-requires : goal.settle-requires
settle-requires c = still_dirty c.args.blocks.now c.loop-block.block-index c.args.self.now.held c.loop-block.self.held c.requires.apart c.loop-block-test.true c.loop-block.invariant.settled (c.requires.dirty c.loop-block.block-index 0 c.loop-block-test.true)
