use Rattle.std.proofs.Common.{◌≡◌, ◌+◌, take}
use Rattle.buffer_pool.specs.Batches.{Settled}
use Rattle.buffer_pool.proofs.pool.BufferPool.settle_all.Given as goal

abbrev pub invariant-loop-block : goal.invariant-loop-block
invariant-loop-block l = record {
  settled : Settled (take l.block-index l.blocks) l.initial.self.held l.self.held;
  dirty : l.self.dirty + l.block-index ≡ l.initial.self.dirty;
  shape : l.self.shape ≡ l.initial.self.shape;
}
