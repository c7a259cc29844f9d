use Rattle.std.proofs.Common.{◌≡◌}
use Rattle.buffer_pool.proofs.Installs.{Progress}
use Rattle.buffer_pool.proofs.pool.BufferPool.put_all.Given as goal

abbrev pub invariant-loop-new : goal.invariant-loop-new
invariant-loop-new l = record {
  progress : Progress l.fn.pages.items l.new-iterator.rest.items l.fn.self.held l.self.held;
  shape : l.self.shape ≡ l.fn.self.shape;
}
