use Rattle.std.proofs.Common.{◌≡◌, map, take}
use Rattle.buffer_pool.specs.Batches.{raw_page}
use Rattle.buffer_pool.proofs.pool.BufferPool.copy_all.Given as goal

abbrev pub invariant-loop-number : goal.invariant-loop-number
invariant-loop-number l = l.batch.items ≡ map (raw_page l.self.held) (take l.number-index l.numbers)
