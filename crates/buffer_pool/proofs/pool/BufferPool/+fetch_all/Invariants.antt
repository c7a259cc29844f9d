use Rattle.std.proofs.Common.{length}
use Rattle.buffer_pool.proofs.pool.BufferPool.+fetch_all.Given as goal

abbrev pub decreases-fetch_all : goal.decreases-fetch_all
decreases-fetch_all g l = length l.blocks.now
