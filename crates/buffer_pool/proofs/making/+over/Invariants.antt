use Rattle.std.proofs.Common.{length}
use Rattle.buffer_pool.proofs.making.+over.Given as goal

abbrev pub decreases-over : goal.decreases-over
decreases-over l = length l.first.now
