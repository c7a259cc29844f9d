use Rattle.std.proofs.Common.{length}
use Rattle.buffer_pool.proofs.making.+make.Given as goal

abbrev pub decreases-make : goal.decreases-make
decreases-make l = length l.blocks.now
