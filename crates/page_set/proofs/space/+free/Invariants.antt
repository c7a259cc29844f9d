use Rattle.std.proofs.Common.{length}
use Rattle.page_set.proofs.space.+free.Given as goal

abbrev pub decreases-free : goal.decreases-free
decreases-free l = length l.extents.now
