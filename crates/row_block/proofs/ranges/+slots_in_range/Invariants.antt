use Rattle.std.proofs.Common.{length}
use Rattle.row_block.proofs.ranges.+slots_in_range.Given as goal

abbrev pub decreases-slots_in_range : goal.decreases-slots_in_range
decreases-slots_in_range l = length l.slots.now
