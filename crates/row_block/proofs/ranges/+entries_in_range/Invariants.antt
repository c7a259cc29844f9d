use Rattle.std.proofs.Common.{length}
use Rattle.row_block.proofs.ranges.+entries_in_range.Given as goal

abbrev pub decreases-entries_in_range : goal.decreases-entries_in_range
decreases-entries_in_range l = length l.entries.now
