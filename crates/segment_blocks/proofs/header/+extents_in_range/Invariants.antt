use Rattle.std.proofs.Common.{length}
use Rattle.segment_blocks.proofs.header.+extents_in_range.Given as goal

abbrev pub decreases-extents_in_range : goal.decreases-extents_in_range
decreases-extents_in_range l = length l.extents.now
