use Rattle.std.proofs.Common.{length}
use Rattle.segment_blocks.proofs.catalogue.+entries_in_range.Given as goal

abbrev pub decreases-entries_in_range : goal.decreases-entries_in_range
decreases-entries_in_range l = length l.entries.now
