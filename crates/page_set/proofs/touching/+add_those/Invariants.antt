use Rattle.std.proofs.Common.{length}
use Rattle.page_set.proofs.touching.+add_those.Given as goal

abbrev pub decreases-add_those : goal.decreases-add_those
decreases-add_those l = length l.blocks.now
